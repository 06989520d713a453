use Rattle.std.proofs.Common.{◌∙◌, length, ap, rules}
use Rattle.cqs_turns.proofs.Ends.{opens, summed, the_first}
use Rattle.cqs_turns.proofs.runs.summarize_plan.Goals as goal

pub all_turns-requires-clause-opening : goal.all_turns-requires-clause-opening
all_turns-requires-clause-opening g c =
    opens c.args.plan.now _ _ c.as_mut_slice.result.now c.requires.opening c.new-report.ensures
    (c.as_mut_slice.ensures.len ∙ c.in_ok-states.ensures.len ∙ ap length c.as_slice.ensures)
    (rw c.as_mut_slice.ensures.value c.in_ok-states.ensures.opening)

pub returns-clause-summary : goal.returns-clause-summary
returns-clause-summary g c =
    c.into_text.ensures
    ∙ summed c.args.plan.now _ _ c.all_turns.new.states c.as_slice-2.result.now _ _ _ _
    (c.as_slice-2.ensures.value ∙ the_first c.in_ok-states.states.len c.all_turns.new.states _ (search rules))
    c.in_ok-all_turns.ensures.ok c.clear.ensures c.in_ok-tell_ends.ensures.ok c.in_ok-tell_total.ensures.ok
