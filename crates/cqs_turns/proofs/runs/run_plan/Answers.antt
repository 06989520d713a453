use Rattle.std.proofs.Common.{◌∙◌, length, ap, subst}
use Rattle.cqs_core.specs.Parts.{IsPrefix}
use Rattle.cqs_turns_report.specs.Report.{report_after}
use Rattle.cqs_turns_report.specs.Running.{machine_of}
use Rattle.cqs_turns_report.specs.Turns.{Machine, machine_after}
use Rattle.cqs_turns_report.proofs.Growth.{on-err}
use Rattle.cqs_turns.proofs.Ends.{prefix-empty, prefix-ends, prefix-turns, opens}
use Rattle.cqs_turns.proofs.runs.run_plan.Goals as goal

pub returns-in_err-states-clause-err : goal.returns-in_err-states-clause-err
returns-in_err-states-clause-err g c = on-err c.from_residual.result (prefix-empty _ _ c.requires.empty)

pub all_turns-requires-clause-opening : goal.all_turns-requires-clause-opening
all_turns-requires-clause-opening g c =
    opens c.args.plan.now _ _ c.as_mut_slice.result.now c.requires.opening c.requires.empty
    (c.as_mut_slice.ensures.len ∙ c.in_ok-states.ensures.len ∙ ap length c.as_slice.ensures)
    (rw c.as_mut_slice.ensures.value c.in_ok-states.ensures.opening)

pub returns-in_err-all_turns-clause-err : goal.returns-in_err-all_turns-clause-err
returns-in_err-all_turns-clause-err g c =
    on-err c.from_residual-in_err-all_turns.result
    (prefix-turns c.args.plan.now (machine_after c.args.plan.now c.args.plan.now.turns) _
    c.in_err-all_turns.ensures.err)

pub returns-in_err-tell_ends-clause-err : goal.returns-in_err-tell_ends-clause-err
returns-in_err-tell_ends-clause-err g c =
    let new = c.all_turns.new in
    let m : Machine = machine_of (g.F.Floor.plain new.floor) new.report new.states in
    on-err c.from_residual-in_err-tell_ends.result
    (subst (λ (m : Machine). IsPrefix c.tell_ends.new.report (report_after c.args.plan.now m))
    c.in_ok-all_turns.ensures.ok (prefix-ends c.args.plan.now m _ c.in_err-tell_ends.ensures.err))
