use Rattle.std.proofs.Common.{rules, ◌*◌, ◌<◌, ap, length, arith, subst, zero-add, ◌∙◌}
use Rattle.cqs_rule.specs.Passes.{pass_view}
use Rattle.cqs_semaphore_crew.specs.Sums.{CountsRounds}
use Rattle.cqs_semaphore_crew.specs.Workers.{HasMetAll}
use Rattle.cqs_semaphore_crew.proofs.Meeting.{counted-from, met-then}
use Rattle.cqs_semaphore_crew.proofs.crew.together.Goals as goal

pub returns-clause-met : goal.returns-clause-met
returns-clause-met g c =
    subst (λ n. HasMetAll (pass_view c.args.pass.now) n (pass_view c.dismiss.new.pass))
    (zero-add _ ∙ (c.in_ok-worked.ensures.len ∙ c.in_ok-passes.ensures.many))
    (met-then 0 _ _ _ _ c.in_ok-passes.ensures.met c.dismiss.ensures.met)

pub returns-clause-made : goal.returns-clause-made
returns-clause-made g c =
    let none = ap (λ l. length l) c.dismiss.ensures.made_none in
    let hired = c.in_ok-passes.ensures.made in
    omega arith

pub returns-clause-rounds : goal.returns-clause-rounds
returns-clause-rounds g c =
    subst (λ n. CountsRounds (n * c.args.rounds) c.dismiss.result)
    (c.in_ok-worked.ensures.len ∙ c.in_ok-passes.ensures.many) c.dismiss.ensures.rounds

pub returns-clause-counted : goal.returns-clause-counted
returns-clause-counted g c = counted-from c.args.rounds _ _ _ _ c.in_ok-passes.ensures.same c.dismiss.ensures.counted

-- what each worker told
pub dismiss-requires-clause-told : goal.dismiss-requires-clause-told
dismiss-requires-clause-told g c = λ k d low.
    let below : k < length c.in_ok-passes.passes.items = omega (arith, low, c.in_ok-worked.ensures.len) in
    let learnt = (c.in_ok-worked.ensures.each k d below).1.call.met in
    let said = learnt.said-raw in
    search rules
