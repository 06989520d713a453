use Rattle.std.proofs.Common.{◌≡◌, sym, ◌∙◌}
use Rattle.cqs_rule_laws.specs.CallRule.{IsReady}
use Rattle.cqs_barrier_rounds.proofs.Callers.{at-opening}
use Rattle.cqs_test_threads.proofs.rounds.seats.open.Goals as goal

pub sit_down-requires-clause-ready : goal.sit_down-requires-clause-ready
sit_down-requires-clause-ready c =
    at-opening _ _ (λ v. IsReady v.facts) _ _ c.in-Ok.ensures.belongs c.in-Ok.ensures.opened
    (λ b p opened. opened.all.ready)

pub sit_down-requires-clause-holds : goal.sit_down-requires-clause-holds
sit_down-requires-clause-holds c =
    at-opening _ _ (λ v. v.facts.has.held ≡ _) _ _ c.in-Ok.ensures.belongs c.in-Ok.ensures.opened
    (λ b p opened. opened.all.held_is ∙ sym c.in-Ok.ensures.members)
