use Rattle.std.proofs.Common.{◌≤◌, arith}
use Rattle.cqs_rule_laws.specs.CallRule.{IsReady}
use Rattle.cqs_barrier_rounds.proofs.Callers.{at-opening}
use Rattle.cqs_test_primitives.proofs.RoundSplits.{split-ready, split-holds}
use Rattle.cqs_test_primitives.proofs.rounds.passes_are_made_in_all_rounds_or_in_none.Goals as goal

pub split-requires-clause-ready : goal.split-requires-clause-ready
split-requires-clause-ready g c =
    at-opening _ _ (λ v. IsReady v.facts) _ _ c.in_ok-rounds.ensures.belongs c.in_ok-rounds.ensures.opened
    (λ b p opened. opened.all.ready)

pub split-requires-clause-enough : goal.split-requires-clause-enough
split-requires-clause-enough g c =
    at-opening _ _ (λ v. 1 ≤ v.facts.has.held) _ _ c.in_ok-rounds.ensures.belongs c.in_ok-rounds.ensures.opened
    (λ b p opened. let held = opened.all.held_is in omega arith)

pub split-requires-2-clause-ready : goal.split-requires-2-clause-ready
split-requires-2-clause-ready g c =
    split-ready _ _ _ _
    (at-opening _ _ (λ v. IsReady v.facts) _ _ c.in_ok-rounds.ensures.belongs c.in_ok-rounds.ensures.opened
    (λ b p opened. opened.all.ready))
    c.in-Ok.ensures.split

pub split-requires-2-clause-enough : goal.split-requires-2-clause-enough
split-requires-2-clause-enough g c =
    split-holds _ _ _
    (at-opening _ _ (λ v. 2 ≤ v.facts.has.held) _ _ c.in_ok-rounds.ensures.belongs c.in_ok-rounds.ensures.opened
    (λ b p opened. let held = opened.all.held_is in omega arith))
    c.in-Ok.ensures.split
