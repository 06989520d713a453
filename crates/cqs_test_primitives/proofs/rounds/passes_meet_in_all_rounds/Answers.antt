use Rattle.std.proofs.Common.{◌≤◌, arith}
use Rattle.cqs_rule_laws.specs.CallRule.{IsReady}
use Rattle.cqs_barrier_rounds.proofs.Callers.{at-opening}
use Rattle.cqs_test_primitives.proofs.RoundSplits.{split-ready, split-between}
use Rattle.cqs_test_primitives.proofs.rounds.passes_meet_in_all_rounds.Goals as goal

pub split-requires-clause-ready : goal.split-requires-clause-ready
split-requires-clause-ready g c =
    at-opening _ _ (λ v. IsReady v.facts) _ _ c.in_ok-rounds.ensures.belongs c.in_ok-rounds.ensures.opened
    (λ b p opened. opened.all.ready)

pub split-requires-clause-enough : goal.split-requires-clause-enough
split-requires-clause-enough g c =
    at-opening _ _ (λ v. 1 ≤ v.facts.has.held) _ _ c.in_ok-rounds.ensures.belongs c.in_ok-rounds.ensures.opened
    (λ b p opened. let held = opened.all.held_is in omega arith)

pub meet-requires-clause-ready : goal.meet-requires-clause-ready
meet-requires-clause-ready g c =
    split-ready _ _ _ _
    (at-opening _ _ (λ v. IsReady v.facts) _ _ c.in_ok-rounds.ensures.belongs c.in_ok-rounds.ensures.opened
    (λ b p opened. opened.all.ready))
    c.in-Ok.ensures.split

pub meet-requires-clause-between : goal.meet-requires-clause-between
meet-requires-clause-between g c =
    let many = c.in_ok-rounds.ensures.belongs.many in
    let too = c.in-Ok.ensures.new_belongs.many in
    split-between _ _ _ _ (omega arith) c.in-Ok.ensures.split
