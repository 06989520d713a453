use Rattle.std.proofs.Common.{◌<◌, ◌≤◌, length, arith}
use Rattle.cqs_rule_laws.specs.CallRule.{IsReady}
use Rattle.cqs_barrier_rounds.specs.Members.{round_of}
use Rattle.cqs_barrier_rounds.proofs.Callers.{at-opening, at-end}
use Rattle.cqs_test_primitives.proofs.rounds.one_member_goes_through_one_round.Goals as goal

pub arrive-requires-clause-ready : goal.arrive-requires-clause-ready
arrive-requires-clause-ready g c =
    at-opening _ _ (λ v. IsReady v.facts) _ _ c.in_ok-rounds.ensures.belongs c.in_ok-rounds.ensures.opened
    (λ b p opened. opened.all.ready) _

pub arrive-requires-clause-holds : goal.arrive-requires-clause-holds
arrive-requires-clause-holds g c =
    at-opening _ _ (λ v. 0 < v.facts.has.held) _ _ c.in_ok-rounds.ensures.belongs c.in_ok-rounds.ensures.opened
    (λ b p opened. let held = opened.all.held_is in omega arith) _

pub arrive-requires-2-clause-ready : goal.arrive-requires-2-clause-ready
arrive-requires-2-clause-ready g c =
    let past : length c.in_ok-rounds.rounds.barriers.items ≤ round_of c.in-Ok-Last.member = omega arith in
    at-end (λ v. IsReady v.facts) _ _ _ c.arrive.ensures.belongs past

pub arrive-requires-2-clause-holds : goal.arrive-requires-2-clause-holds
arrive-requires-2-clause-holds g c =
    let past : length c.in_ok-rounds.rounds.barriers.items ≤ round_of c.in-Ok-Last.member = omega arith in
    at-end (λ v. 0 < v.facts.has.held) _ _ _ c.arrive.ensures.belongs past
