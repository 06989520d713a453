use Rattle.std.proofs.Common.{◌≡◌}
use Rattle.cqs_barrier_rounds.specs.Members.{owing_round}
use Rattle.cqs_barrier_rounds.specs.Rounds.{AreMine, barriers_of}
use Rattle.cqs_test_threads.specs.Goes.{OwesAt}
use Rattle.cqs_test_threads.proofs.rounds.going.finish.Given as goal

-- between two calls the member owes, in its round
abbrev pub invariant-loop : goal.invariant-loop
invariant-loop g l = record {
  belongs : AreMine (barriers_of l.rounds) l.pass.passes.items;
  still : OwesAt l.owing l.pass.passes.items;
  same : owing_round l.owing ≡ owing_round l.fn.owing;
}
