use Rattle.std.proofs.Common.{◌≡◌}
use Rattle.cqs_barrier_rounds.specs.Members.{wait_round}
use Rattle.cqs_barrier_rounds.specs.Rounds.{AreMine, barriers_of}
use Rattle.cqs_test_threads.specs.Goes.{WaitsAt}
use Rattle.cqs_test_threads.proofs.rounds.going.look_on.Given as goal

-- between two looks the member waits, in its round
abbrev pub invariant-loop : goal.invariant-loop
invariant-loop l = record {
  belongs : AreMine (barriers_of l.rounds) l.pass.passes.items;
  still : WaitsAt l.wait l.pass.passes.items;
  same : wait_round l.wait ≡ wait_round l.fn.wait;
}
