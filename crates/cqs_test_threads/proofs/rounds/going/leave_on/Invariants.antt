use Rattle.std.proofs.Common.{◌≡◌}
use Rattle.cqs_barrier_rounds.specs.Members.{leaving_round}
use Rattle.cqs_barrier_rounds.specs.Rounds.{AreMine, barriers_of}
use Rattle.cqs_test_threads.specs.Goes.{LeavesOn}
use Rattle.cqs_test_threads.proofs.rounds.going.leave_on.Given as goal

-- between two tries the member is leaving, in its round
abbrev pub invariant-loop : goal.invariant-loop
invariant-loop l = record {
  belongs : AreMine (barriers_of l.rounds) l.pass.passes.items;
  still : LeavesOn l.leaving l.pass.passes.items;
  same : leaving_round l.leaving ≡ leaving_round l.fn.leaving;
}
