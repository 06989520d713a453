use Rattle.std.proofs.Common.{◌≤◌}
use Rattle.cqs_barrier_rounds.specs.Members.{round_of}
use Rattle.cqs_barrier_rounds.specs.Rounds.{AreMine, barriers_of, rounds_in}
use Rattle.cqs_test_threads.specs.Goes.{MayGoOn}
use Rattle.cqs_test_threads.proofs.rounds.going.go_through.Given as goal

-- between two tries the member may go on
abbrev pub invariant-loop-time : goal.invariant-loop-time
invariant-loop-time g l = record {
  belongs : AreMine (barriers_of l.rounds) l.pass.passes.items;
  member : round_of l.member ≤ rounds_in l.rounds;
  on : MayGoOn l.member l.pass.passes.items;
}
