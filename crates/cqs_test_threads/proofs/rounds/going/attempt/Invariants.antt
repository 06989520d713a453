use Rattle.std.proofs.Common.{◌≡◌, ◌<◌}
use Rattle.cqs_barrier_rounds.specs.Members.{round_of}
use Rattle.cqs_barrier_rounds.specs.Rounds.{AreMine, barriers_of, rounds_in}
use Rattle.cqs_test_threads.specs.Goes.{MayGoOn}
use Rattle.cqs_test_threads.proofs.rounds.going.attempt.Given as goal

-- between two tries the member may go on, in its round
abbrev pub invariant-loop : goal.invariant-loop
invariant-loop g l = record {
  belongs : AreMine (barriers_of l.rounds) l.pass.passes.items;
  member : round_of l.member < rounds_in l.rounds;
  on : MayGoOn l.member l.pass.passes.items;
  same : round_of l.member ≡ round_of l.fn.member;
}
