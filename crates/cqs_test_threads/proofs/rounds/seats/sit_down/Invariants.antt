use Rattle.std.proofs.Common.{◌≡◌, ◌+◌, All, length}
use Rattle.cqs_barrier_rounds.specs.Members.{round_of}
use Rattle.cqs_barrier_rounds.specs.Rounds.{AreMine, barriers_of}
use Rattle.cqs_barrier_rounds.specs.Seats.{AreReady}
use Rattle.cqs_test_threads.specs.Crew.{HoldFor, Sits}
use Rattle.cqs_test_threads.proofs.rounds.seats.sit_down.Given as goal

-- the pass holds a party of each round for each member that has no seat yet, and for its own
abbrev pub invariant-loop-member : goal.invariant-loop-member
invariant-loop-member l = record {
  belongs : AreMine (barriers_of l.rounds) l.pass.passes.items;
  ready : AreReady l.pass.passes.items;
  holds : HoldFor (length l.left.items + 1) l.pass.passes.items;
  first : All (λ member. round_of member ≡ 0) l.left.items;
  own : round_of l.own ≡ 0;
  seats : All (Sits l.rounds) l.seats.items;
}

abbrev pub decreases-loop-member : goal.decreases-loop-member
decreases-loop-member l = length l.left.items
