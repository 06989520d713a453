use Rattle.std.proofs.Common.{All, length}
use Rattle.cqs_test_threads.specs.Crew.{HasWorked, IsBack}
use Rattle.cqs_test_threads.proofs.rounds.crew.gather.Given as goal

-- each of the passes that are left may be taken in still
abbrev pub invariant-loop-one : goal.invariant-loop-one
invariant-loop-one l = record {
  home : IsBack l.rounds l.pass;
  left : All (HasWorked l.rounds) l.left.items;
}

abbrev pub decreases-loop-one : goal.decreases-loop-one
decreases-loop-one l = length l.left.items
