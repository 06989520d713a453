use Rattle.std.proofs.Common.{length}
use Rattle.cqs_barrier_rounds.specs.Passes.{AreCalledWithin}
use Rattle.cqs_barrier_rounds.specs.Rounds.{AreMine, barriers_of}
use Rattle.cqs_barrier_rounds.specs.Seats.{HasTaken}
use Rattle.cqs_barrier_rounds.proofs.Lasts.{AreFirst}
use Rattle.cqs_barrier_rounds.proofs.rounds.Rounds.take_in.Given as goal

-- the first of the given passes are left, and the others were taken in
abbrev pub invariant-loop-given : goal.invariant-loop-given
invariant-loop-given l = record {
  mine : AreMine (barriers_of l.self) l.pass.passes.items;
  first : AreFirst l.left.items l.fn.givens.items;
  taken : AreCalledWithin (HasTaken l.fn.givens.items) (length l.left.items) (length l.fn.givens.items)
      l.fn.pass.passes.items l.pass.passes.items;
}

abbrev pub decreases-loop-given : goal.decreases-loop-given
decreases-loop-given l = length l.left.items
