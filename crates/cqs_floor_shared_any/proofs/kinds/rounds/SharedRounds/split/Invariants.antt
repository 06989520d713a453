use Rattle.std.proofs.Common.{◌≡◌, length}
use Rattle.std.specs.Vec.{vec_capacity}
use Rattle.cqs_floor_shared_any.proofs.RoundsSplits.{SplitSoFar}
use Rattle.cqs_floor_shared_any.proofs.kinds.rounds.SharedRounds.split.Given as goal

-- a pass was made in each of the first rounds
abbrev pub invariant-loop-round : goal.invariant-loop-round
invariant-loop-round l = record {
  reserved : vec_capacity l.made ≡ length l.fn.self.rounds.items;
  split : SplitSoFar l.gives l.round l.fn.self.rounds.items l.made.items l.self.rounds.items;
}
