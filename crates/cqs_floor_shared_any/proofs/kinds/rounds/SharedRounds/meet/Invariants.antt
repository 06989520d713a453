use Rattle.std.proofs.Common.{length}
use Rattle.cqs_floor_shared_any.proofs.RoundsMetSoFar.{MetSoFar}
use Rattle.cqs_floor_shared_any.proofs.kinds.rounds.SharedRounds.meet.Given as goal

abbrev pub invariant-loop-theirs : goal.invariant-loop-theirs
invariant-loop-theirs l = MetSoFar l.fn.self.rounds.items l.fn.given.rounds.items l.left.items l.self.rounds.items

abbrev pub decreases-loop-theirs : goal.decreases-loop-theirs
decreases-loop-theirs l = length l.left.items
