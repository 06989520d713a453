use Rattle.std.proofs.Common.{◌≡◌, replicate}
use Rattle.cqs_floor_shared_queue.specs.Spots.{no_spot}
use Rattle.cqs_floor_shared_queue.proofs.floors.opening.no_spots.Given as goal

abbrev pub invariant-loop-job : goal.invariant-loop-job
invariant-loop-job l = record {
  none : l.spots.items ≡ replicate l._job no_spot;
}
