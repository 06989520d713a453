use Rattle.std.proofs.Common.{◌≡◌, ◌≤◌, take}
use Rattle.cqs_floor_shared_queue.specs.Openings.{arriving_from}
use Rattle.cqs_floor_shared_queue.proofs.floors.opening.count_arriving.Given as goal

abbrev pub invariant-loop-place : goal.invariant-loop-place
invariant-loop-place l = record {
  counted : l.many ≡ arriving_from l.workers l.worker l.at 0 (take l.place l.jobs);
  few : l.many ≤ l.place;
}
