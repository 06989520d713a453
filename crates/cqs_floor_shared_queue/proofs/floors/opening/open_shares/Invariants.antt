use Rattle.std.proofs.Common.{◌≡◌, length}
use Rattle.cqs_floor_shared_queue.specs.Openings.{HaveOpened}
use Rattle.cqs_floor_shared_queue.proofs.floors.opening.open_shares.Given as goal

abbrev pub invariant-loop-at : goal.invariant-loop-at
invariant-loop-at g l = record {
  long : length l.shares.items ≡ l.at;
  opened : HaveOpened g.X.SharedResource.share l.resources l.workers l.room l.shares.items;
}
