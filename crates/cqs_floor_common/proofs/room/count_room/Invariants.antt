use Rattle.std.proofs.Common.{◌≡◌, ℕ, ◌*◌, ◌<◌, ◌≤◌, get_or, length, take}
use Rattle.cqs_floor_common.specs.Room.{room_of}
use Rattle.cqs_floor_common.proofs.room.count_room.Given as goal

abbrev pub invariant-loop-job : goal.invariant-loop-job
invariant-loop-job l = record {
  counts : (at : ℕ) → at < l.resources → get_or l.room.items at 0 ≡ room_of (take l.job-index l.jobs) at;
  few : (at : ℕ) → get_or l.room.items at 0 ≤ 128 * l.job-index;
  long : length l.room.items ≡ l.resources;
}
