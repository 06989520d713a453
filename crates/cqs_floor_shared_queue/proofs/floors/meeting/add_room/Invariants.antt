use Rattle.std.proofs.Common.{◌≡◌, ℕ, ◌+◌, ◌<◌, ◌≤◌, get_or, length}
use Rattle.cqs_floor_shared_queue.proofs.floors.meeting.add_room.Given as goal

-- so far the room of both, and from there on what there was
abbrev pub invariant-loop-at : goal.invariant-loop-at
invariant-loop-at l = record {
  long : length l.room.items ≡ length l.fn.room.items;
  sums : (k : ℕ) → k < l.at → get_or l.room.items k 0 ≡ get_or l.fn.room.items k 0 + get_or l.given.items k 0;
  rest : (k : ℕ) → l.at ≤ k → get_or l.room.items k 0 ≡ get_or l.fn.room.items k 0;
}
