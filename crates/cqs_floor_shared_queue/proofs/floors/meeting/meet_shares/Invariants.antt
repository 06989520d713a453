use Rattle.std.proofs.Common.{◌≡◌, ℕ, ◌<◌, ◌≤◌, ◌++◌, Some, length, slice_get}
use Rattle.std.specs.Vec.Iter.{into_iter_items, into_iter_len}
use Rattle.cqs_floor_shared_queue.specs.Meeting.{HasMetAt}
use Rattle.cqs_floor_shared_queue.proofs.floors.meeting.meet_shares.Given as goal

-- so far each has taken in its like, and from there on is what it was
abbrev pub invariant-loop-one : goal.invariant-loop-one
invariant-loop-one g l = record {
  all : l.yielded ++ into_iter_items l.one-iterator ≡ l.fn.given.items;
  left : into_iter_len l.one-iterator ≡ length (into_iter_items l.one-iterator);
  many : l.at ≡ length l.yielded;
  long : length l.shares.items ≡ length l.fn.shares.items;
  met : (k : ℕ) (y : g.row.X.Denot) → k < l.at → slice_get l.shares.items k ≡ Some y
      → HasMetAt g.X.SharedResource.share l.fn.shares.items l.fn.given.items k y;
  rest : (k : ℕ) → l.at ≤ k → slice_get l.shares.items k ≡ slice_get l.fn.shares.items k;
}
