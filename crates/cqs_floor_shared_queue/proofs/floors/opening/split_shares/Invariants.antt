use Rattle.std.proofs.Common.{◌≡◌, ℕ, ◌<◌, ◌≤◌, Some, length, slice_get}
use Rattle.cqs_floor_shared_queue.specs.Openings.{HasSplitAt, arriving_from}
use Rattle.cqs_floor_shared_queue.proofs.floors.opening.split_shares.Given as goal

-- so far one was split from each, and from there on each is what it was
abbrev pub invariant-loop-at : goal.invariant-loop-at
invariant-loop-at g l = record {
  made_long : length l.made.items ≡ l.at;
  long : length l.shares.items ≡ length l.fn.shares.items;
  split : (k : ℕ) (x : g.row.X.Denot) → k < l.at → slice_get l.fn.shares.items k ≡ Some x
      → HasSplitAt g.X.SharedResource.share (λ at. arriving_from l.workers l.worker at 0 l.jobs) l.worker l.made.items
      l.shares.items k x;
  rest : (k : ℕ) → l.at ≤ k → slice_get l.shares.items k ≡ slice_get l.fn.shares.items k;
}
