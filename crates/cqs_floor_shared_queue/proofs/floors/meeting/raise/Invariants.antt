use Rattle.std.proofs.Common.{◌≡◌, ℕ, ◌<◌, ◌≤◌, get_or, length, max}
use Rattle.cqs_floor_shared_queue.proofs.floors.meeting.raise.Given as goal

-- so far the later of both, and from there on what there was
abbrev pub invariant-loop-at : goal.invariant-loop-at
invariant-loop-at l = record {
  long : length l.own.items ≡ length l.fn.own.items;
  raised : (k : ℕ) → k < l.at
      → get_or l.own.items k 0 ≡ max (get_or l.fn.own.items k 0) (get_or l.given.items k 0);
  rest : (k : ℕ) → l.at ≤ k → get_or l.own.items k 0 ≡ get_or l.fn.own.items k 0;
}
