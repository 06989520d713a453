-- The count-down latch as a plain object with its line of waiters: no counters, no cells,
-- no tickets.
use Rattle.std.specs.Prelude.{ℕ, ◌+◌, ◌==◌, Bool, List, [], length}
use Rattle.cqs_core.specs.QueueWaiters.{Waiters, no_waiters, due_of}

pub record Latch : Type 0 where
  -- Who leaves the line, leaves his number behind: the resumption that comes for it ends
  -- there. Else he takes a resumption with him.
  pub simple : Bool
  -- how often it is still to be counted down
  pub count : ℕ
  pub opened : Bool
  -- the resumptions that were given to those who waited, and haven't reached a number yet
  pub way : ℕ
  pub waiters : Waiters
  -- the numbers of those who left, for which a resumption is still to come
  pub holes : List ℕ

-- a latch opens with its count; one of none is open from the start
abbrev pub opening : Bool → ℕ → Latch
opening simple count = record {
  simple = simple;
  count = count;
  opened = count == 0;
  way = 0;
  waiters = no_waiters;
  holes = [];
}

-- how many numbers are to be resumed: of those who wait, and of those who left
abbrev pub due : Latch → ℕ
due o = due_of o.waiters + length o.holes
