-- A latch's core shows the plain latch: which object its words, cells and passes stand for. With
-- it, all that holds of every latch between any two steps.
--
-- In simple mode the queue is read with its cancelled cells as refused ones: a resumption that
-- comes to such a cell ends there. So the two modes have one law.
use Rattle.std.specs.Prelude.{◌≡◌, ℕ, ◌+◌, ◌-◌, ◌≤◌, Bool, true, false, not, List, [], length, sum, Option, Some, None, ℤ, pos, negsuc, ◌≤ℤ◌, ◌<ℤ◌, ◌+ℤ◌, int_le, count_by}
use Rattle.cqs_core.specs.declared.cells.CoreCell.{CoreCell}
use Rattle.cqs_core.specs.declared.doings.Doing.{Doing}
use Rattle.cqs_core.specs.declared.doings.Doing.TheVariants as doing
use Rattle.cqs_core.specs.Numbered.{pick_each}
use Rattle.cqs_core.specs.QueueState.{Queue}
use Rattle.cqs_core.specs.QueueAsRefused.{as_refused}
use Rattle.cqs_core.specs.QueueLine as queue
use Rattle.cqs_core.specs.QueueLine.{going, ending, is_unmet, is_told_refused}
use Rattle.cqs_core.specs.QueueSound.{IsSound}
use Rattle.cqs_core.specs.QueueWaiters.{waiters}
use Rattle.cqs_latch_object.specs.declared.entries.LatchEntry.{LatchEntry}
use Rattle.cqs_latch_object.specs.LatchObject.{Latch}
use Rattle.cqs_latch_object.specs.LatchEntries.{object_after, IsLegal}

-- the plain data of a latch
pub record LatchShape : Type 0 where
  pub simple : Bool
  -- what it opened with
  pub size : ℕ
  -- its words: the count, which may fall below 0; the number of waiters; the done bit
  pub count : ℤ
  pub word : ℕ
  pub done : Bool
  -- the resumptions that each pass owes and hasn't begun
  pub owed : List ℕ
  pub history : List LatchEntry
  pub queue : Queue

-- how a latch of this mode reads its queue
abbrev pub read_as : Bool → Queue → Queue
read_as true q = as_refused q
read_as false q = q

abbrev pub as_read : LatchShape → LatchShape
as_read s = record s { queue = read_as s.simple s.queue }

-- what is left of a count
abbrev pub left_of : ℤ → ℕ
left_of (pos n) = n
left_of (negsuc n) = 0

-- the number of a cell that waits for a resumption which will end there
abbrev pub hole_of : ℕ → Bool → Option ℕ
hole_of k true = Some k
hole_of k false = None

abbrev pub is_hole : ℕ → List Doing → ℕ → CoreCell → Option ℕ
is_hole resumes passes k cell = hole_of k (is_unmet resumes passes k cell)

abbrev pub holes : Queue → List ℕ
holes q = pick_each (is_hole q.resumes q.doing) 0 q.cells

abbrev pub holes_shown : Bool → Queue → List ℕ
holes_shown true q = holes q
holes_shown false q = []

-- in simple mode a resumption that will end at a hole is still on its way
abbrev pub way_shown : Bool → ℕ → Queue → ℕ
way_shown true owed q = going q + owed
way_shown false owed q = going q + owed - ending q

abbrev pub shown_by : Bool → ℤ → Bool → List ℕ → Queue → Latch
shown_by simple count done owed q = record {
  simple = simple;
  count = left_of count;
  opened = done;
  way = way_shown simple (sum owed) q;
  waiters = waiters q;
  holes = holes_shown simple q;
}

-- the latch that a core shows
abbrev pub shown_latch : LatchShape → Latch
shown_latch s = shown_by s.simple s.count s.done s.owed s.queue

-- the pass used the count up, and is to open the latch: it found the count at 0
abbrev pub is_opening : Doing → Bool
is_opening (doing.TryAt v) = int_le v (pos 0)
is_opening doing.Idle = false
is_opening doing.Door = false
is_opening (doing.Drawn k) = false
is_opening doing.Owes = false
is_opening (doing.Ticket k) = false
is_opening (doing.Leaving k) = false
is_opening (doing.Watching k) = false
is_opening (doing.Decided k on) = false

-- the pass has loaded the count as above 0, and not gone on from there
abbrev pub has_loaded : Doing → Bool
has_loaded (doing.TryAt v) = not (int_le v (pos 0))
has_loaded doing.Idle = false
has_loaded doing.Door = false
has_loaded (doing.Drawn k) = false
has_loaded doing.Owes = false
has_loaded (doing.Ticket k) = false
has_loaded (doing.Leaving k) = false
has_loaded (doing.Watching k) = false
has_loaded (doing.Decided k on) = false

abbrev pub one_where : Bool → ℕ
one_where true = 1
one_where false = 0

-- Of the passes and the count: in simple mode nobody is in the middle of a cancellation; and the
-- count is further below 0 only by fewer than there are passes, less those who may still take one.
pub record IsFit (simple : Bool) (size : ℕ) (count : ℤ) (passes : List Doing) : Type 0 where
  pub plain : simple ≡ true → count_by is_told_refused passes ≡ 0
  pub low : pos (count_by has_loaded passes) <ℤ (count +ℤ pos (length passes))
  pub high : count ≤ℤ pos size

-- before it is open nothing was resumed, and the word counts all who wait and all holes
pub record IsShut (s : LatchShape) : Type 0 where
  pub resumes : s.queue.resumes ≡ 0
  pub none : going s.queue + sum s.owed ≡ 0
  pub counted : s.word ≡ queue.due s.queue + ending s.queue
  pub kept : s.simple ≡ false → ending s.queue ≡ 0
  -- who is to open it: one pass, where the count is used up
  pub opener : count_by is_opening s.queue.doing ≡ one_where (int_le s.count (pos 0))

-- after it is open as many are on their way as wait, and as will end at a hole or at a refused cell
pub record IsOpened (s : LatchShape) : Type 0 where
  pub used : s.count ≤ℤ pos 0
  pub ways : going s.queue + sum s.owed ≡ queue.due s.queue + ending s.queue
  -- the word may lose one for each that leaves, and gains one for each that comes late
  pub enough : s.simple ≡ false → queue.due s.queue ≤ s.word
  pub few :
      s.word + count_by has_loaded s.queue.doing ≤ s.queue.suspends + length s.queue.doing
  pub opener : count_by is_opening s.queue.doing ≡ 0

-- of a latch with its queue as it is read
pub record IsLatch (s : LatchShape) : Type 0 where
  pub sound : IsSound s.queue
  pub legal : IsLegal s.simple s.size s.history
  pub object : object_after s.simple s.size s.history ≡ shown_latch s
  pub owners : length s.owed ≡ length s.queue.doing
  pub shut : s.done ≡ false → IsShut s
  pub opened : s.done ≡ true → IsOpened s
  pub fit : IsFit s.simple s.size s.count s.queue.doing

-- what holds of every latch between any two steps
abbrev pub IsLatchCore : LatchShape → Type 0
IsLatchCore s = IsLatch (as_read s)
