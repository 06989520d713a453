-- What a queue shows of a barrier: the object read off its remaining number, its cells
-- and its passes.
use Rattle.std.specs.Prelude.{◌≡◌, ℕ, ◌+◌, ◌-◌, ◌<◌, true, false, List, length, sum, slice_index, Option}
use Rattle.cqs_core.specs.declared.cells.CoreCell.{CoreCell}
use Rattle.cqs_core.specs.declared.doings.Doing.{Doing}
use Rattle.cqs_core.specs.declared.doings.Doing.TheVariants as doing
use Rattle.cqs_core.specs.Numbered.{EachAt, pick_each}
use Rattle.cqs_core.specs.QueueCover.{is_declined}
use Rattle.cqs_core.specs.QueueLine as queue
use Rattle.cqs_core.specs.QueueLine.{Waiting, going, ending, waiting_of}
use Rattle.cqs_core.specs.QueueSound.{IsSound}
use Rattle.cqs_core.specs.QueueState.{Queue}
use Rattle.cqs_core.specs.QueueWaiters.{waiters}
use Rattle.cqs_barrier_object.specs.declared.entries.BarrierEntry.{BarrierEntry}
use Rattle.cqs_barrier_object.specs.BarrierEntries.{object_after, IsLegal}
use Rattle.cqs_barrier_object.specs.BarrierObject.{Barrier}

-- what the words and the passes of a barrier stand for
pub record Shape : Type 0 where
  pub parties : ℕ
  pub remaining : ℕ
  -- the parties of each pass that haven't arrived
  pub held : List ℕ
  -- how many more resumptions each pass owes, behind the one that it is at
  pub owed : List ℕ
  pub history : List BarrierEntry
  pub queue : Queue

-- the wait of a cell that was refused, or will be
abbrev pub is_stayed : List Doing → ℕ → CoreCell → Option Waiting
is_stayed passes k cell = waiting_of k cell.owner (is_declined passes k cell)

abbrev pub stayed_in : Queue → List Waiting
stayed_in q = pick_each (is_stayed q.doing) 0 q.cells

-- as many resumptions are on their way as go on or are owed, but for those that
-- end at refused cells
abbrev pub shown_by : ℕ → List ℕ → Queue → Barrier
shown_by remaining owed q = record {
  remaining = remaining;
  way = going q + sum owed - ending q;
  waiters = waiters q;
  stayed = stayed_in q;
}

abbrev pub shown_barrier : Shape → Barrier
shown_barrier s = shown_by s.remaining s.owed s.queue

-- a pass whose withdrawal counts has its party back
abbrev pub HasParty : List ℕ → ℕ → Doing → Type 0
HasParty held p (doing.Decided k true) = 0 < slice_index held p
HasParty held p (doing.Decided k false) = Unit {0}
HasParty held p doing.Idle = Unit {0}
HasParty held p (doing.TryAt v) = Unit {0}
HasParty held p doing.Door = Unit {0}
HasParty held p (doing.Drawn k) = Unit {0}
HasParty held p doing.Owes = Unit {0}
HasParty held p (doing.Ticket k) = Unit {0}
HasParty held p (doing.Leaving k) = Unit {0}
HasParty held p (doing.Watching k) = Unit {0}

-- Before all have arrived nothing was resumed, and the parties are those that are still to come and
-- those that wait.
pub record IsBefore (all remaining : ℕ) (owed : List ℕ) (q : Queue) : Type 0 where
  pub resumes : q.resumes ≡ 0
  pub none : going q + sum owed + ending q ≡ 0
  pub parties : remaining + queue.due q ≡ all

-- What holds of every barrier between any two steps.
pub record IsBarrier (s : Shape) : Type 0 where
  pub sound : IsSound s.queue
  pub legal : IsLegal s.parties s.history
  pub object : object_after s.parties s.history ≡ shown_barrier s
  pub holders : length s.held ≡ length s.queue.doing
  pub owners : length s.owed ≡ length s.queue.doing
  -- those still to come are with the passes
  pub held : s.remaining ≡ sum s.held
  pub before : 0 < s.remaining → IsBefore s.parties s.remaining s.owed s.queue
  -- when all have arrived, as many resumptions go on or are owed as wait, and as will
  -- end at refused cells
  pub over : s.remaining ≡ 0 → going s.queue + sum s.owed ≡ queue.due s.queue + ending s.queue
  pub party : EachAt (HasParty s.held) s.queue.doing
