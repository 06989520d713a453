-- What each call of a sole caller does to the plain barrier: the entries that it appends, and its
-- reply. No counters and no cells: only the parties still to come, and the line.
use Rattle.std.specs.Prelude.{ℕ, ◌==◌, map, List, [], ◌∷◌, Option, Some, None, if◌then◌else◌}
use Rattle.cqs_core.specs.QueueLine.{Waiting}
use Rattle.cqs_core.specs.QueueWaiters.{find_wait}
use Rattle.cqs_barrier_object.specs.declared.entries.BarrierEntry.{BarrierEntry}
use Rattle.cqs_barrier_object.specs.declared.entries.BarrierEntry.TheVariants as entry
use Rattle.cqs_barrier_object.specs.BarrierObject.{Barrier}

pub data Reply : Type 0 where
  Last : Reply
  Later : (wait : ℕ) → Reply
  Through : Reply
  Pending : Reply
  Withdrawn : Reply
  TooLate : Reply

pub record Told : Type 0 where
  pub entries : List BarrierEntry
  pub answer : Reply

abbrev pub tells : List BarrierEntry → Reply → Told
tells entries answer = record { entries = entries; answer = answer }

-- the numbers of those who wait, in order
abbrev pub numbers_of : List Waiting → List ℕ
numbers_of line = map (λ (w : Waiting). w.wait) line

-- the waits of these numbers are served
abbrev pub delivers : List ℕ → List BarrierEntry
delivers [] = []
delivers (k ∷ ks) = entry.Deliver k ∷ delivers ks

-- the last party serves the whole line, in order; another one waits under the next number
abbrev pub sole_arrive : ℕ → Barrier → Told
sole_arrive p o =
    if o.remaining == 1
    then tells (entry.ArriveLast p ∷ delivers (numbers_of o.waiters.line)) Last
    else tells (entry.ArriveDoor p ∷ entry.Enter p o.waiters.next ∷ []) (Later o.waiters.next)

-- a wait that isn't in the line any more was served
abbrev pub look_at : ℕ → ℕ → Option Waiting → Told
look_at p k (Some wait) = tells (entry.LookPending p k ∷ []) Pending
look_at p k None = tells (entry.LookGranted p k ∷ []) Through

abbrev pub sole_poll : ℕ → ℕ → Barrier → Told
sole_poll p k o = look_at p k (find_wait k o.waiters.line)

-- a party that still waits withdraws
abbrev pub leave_at : ℕ → ℕ → Option Waiting → Told
leave_at p k (Some wait) = tells (entry.Withdraw p k ∷ []) Withdrawn
leave_at p k None = tells (entry.Late p k ∷ []) TooLate

abbrev pub sole_cancel : ℕ → ℕ → Barrier → Told
sole_cancel p k o = leave_at p k (find_wait k o.waiters.line)
