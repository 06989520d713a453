-- What a worker came to and has no more, beside what its jobs have: the two sides of an account.
use Rattle.std.specs.Prelude.{◌≡◌, ℕ, ◌+◌, ◌≤◌, ◌==◌, cond, List, Option, Some, None, length, count_by, sum_by}
use Rattle.cqs_core.specs.Parts.{part}
use Rattle.cqs_core.specs.declared.entries.Entry.{Entry}
use Rattle.cqs_core.specs.SemaphoreNames.{entry_names as permit_names}
use Rattle.cqs_pool_object.specs.declared.entries.PoolEntry.{PoolEntry}
use Rattle.cqs_pool_object.specs.PoolNames.{entry_names as element_names}
use Rattle.cqs_plan.specs.Floor.{PlainFloor, JobWait, Holding, IsHoldable}
use Rattle.cqs_plan.specs.FloorHistory.{History, of_permits, of_elements, of_latch, of_rounds}
use Rattle.cqs_floor_shared.specs.Entries.{Entries, at_permits, at_elements, at_latch, in_round}
use Rattle.cqs_floor_shared.specs.Shared.{Shared, kind_at, seen_at}
use Rattle.cqs_work.specs.Even.{permit_gains, permit_losses, permit_doors, permit_enters, element_gains, element_losses}

-- what an entry counts for, at a semaphore and at a pool
pub record Weights : Type 0 where
  pub permit : Entry → ℕ
  pub element : PoolEntry → ℕ

abbrev pub gains : Weights
gains = record { permit = permit_gains; element = element_gains }

abbrev pub losses : Weights
losses = record { permit = permit_losses; element = element_losses }

abbrev pub doors : Weights
doors = record { permit = permit_doors; element = λ e. 0 }

abbrev pub enters : Weights
enters = record { permit = permit_enters; element = λ e. 0 }

-- what these entries add up to
abbrev pub sum_of : Weights → Entries → ℕ
sum_of w (at_permits entries) = sum_by w.permit entries
sum_of w (at_elements entries) = sum_by w.element entries
sum_of w (at_latch entries) = 0
sum_of w (in_round round entries) = 0

-- what those of a history that name the caller n add up to
abbrev pub sum_in : Weights → ℕ → History → ℕ
sum_in w n (of_permits h) = sum_by w.permit (part permit_names n h)
sum_in w n (of_elements h) = sum_by w.element (part element_names n h)
sum_in w n (of_latch h) = 0
sum_in w n (of_rounds all) = 0

abbrev pub waits_at : ℕ → Option JobWait → ℕ
waits_at q None = 0
waits_at q (Some w) = cond {A = ℕ} (w.at == q) 1 0

abbrev pub held_at : ℕ → List Holding → ℕ
held_at q holds = count_by (λ h. h.at == q) holds

-- what the jobs have of the resource q: what they hold, and their waits
abbrev pub count_at : PlainFloor → ℕ → ℕ
count_at b q = sum_by (held_at q) b.holds + sum_by (waits_at q) b.waits

-- Of each semaphore, mutex and pool: what the pass came to is what it has no more, and what its
-- jobs have. Whoever came to a door went on from there.
pub record IsAccounted (f : Shared) : Type 0 where
  pub long : length f.board.kinds ≤ length f.seen
  pub even : (q : ℕ) → IsHoldable (kind_at f q)
      → sum_in gains f.number (seen_at f q)
      ≡ sum_in losses f.number (seen_at f q) + count_at f.board q
  pub entered : (q : ℕ)
      → sum_in enters f.number (seen_at f q) ≡ sum_in doors f.number (seen_at f q)
