-- Which cells no side will touch again, where the queue is synchronous or isn't, and which steps
-- settle one: for clients whose resumes pass over a cancelled cell, as `QueueSettled` and
-- `QueueStepSettled` have it for those that aren't synchronous.
use Rattle.std.specs.Prelude.{◌≡◌, ◌≢◌, ◌⊎◌, ◌↔◌, ℕ, ◌<◌, Bool, true, Option, Some, slice_get}
use Rattle.cqs_core.specs.declared.cells.CoreCell.{CoreCell}
use Rattle.cqs_core.specs.declared.cells.CoreState.{CoreState}
use Rattle.cqs_core.specs.declared.cells.CoreState.TheVariants as state
use Rattle.cqs_core.specs.declared.doings.Doing.TheVariants as doing
use Rattle.cqs_core.specs.QueueAsUnbroken.{IsUnbroken}
use Rattle.cqs_core.specs.QueueEither.{IsSoundEither, MayBeMade}
use Rattle.cqs_core.specs.QueueSettled.{IsMet, IsSettled}
use Rattle.cqs_core.specs.QueueState.{Queue}
use Rattle.cqs_core.specs.QueueSteps as maker
use Rattle.cqs_core.specs.QueueSteps.{QueueStep, card_of, IsOpenStep, queue_after}
use Rattle.cqs_core.specs.QueueStepSettled.{IsSettler}

-- no pass watches the value of this number
abbrev pub IsUnwatched : Queue → ℕ → Type 0
IsUnwatched q k = (p : ℕ) → slice_get q.doing p ≢ Some (doing.Watching k)

-- A value was taken and nobody watches it; its suspend found a broken cell so; the wait that was
-- served is closed; it was cancelled; or it was refused, and its resume has met it.
abbrev pub IsSettledEitherAt : Queue → ℕ → CoreCell → CoreState → Type 0
IsSettledEitherAt q k cell state.Empty = ⊥
IsSettledEitherAt q k cell state.Waiter = ⊥
IsSettledEitherAt q k cell state.Value = ⊥
IsSettledEitherAt q k cell state.Taken = IsUnwatched q k
IsSettledEitherAt q k cell state.Broken = cell.collected ≡ true
IsSettledEitherAt q k cell state.Resumed = cell.collected ≡ true
IsSettledEitherAt q k cell state.Cancelling = ⊥
IsSettledEitherAt q k cell state.Delegated = ⊥
IsSettledEitherAt q k cell state.Cancelled = Unit {0}
IsSettledEitherAt q k cell state.Refused = IsMet q k

pub record IsSettledEither (q : Queue) (k : ℕ) : Type 0 where
  pub cell : CoreCell
  pub there : slice_get q.cells k ≡ Some cell
  pub at : IsSettledEitherAt q k cell cell.state

-- where no cell is broken and nobody watches one, the same cells are settled
abbrev pub SettledAlike : Type 0
SettledAlike = (q : Queue) (k : ℕ) → IsUnbroken q → IsSettledEither q k ↔ IsSettled q k

-- the steps of all clients but those whose waits leave at once, so that a resume ends
-- at a cancelled cell
abbrev pub PassesOnEither : QueueStep → Type 0
PassesOnEither s = (card_of s).makers ≢ maker.who_leave_at_once

-- A step at the number k, from the queue q to d, makes no settled cell unsettled, and leaves each
-- as it is. A cell that is settled after it was so before, or it is that of a step which
-- settles it; and such a step settles a cell that wasn't.
pub record StepSettlesEither (q d : Queue) (s : QueueStep) (k : ℕ) : Type 0 where
  pub stays : (j : ℕ) → IsSettledEither q j → IsSettledEither d j
  pub same : (j : ℕ) → IsSettledEither q j → slice_get d.cells j ≡ slice_get q.cells j
  pub by : (j : ℕ) → IsSettledEither d j → IsSettledEither q j ⊎ ((j ≡ k) × IsSettler s)
  pub once : IsSettler s → IsSettledEither d k × (IsSettledEither q k → ⊥)

abbrev pub EveryStepSettlesEither : Type 0
EveryStepSettlesEither =
    (sync : Bool) (q : Queue) (s : QueueStep) (p k : ℕ) (found : Option CoreCell)
    → MayBeMade sync (card_of s).makers → PassesOnEither s → IsSoundEither sync q
    → IsOpenStep q s p k found
    → StepSettlesEither q (queue_after s q p k found) s k

abbrev pub SettledEitherAreDrawn : Type 0
SettledEitherAreDrawn =
    (sync : Bool) (q : Queue) (k : ℕ) → IsSoundEither sync q → IsSettledEither q k → k < q.suspends
