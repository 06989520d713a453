-- What holds of the queue part between any two steps, where it is synchronous or isn't.
use Rattle.std.specs.Prelude.{◌≡◌, ◌≢◌, ℕ, Bool, true, false, Option, Some, slice_get}
use Rattle.cqs_core.specs.declared.cells.CoreCell.{CoreCell}
use Rattle.cqs_core.specs.declared.cells.CoreState.TheVariants as state
use Rattle.cqs_core.specs.declared.doings.Doing.TheVariants as doing
use Rattle.cqs_core.specs.QueueAsUnbroken.{as_unbroken, IsUnbroken}
use Rattle.cqs_core.specs.QueueSound.{IsSound}
use Rattle.cqs_core.specs.QueueStages.{IsWatched}
use Rattle.cqs_core.specs.QueueState.{Queue}
use Rattle.cqs_core.specs.QueueSteps as maker
use Rattle.cqs_core.specs.QueueSteps.{QueueStep, Makers, card_of, IsOpenStep, queue_after}

-- the value that a resume left in the cell of the number is there, or was taken
pub record HoldsWatched (q : Queue) (k : ℕ) : Type 0 where
  pub cell : CoreCell
  pub there : slice_get q.cells k ≡ Some cell
  pub at : IsWatched cell.state

-- Read with its broken cells as unbroken, the queue is sound; one that isn't synchronous reads as
-- itself. A pass watches a value that is there, or was taken; no two watch the same one. In a
-- synchronous queue each value that is there is watched, and none is left to a canceller.
pub record IsSoundEither (sync : Bool) (q : Queue) : Type 0 where
  pub reads : IsSound (as_unbroken q)
  pub plain : sync ≡ false → IsUnbroken q
  pub watches : (p k : ℕ) → slice_get q.doing p ≡ Some (doing.Watching k) → HoldsWatched q k
  pub lone : (p r k : ℕ) → slice_get q.doing p ≡ Some (doing.Watching k)
      → slice_get q.doing r ≡ Some (doing.Watching k) → p ≡ r
  pub watched : sync ≡ true → (k : ℕ) (cell : CoreCell) → slice_get q.cells k ≡ Some cell
      → cell.state ≡ state.Value → (p : ℕ) × (slice_get q.doing p ≡ Some (doing.Watching k))
  pub undelegated : sync ≡ true → (k : ℕ) (cell : CoreCell) → slice_get q.cells k ≡ Some cell
      → cell.state ≢ state.Delegated

-- clients of either kind make a step, or those of one kind alone
abbrev pub MayBeMade : Bool → Makers → Type 0
MayBeMade sync maker.each_client = Unit {0}
MayBeMade sync maker.without_door = Unit {0}
MayBeMade sync maker.with_debts = Unit {0}
MayBeMade sync maker.with_elements = Unit {0}
MayBeMade sync maker.in_smart_mode = Unit {0}
MayBeMade sync maker.who_ask = Unit {0}
MayBeMade sync maker.who_pass_on = Unit {0}
MayBeMade sync maker.who_leave_at_once = Unit {0}
MayBeMade sync maker.who_leave = sync ≡ false
MayBeMade sync maker.who_delegate = sync ≡ false
MayBeMade sync maker.who_watch = sync ≡ true

abbrev pub EveryStepKeepsEither : Type 0
EveryStepKeepsEither =
    (sync : Bool) (q : Queue) (s : QueueStep) (p k : ℕ) (found : Option CoreCell)
    → MayBeMade sync (card_of s).makers → IsSoundEither sync q → IsOpenStep q s p k found
    → IsSoundEither sync (queue_after s q p k found)
