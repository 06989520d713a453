-- A cancel of a synchronous semaphore is that of a semaphore, where nothing was left to the canceller.
use Rattle.std.proofs.Common.{◌≡◌, ◌⊎◌, ℕ, true, [], Some, None, inl, inr, ⊎_elim}
use Rattle.cqs_core.specs.declared.cells.CoreState.TheVariants as state
use Rattle.cqs_core.specs.declared.entries.Entry.{Entry}
use Rattle.cqs_rule_laws.specs.declared.view.View.{View}
use Rattle.cqs_cancel.specs.Cancels as cancel
use Rattle.cqs_cancel.specs.declared.cancelling.Left.TheVariants.{GoneOwing}
use Rattle.cqs_semaphore_client.specs.Semaphore.{semaphore_object}
use Rattle.cqs_semaphore_client.specs.SemaphoreMade.{primitive_of}
use Rattle.cqs_semaphore.specs.declared.answers.CancelAnswer.TheVariants as answer
use Rattle.cqs_semaphore.specs.declared.answers.Permit.{Permit}
use Rattle.cqs_semaphore.specs.Answers.{LeftLine, WasRefused, WentSo}
use Rattle.cqs_semaphore.specs.Causes.{CellWas}
use Rattle.cqs_semaphore.specs.Steps.{HasCancelled}
use Rattle.cqs_semaphore.proofs.CancelSteps.{asked_so, owed-delegated}
use Rattle.cqs_sync_semaphore.specs.Answers.{Cancels}
use Rattle.cqs_sync_semaphore.specs.declared.answers.SyncLeft.TheVariants.{Cancelled, TooLate}
use Rattle.cqs_sync_semaphore.proofs.NeverDelegated.{never-delegated, never-delegated_once}

module _ {T : Type 0} where
  -- the waiter went as it was decided, and no resume had come to its cell
  went : (k : ℕ) (v w : View Entry T) → w.opening.sync ≡ true → WentSo k v None w
      → (LeftLine k v w ⊎ WasRefused k v w) × CellWas state.Cancelling k [] w
  went k v w on (inl left) = (inl left.0, left.1)
  went k v w on (inr refused) = (
    inr refused.0,
    ⊎_elim
        (λ (cancelling : CellWas state.Cancelling k [] w). cancelling)
        (λ (delegated : CellWas state.Delegated k [] w). absurd (never-delegated k [] w on delegated))
        refused.1,
  )

  pub cancelled : (k : ℕ) (v w : View Entry T) → w.opening.sync ≡ true
      → HasCancelled k v (answer.Cancelled None) w → Cancels k v Cancelled w
  cancelled k v w on (None, rule, (waited, passes, went_so)) =
      let how = went k v w on went_so in (rule, waited, how.0, how.1, passes.1)
  cancelled k v w on (Some released, rule, (waited, passes, went_so)) =
      absurd (never-delegated_once k v w on passes.1)

  pub too-late : (k : ℕ) (v w : View Entry T) (permit : Permit) → HasCancelled k v (answer.TooLate permit) w
      → Cancels k v (TooLate permit) w
  too-late k v w permit (None, rule, (none, number, cell, rests)) = (rule, number, cell, rests)
  too-late k v w permit (Some released, rule, (none, number, cell, rests)) = absurd (cc (none))

  -- nothing was left to the canceller
  pub never-owing : (k payload : ℕ) (v u : View Entry T) → u.opening.sync ≡ true
      → cancel.Cancels semaphore_object primitive_of asked_so k v (GoneOwing payload) u → ⊥
  never-owing k payload v u on b = never-delegated_once k v u on (owed-delegated k payload v u b)
