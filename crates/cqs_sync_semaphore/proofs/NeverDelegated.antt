-- In a synchronous semaphore no permit is left to a caller who leaves.
use Rattle.std.proofs.Common.{◌≡◌, ◌≢◌, ℕ, Bool, true, List, Option, Some, None, sym, refl, ap, ◌∙◌}
use Rattle.std.specs.Prelude.{slice_get}
use Rattle.cqs_core.specs.declared.cells.CoreCell.{CoreCell}
use Rattle.cqs_core.specs.declared.cells.CoreState.TheVariants as state
use Rattle.cqs_core.specs.declared.entries.Entry.{Entry}
use Rattle.cqs_core.specs.QueueEither.{IsSoundEither}
use Rattle.cqs_core.specs.QueueState.{Queue}
use Rattle.cqs_rule_laws.specs.declared.view.Opening.{Opening}
use Rattle.cqs_rule_laws.specs.declared.view.View.{View}
use Rattle.cqs_rule_laws.specs.Causes.{cell_of}
use Rattle.cqs_rule_laws.specs.Exchanges.{HasCell}
use Rattle.cqs_rule_laws.specs.Hidden.{state_at, state_in}
use Rattle.cqs_rule_laws.specs.Saw.{WasShown}
use Rattle.cqs_semaphore_client.specs.SemaphoreMade.{primitive_of, sync_of}
use Rattle.cqs_semaphore.specs.Causes.{CellWas, CellWasOnce}

undelegated : (sync : Bool) (q : Queue) (k : ℕ) → IsSoundEither sync q → sync ≡ true
    → state_at q k ≢ state.Delegated
undelegated sync q k is on at = by (slice_get q.cells k) refl
  where
    by : (found : Option CoreCell) → slice_get q.cells k ≡ found → ⊥
    by None finds = absurd (cc (sym at ∙ ap state_in finds))
    by (Some cell) finds = is.undelegated on k cell finds (sym (ap state_in finds) ∙ at)

module _ {T : Type 0} where
  shown-undelegated : (opening : Opening) (k payload : ℕ) (history : List Entry) → opening.sync ≡ true
      → WasShown {S = T} primitive_of opening (HasCell (cell_of k state.Delegated payload)) history → ⊥
  shown-undelegated opening k payload history on was =
      undelegated (sync_of was.client) was.hidden.queue k was.shown.queue
      (ap (λ (o : Opening). o.sync) was.opening_is ∙ on) was.holds.0

  pub never-delegated : (k : ℕ) (own : List Entry) (w : View Entry T) → w.opening.sync ≡ true
      → CellWas state.Delegated k own w → ⊥
  never-delegated k own w on cell = shown-undelegated w.opening k cell.payload cell.was.before on cell.was.was

  pub never-delegated_once : (k : ℕ) (v w : View Entry T) → w.opening.sync ≡ true
      → CellWasOnce state.Delegated k v w → ⊥
  never-delegated_once k v w on cell = shown-undelegated w.opening k cell.payload cell.was.before on cell.was.was
