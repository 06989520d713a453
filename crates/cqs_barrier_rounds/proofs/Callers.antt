-- For those who call: what stands at a round after a call there, after one at another round, and at the opening.
use Rattle.std.proofs.Common.{◌≡◌, ◌≢◌, ℕ, ◌≤◌, List, Some, length, slice_get, sym, ap, ◌∙◌, arith}
use Rattle.std.proofs.lemmas.Option.{same_Some}
use Rattle.cqs_core.proofs.Places.{get-set_here, get-set_else, get-below, get-there}
use Rattle.cqs_barrier_object.specs.declared.entries.BarrierEntry.{BarrierEntry}
use Rattle.cqs_rule_laws.specs.declared.client.ClientWords.{Ghosts}
use Rattle.cqs_rule_laws.specs.declared.config.Config.{Config}
use Rattle.cqs_rule.specs.declared.queue.Pass.{Pass}
use Rattle.cqs_rule_laws.specs.declared.view.View.{View}
use Rattle.cqs_rule.specs.Passes.{pass_view}
use Rattle.cqs_barrier.specs.Parked.{Barrier, BarrierClient}
use Rattle.cqs_barrier_rounds.specs.Rounds.{AreMine, AreOpened, IsAt, IsCalled, IsOpened}

module _ {g : Ghosts BarrierClient (Unit {0}) BarrierEntry} where
  pub at-here : (call : View BarrierEntry (Unit {0}) → View BarrierEntry (Unit {0}) → Type 0)
      (fact : View BarrierEntry (Unit {0}) → Type 0) (r : ℕ)
      (ps qs : List (Pass BarrierClient (Unit {0}) BarrierEntry g)) → IsCalled call r ps qs
      → ((v w : View BarrierEntry (Unit {0})) → call v w → fact w) → IsAt fact qs r
  at-here call fact r ps qs called gives q there =
      let here : slice_get qs r ≡ Some called.new =
      ap (λ xs. slice_get xs r) called.now ∙ get-set_here ps r called.old called.new called.was in
      let one : q ≡ called.new = same_Some q called.new (sym there ∙ here) in
      rw one (gives (pass_view called.old) (pass_view called.new) called.called)

  pub at-else : (call : View BarrierEntry (Unit {0}) → View BarrierEntry (Unit {0}) → Type 0)
      (fact : View BarrierEntry (Unit {0}) → Type 0) (r i : ℕ)
      (ps qs : List (Pass BarrierClient (Unit {0}) BarrierEntry g)) → IsCalled call r ps qs → r ≢ i → IsAt fact ps i
      → IsAt fact qs i
  at-else call fact r i ps qs called other was q there =
      was q (sym (get-set_else ps r i called.new other) ∙ (ap (λ xs. slice_get xs i) (sym called.now) ∙ there))

  pub at-opening : (config : Config) (parties : ℕ) (fact : View BarrierEntry (Unit {0}) → Type 0) (bs : List Barrier)
      (ps : List (Pass BarrierClient (Unit {0}) BarrierEntry g)) → AreMine bs ps → AreOpened config parties bs ps
      → ((b : Barrier) (p : Pass BarrierClient (Unit {0}) BarrierEntry g) → IsOpened config parties b p
      → fact (pass_view p)) → (r : ℕ) → IsAt fact ps r
  at-opening config parties fact bs ps mine opened gives r p there =
      let low = get-below ps r p there in
      let many = mine.many in
      let which = get-there bs r (omega arith) in
      gives which.0 p (opened r which.0 p which.1 there)

  -- past the last round there is no pass
  pub at-end : (fact : View BarrierEntry (Unit {0}) → Type 0) (bs : List Barrier)
      (ps : List (Pass BarrierClient (Unit {0}) BarrierEntry g)) (r : ℕ) → AreMine bs ps → length bs ≤ r
      → IsAt fact ps r
  at-end fact bs ps r mine past p there =
      let low = get-below ps r p there in
      let many = mine.many in
      absurd (omega arith)
