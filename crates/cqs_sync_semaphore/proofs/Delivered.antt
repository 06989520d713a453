-- A permit that was held out and found taken was delivered: its delivery stands in the history. So another caller took
-- it, and the pass wasn't alone.
use Rattle.std.proofs.Common.{◌≡◌, ℕ, ◌+◌, Bool, true, List, [], ◌∷◌, ◌++◌, Option, Some, None, length, slice_get, refl, ap, sym, ◌∙◌, subst, zero-add, take_at}
use Rattle.std.proofs.lemmas.List.{append_cancel_right}
use Rattle.cqs_core.specs.declared.cells.CoreCell.{CoreCell}
use Rattle.cqs_core.specs.declared.cells.CoreState.{CoreState}
use Rattle.cqs_core.specs.declared.cells.CoreState.TheVariants as state
use Rattle.cqs_core.specs.declared.entries.Entry.{Entry}
use Rattle.cqs_core.specs.declared.entries.Entry.TheVariants as entry
use Rattle.cqs_core.specs.Numbered.{IsIn}
use Rattle.cqs_core.specs.QueueAsUnbroken.{as_unbroken, unbroken_cell, unbroken_state}
use Rattle.cqs_core.specs.QueueLine.{Service, is_served, service_of, services}
use Rattle.cqs_core.specs.QueueSound.{IsEntered, IsSound, IsSoundAt}
use Rattle.cqs_core.specs.QueueState.{Queue}
use Rattle.cqs_core.specs.SemaphoreEntries.{IsAllowed, IsLegal, IsServed, after_entry, object_after}
use Rattle.cqs_core.specs.SemaphoreObject.{Semaphore, opening}
use Rattle.cqs_core.proofs.Collected.{every-collection-follows}
use Rattle.cqs_core.proofs.Histories.{legal-push}
use Rattle.cqs_core.proofs.IdleLines.{read-off}
use Rattle.cqs_core.proofs.LineReads.{served-keyed}
use Rattle.cqs_core.proofs.Picked.{picked-in}
use Rattle.cqs_core.proofs.Places.{get-append_left, get-push_at}
use Rattle.cqs_core.proofs.QueueAsUnbroken.{get-map}
use Rattle.cqs_rule_laws.specs.declared.view.View.{View}
use Rattle.cqs_rule_laws.specs.Causes.{cell_of}
use Rattle.cqs_rule_laws.specs.Exchanges.{HasCell}
use Rattle.cqs_rule_laws.specs.Hidden.{state_at, state_in}
use Rattle.cqs_rule_laws.specs.Saw.{WasFound}
use Rattle.cqs_semaphore_client.specs.SemaphoreMade.{primitive_of}

-- what is sound of a cell in this state
sound-in : (q : Queue) (k : ℕ) (cell : CoreCell) (at : CoreState) → IsSoundAt q k cell cell.state → cell.state ≡ at
    → IsSoundAt q k cell at
sound-in q k cell at sound is = subst (IsSoundAt q k cell) is sound

-- the caller of a cell that is taken is among those who were served, and never looks
taken-served : (q : Queue) (k : ℕ) → IsSound (as_unbroken q) → state_at q k ≡ state.Taken
    → (c : ℕ) × IsServed k c (services q)
taken-served q k sound taken = by (slice_get q.cells k) refl
  where
    read : (s : CoreState) (owner : Option ℕ) (collected : Bool) (c : ℕ) → s ≡ state.Taken → owner ≡ Some c
        → service_of k s owner collected ≡ Some (record { wait = k; pass = c; is_open = true })
    read s owner collected c is mine = rw (is, mine) refl

    by : (found : Option CoreCell) → slice_get q.cells k ≡ found → (c : ℕ) × IsServed k c (services q)
    by None finds = absurd (cc (sym taken ∙ ap state_in finds))
    by (Some cell) finds =
        let is : cell.state ≡ state.Taken = sym (ap state_in finds) ∙ taken in
        let reads : unbroken_state cell.state cell.collected ≡ state.Taken =
        ap (λ s. unbroken_state s cell.collected) is in
        let here : IsSoundAt (as_unbroken q) k (unbroken_cell cell) state.Taken =
        sound-in (as_unbroken q) k (unbroken_cell cell) state.Taken
        (sound.cells.at k (unbroken_cell cell) (get-map unbroken_cell q.cells k cell finds)) reads in
        let entered : IsEntered (as_unbroken q) k (unbroken_cell cell) = here.0 in (
          entered.pass,
          picked-in is_served 0 q.cells k k cell (record { wait = k; pass = entered.pass; is_open = true })
              (sym (zero-add k)) finds (read cell.state cell.owner cell.collected entered.pass is entered.owner),
        )

-- the caller of a cell that is empty isn't
empty-unserved : (q : Queue) (k c : ℕ) → state_at q k ≡ state.Empty → IsServed k c (services q) → ⊥
empty-unserved q k c empty served =
    let s : Service = record { wait = k; pass = c; is_open = true } in
    let r = read-off is_served 0 q.cells s served in
    let key : k ≡ 0 + r.place = served-keyed.at (0 + r.place) r.element s r.reads in
    let here : slice_get q.cells k ≡ Some r.element = ap (slice_get q.cells) (key ∙ zero-add r.place) ∙ r.there in
    unread (0 + r.place) r.element.state r.element.owner r.element.collected s (sym (ap state_in here) ∙ empty) r.reads
  where
    unread : (n : ℕ) (at : CoreState) (owner : Option ℕ) (collected : Bool) (s : Service) → at ≡ state.Empty
        → service_of n at owner collected ≡ Some s → ⊥
    unread n at owner collected s is reads = absurd (cc (rw is at reads))

-- Who is among the served was delivered to, since a look at its wait may come next, and follows its delivery.
served-delivered : (permits : ℕ) (history : List Entry) (k c : ℕ) → IsLegal permits history
    → IsServed k c (object_after permits history).served → IsIn (entry.Deliver k) history
served-delivered permits history k c legal served =
    let looks : Entry = entry.LookGranted c k in
    subst (IsIn (entry.Deliver k)) (take_at history (looks ∷ []) (length history) refl)
    (every-collection-follows permits (history ++ looks ∷ []) k (length history) looks
    (legal-push IsAllowed after_entry (opening permits) history looks served legal)
    (get-push_at history looks (length history) refl) refl)

module _ {T : Type 0} where
  pub taken-delivered : (k payload : ℕ) (w : View Entry T)
      → WasFound {S = T} primitive_of (HasCell (cell_of k state.Taken payload)) [] w → IsIn (entry.Deliver k) w.seen
  taken-delivered k payload w found =
      let core = found.was.shown.core in
      let served = taken-served found.was.hidden.queue k core.sound found.was.holds.0 in
      let delivered : IsIn (entry.Deliver k) found.before =
      served-delivered _ found.before k served.0 core.legal
      (subst (λ (o : Semaphore). IsServed k served.0 o.served) (sym core.object) served.1) in
      record {
        place = delivered.place;
        there = ap (λ es. slice_get es delivered.place) found.seen
            ∙ get-append_left found.before [] delivered.place (entry.Deliver k) delivered.there;
      }

  -- Where the same history shows a cell empty, it shows nobody served there, and so it doesn't show the cell taken.
  pub taken-together : (k left taken : ℕ) (m w : View Entry T) → m.seen ≡ w.seen → m.opening ≡ w.opening
      → WasFound {S = T} primitive_of (HasCell (cell_of k state.Empty left)) [] m
      → WasFound {S = T} primitive_of (HasCell (cell_of k state.Taken taken)) [] w → ⊥
  taken-together k left taken m w same opens empty found =
      let before = empty.was.shown.core in
      let after = found.was.shown.core in
      let served = taken-served found.was.hidden.queue k after.sound found.was.holds.0 in
      let opened : (primitive_of found.was.client).opening ≡ (primitive_of empty.was.client).opening =
      found.was.opening_is ∙ (sym opens ∙ sym empty.was.opening_is) in
      let history : found.before ≡ empty.before =
      append_cancel_right found.before empty.before [] (sym found.seen ∙ (sym same ∙ empty.seen)) in
      empty-unserved empty.was.hidden.queue k served.0 empty.was.holds.0
      (subst (λ (o : Semaphore). IsServed k served.0 o.served)
      (sym after.object ∙ ((λ i. object_after (opened i).size (history i)) ∙ before.object)) served.1)
