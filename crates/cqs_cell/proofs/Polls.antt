-- A poll of a wait is a look at its cell: it was found with its waiter, or served.
use Rattle.std.proofs.Common.{◌≡◌, ℕ, false, List, refl, ap, ◌∙◌, subst}
use Rattle.cqs_core.specs.declared.cells.CoreState.{CoreState}
use Rattle.cqs_core.specs.declared.cells.CoreState.TheVariants as state
use Rattle.cqs_core.specs.QueueStages as stage
use Rattle.cqs_core.specs.QueueStages.{MayFind}
use Rattle.cqs_core.specs.QueueSteps.{looks, pends, grants, its_own}
use Rattle.cqs_words.specs.declared.cell.CellWord.{CellWord}
use Rattle.cqs_rule_laws.specs.declared.view.Facts.{Facts}
use Rattle.cqs_rule_laws.specs.declared.view.Glimpse.{Glimpse}
use Rattle.cqs_rule_laws.specs.declared.view.View.{View}
use Rattle.cqs_rule_laws.specs.Called.{Called}
use Rattle.cqs_rule_laws.specs.CallRule.{IsReady, RestsHolding}
use Rattle.cqs_rule_laws.specs.Causes.{cell_of, CellWas}
use Rattle.cqs_rule_laws.specs.Exchanges.{FoundCell, HasCell}
use Rattle.cqs_rule_laws.specs.Hidden.{has_gained}
use Rattle.cqs_rule_laws.specs.Lists.{without}
use Rattle.cqs_rule_laws.specs.Loads.{polls, event_of, facts_looked, look_entries}
use Rattle.cqs_rule_laws.specs.Object.{Object, Primitive}
use Rattle.cqs_rule_laws.specs.Ruled.{shown_state}
use Rattle.cqs_rule_laws.specs.Saw.{Saw, WasFound}
use Rattle.cqs_rule_laws.proofs.CellSteps.{shown-injective}
use Rattle.cqs_rule_laws.proofs.Calls.{called-by}
use Rattle.cqs_rule.specs.Counting.{counted_after}
use Rattle.cqs_cell.proofs.Answered.{number-found}
use Rattle.cqs_cell.specs.Looks.{LooksAt, settles_event}

module _ {C E S : Type 0} (object : Object E) (primitive : C → Primitive E S) where
  -- the entries of a look at a cell that is found so
  abbrev poll_entries : Glimpse → View E S → List E
  poll_entries g v = look_entries {S = S} object primitive (event_of polls g.state) v.number g v.facts

  -- the cell of the wait k was found in this state, with this payload
  pub record FoundSo (at : CoreState) (k payload : ℕ) (v w : View E S) : Type 0 where
    pub word : ℕ
    pub cell : FoundCell word (cell_of k at payload)
    pub heads : List (ℕ × ℕ)
    pub saw : Saw object v (counted_after (settles_event (event_of polls at)) heads
        (facts_looked object.gains (event_of polls at) word (cell_of k at payload) v.facts))
        (poll_entries (cell_of k at payload) v) w
    pub was : WasFound primitive (HasCell (cell_of k at payload)) (poll_entries (cell_of k at payload) v) w

  pub found-so : (at : CoreState) (k : ℕ) (v w : View E S) (cell : CellWord)
      → LooksAt object primitive polls k v cell w → cell.state ≡ shown_state at → FoundSo at k cell.payload v w
  found-so at k v w cell l is =
      let g = l.looked.glimpse in
      let state_is : g.state ≡ at = shown-injective g.state at (l.shows.state ∙ is) in
      let payload_is : g.payload ≡ cell.payload =
      l.shows.payload (number-found l.word g l.looked.cell
      (λ cancelled. absurd (subst (MayFind false stage.idle) cancelled l.looked.may))) in
      let same : g ≡ cell_of k at cell.payload =
      λ i. record { number = l.looked.number i; state = state_is i; payload = payload_is i } in
      record {
        word = l.word;
        cell = subst (FoundCell l.word) same l.looked.cell;
        heads = l.looked.heads;
        saw = subst (λ (z : Glimpse). Saw object v
            (counted_after (settles_event (event_of polls z.state)) l.looked.heads
            (facts_looked object.gains (event_of polls z.state) l.word z v.facts)) (poll_entries z v) w) same
            l.looked.saw;
        was = subst (λ (z : Glimpse). WasFound primitive (HasCell z) (poll_entries z v) w) same l.looked.was;
      }

  -- with its waiter
  module _ (k payload : ℕ) (v w : View E S) (f : FoundSo state.Waiter k payload v w) where
    abbrev pending_entries : List E
    pending_entries = object.entries (looks pends) v.number k v.facts.has.payload

    pub pending-called : Called object v pending_entries pending_entries w
    pending-called = called-by object v w _ _ f.saw

    pub pending-cell : CellWas primitive state.Waiter k pending_entries w
    pending-cell = record {
      word = f.word;
      payload = payload;
      cell = f.cell;
      found = (_, ap (λ (f : Facts). f.found) f.saw.facts_are);
      was = f.was;
    }

    pub pending-ready : IsReady v.facts → IsReady w.facts
    pending-ready r = record {
      idle = ap (λ (f : Facts). f.doing) f.saw.facts_are;
      further = ap (λ (f : Facts). f.has.further) f.saw.facts_are ∙ r.further;
    }

    pub pending-has : w.facts.has ≡ v.facts.has
    pending-has = ap (λ (f : Facts). f.has) f.saw.facts_are

    pub pending-waits : w.facts.waits ≡ v.facts.waits
    pending-waits = ap (λ (f : Facts). f.waits) f.saw.facts_are

    pub pending-rests : IsReady v.facts → RestsHolding v.facts.has.held v.facts.waits w
    pending-rests r = record {
      ready = pending-ready r;
      held_is = ap (λ h. h.held) pending-has;
      waits_are = pending-waits;
    }

  -- or served with this payload
  module _ (k payload : ℕ) (v w : View E S) (f : FoundSo state.Resumed k payload v w) where
    abbrev granted_entries : List E
    granted_entries = object.entries (looks grants) v.number k payload

    pub granted-called : Called object v granted_entries granted_entries w
    granted-called = called-by object v w _ _ f.saw

    pub granted-cell : (cell : CellWas primitive state.Resumed k granted_entries w) × (cell.payload ≡ payload)
    granted-cell = (
      record {
        word = f.word;
        payload = payload;
        cell = f.cell;
        found = (_, ap (λ (f : Facts). f.found) f.saw.facts_are);
        was = f.was;
      },
      refl,
    )

    pub granted-ready : IsReady v.facts → IsReady w.facts
    granted-ready r = record {
      idle = ap (λ (f : Facts). f.doing) f.saw.facts_are;
      further = ap (λ (f : Facts). f.has.further) f.saw.facts_are ∙ r.further;
    }

    pub granted-has : w.facts.has ≡ has_gained object.gains its_own payload v.facts.has
    granted-has = ap (λ (f : Facts). f.has) f.saw.facts_are

    pub granted-waits : w.facts.waits ≡ without k v.facts.waits
    granted-waits = ap (λ (f : Facts). f.waits) f.saw.facts_are

    pub granted-rests : IsReady v.facts
        → RestsHolding (object.gains.held v.facts.has.held) (without k v.facts.waits) w
    granted-rests r = record {
      ready = granted-ready r;
      held_is = ap (λ h. h.held) granted-has;
      waits_are = granted-waits;
    }
