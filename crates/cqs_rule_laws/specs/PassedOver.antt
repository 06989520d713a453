-- A resume passes over a number whose segment was taken out: its load of a cell of a later segment
-- shows the event that a load of the number's own cell would.
use Rattle.std.specs.Prelude.{◌≡◌, ℕ, ◌/◌, ◌%◌, ◌<◌, Option}
use Rattle.atomic_table.specs.Table.{Me, Step}
use Rattle.cqs_core.specs.declared.cells.CoreState.TheVariants as state
use Rattle.cqs_core.specs.declared.doings.Doing.TheVariants as doing
use Rattle.cqs_core.specs.QueueSteps.{passes_over, row_of}
use Rattle.cqs_slots.specs.Layout.{slot_cell}
use Rattle.cqs_slots.specs.Slots.{IsHome}
use Rattle.cqs_rule_laws.specs.declared.config.Place.{Place}
use Rattle.cqs_rule_laws.specs.declared.loads.Learned.TheVariants.{Nothing}
use Rattle.cqs_rule_laws.specs.declared.view.View.{View}
use Rattle.cqs_rule_laws.specs.Causes.{cell_of}
use Rattle.cqs_rule_laws.specs.Exchanges.{FoundCell, HasCell, SinceLast}
use Rattle.cqs_rule_laws.specs.Facts.{facts_after}
use Rattle.cqs_rule_laws.specs.Lists.{Has}
use Rattle.cqs_rule_laws.specs.Loads.{CarriesLearned}
use Rattle.cqs_rule_laws.specs.Object.{Object, Primitive}
use Rattle.cqs_rule_laws.specs.Placed.{place_at}
use Rattle.cqs_rule_laws.specs.Saw.{Saw, IsLive, WasFound}
use Rattle.cqs_rule_laws.specs.Views.{IsSame}

-- The pass knows that the segment of the place's number was taken out, and that a later segment was
-- made in a slot; the word is that of the same cell there.
pub record IsGone {E S : Type 0} (v : View E S) (at : Place) : Type 0 where
  pub out : Has (at.index / 32) v.segments.outs
  pub later : ℕ
  pub after : at.index / 32 < later
  pub slot : ℕ
  pub home : IsHome v.segments.homes later slot
  pub low : slot < v.slots
  pub word : at.word ≡ slot_cell slot (at.index % 32)

module _ {C E S : Type 0} (object : Object E) (primitive : C → Primitive E S) where
  -- The number k was passed over as the word n was found, which is that of a later number. Its cell
  -- was cancelled, with this payload.
  pub record PassedOver (k : ℕ) (v : View E S) (n : ℕ) (w : View E S) : Type 0 where
    pub payload : ℕ
    pub cell : FoundCell n (cell_of k state.Cancelled payload)
    pub since : SinceLast (cell_of k state.Cancelled payload) v.facts.last
    pub saw : Saw object v
        (facts_after object.gains (row_of passes_over) k n v.facts.has.payload v.facts)
        (object.entries passes_over v.number k v.facts.has.payload) w
    pub was : WasFound primitive (HasCell (cell_of k state.Cancelled payload))
        (object.entries passes_over v.number k v.facts.has.payload) w

  abbrev pub passed_over : Step (Option S) → Me (Option S) (View E S) → ℕ
      → Me (Option S) (View E S) → Type 0
  passed_over st me n me' =
      ((k : ℕ) → IsGone me.0 (place_at st.word k) → me.0.facts.doing ≡ doing.Ticket k
      → PassedOver k me.0 n me'.0)
      × (me'.1 ≡ me.1) × IsLive object me'.0
      × CarriesLearned object.gains.held Nothing me.0.facts me'.0.facts × IsSame me.0 me'.0
