-- An exchange at a place is one of the cell whose number its word holds.
use Rattle.std.proofs.Common.{◌≡◌, ℕ, ◌<◌, ◌^◌, Option, Some, None, sym, refl, ap, ◌∙◌, subst, arith}
use Rattle.std.specs.Option.{option_map}
use Rattle.std.proofs.lemmas.Option.{same_Some}
use Rattle.cqs_core.specs.declared.cells.CoreState.{CoreState}
use Rattle.cqs_core.specs.QueueSteps.{QueueStep, row_of, CellRow, StepRow, at_counter, at_cell}
use Rattle.cqs_words.specs.declared.cell.CellState.{CellState}
use Rattle.cqs_words.specs.Cell.{cell_word, index_in, state_code}
use Rattle.cqs_words.proofs.CellLaws.{state_code-below, index_in-cell_word}
use Rattle.cqs_rule_laws.specs.declared.config.Place.{Place}
use Rattle.cqs_rule_laws.specs.declared.view.View.{View}
use Rattle.cqs_rule_laws.specs.Exchanges.{Exchanges, MayExchange, IsCrossing}
use Rattle.cqs_rule_laws.specs.Placed.{KnowsPlace}
use Rattle.cqs_rule_laws.specs.Ruled.{shown_state}
use Rattle.cqs_cell.specs.Crossings.{CrossesRow, CrossesBy, Crosses, WorksBy, OwnsBy, LookedBy, FindsBy, FitsBy, MakesBy, LeavesBy}

-- the state whose shown one is this
made-state : (o : Option CoreState) (made : CellState) → option_map shown_state o ≡ Some made
    → (s : CoreState) × ((o ≡ Some s) × (shown_state s ≡ made))
made-state None made e = absurd (cc)
made-state (Some s) made e = (s, (refl, same_Some _ _ e))

module _ {E S : Type 0} (v : View E S) (at : Place) (found made : CellState) (payload left expected new : ℕ) where
  -- the conditions of an exchange together
  pub crosses-by : (row : StepRow) → WorksBy row at.index v.facts → OwnsBy row at.index v.facts → LookedBy row v
      → KnowsPlace v at
      → payload < 2 ^ 20 → FitsBy row payload → FindsBy row found → MakesBy row made
      → LeavesBy row v.facts payload left
      → expected ≡ cell_word at.index (state_code found) payload → new ≡ cell_word at.index (state_code made) left
      → CrossesBy row v at payload expected new
  crosses-by (at_counter row) works own looked place few fits finds makes leaves expects writes = absurd works
  crosses-by (at_cell row) works own looked place few fits finds makes leaves expects writes =
      let m = made-state row.makes made makes in record {
        works = works;
        own = own;
        looked = looked;
        place = place;
        payload_fits = few;
        bare = fits;
        expects = expects ∙ ap (λ s. cell_word at.index (state_code s) payload) (sym finds);
        state = m.0;
        makes = m.1.0;
        writes = writes ∙ (λ i. cell_word at.index (state_code (sym m.1.1 i)) (leaves i));
      }

module _ {E S : Type 0} (v : View E S) (at : Place) (payload expected new : ℕ) where
  pub row-index : (row : CellRow) → CrossesRow row v at payload expected new → index_in expected ≡ at.index
  row-index row x =
      let low = state_code-below (shown_state row.finds) in
      ap index_in x.expects ∙ index_in-cell_word at.index (state_code (shown_state row.finds)) payload
      (omega arith) x.payload_fits

  row-crossing : (row : CellRow) → CrossesRow row v at payload expected new
      → Exchanges row v at.index at.word expected new
  row-crossing row x = record {
    works = x.works;
    own = x.own;
    looked = x.looked;
    place = x.place;
    payload = payload;
    payload_fits = x.payload_fits;
    bare = x.bare;
    expects = x.expects;
    state = x.state;
    makes = x.makes;
    writes = x.writes;
  }

  -- the exchange may be made
  pub crossing-of : (s : QueueStep) → Crosses s v at payload expected new → IsCrossing s v at.word expected new
  crossing-of s x = by (row_of s) x
    where
      by : (row : StepRow) → CrossesBy row v at payload expected new
          → MayExchange row v (index_in expected) at.word expected new
      by (at_counter row) x = absurd x
      by (at_cell row) x =
          subst (λ k. Exchanges row v k at.word expected new) (sym (row-index row x)) (row-crossing row x)
