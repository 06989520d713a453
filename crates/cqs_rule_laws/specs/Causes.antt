-- Why a call answered as it did, whatever the object: what its steps found of the suspend counter
-- and of cells, and where in the history this was so.
use Rattle.std.specs.Prelude.{◌≡◌, ℕ, ◌<◌, ◌≤◌, List, [], ◌∷◌, ◌++◌, length}
use Rattle.cqs_core.specs.declared.cells.CoreState.{CoreState}
use Rattle.cqs_rule_laws.specs.declared.view.Facts.{Facts}
use Rattle.cqs_rule_laws.specs.declared.view.Glimpse.{Glimpse}
use Rattle.cqs_rule_laws.specs.declared.view.Sighting.{Sighting}
use Rattle.cqs_rule_laws.specs.declared.view.Sighting.TheVariants.{Cell, Word}
use Rattle.cqs_rule_laws.specs.declared.view.View.{View}
use Rattle.cqs_rule_laws.specs.Exchanges.{FoundCell, HasCell}
use Rattle.cqs_rule_laws.specs.Layout.{suspends_place}
use Rattle.cqs_rule_laws.specs.Lists.{IsPrefix}
use Rattle.cqs_rule_laws.specs.Object.{Primitive}
use Rattle.cqs_rule_laws.specs.Saw.{WasFound, WasSo}

-- the cell of the number k in this state, with this payload
abbrev pub cell_of : ℕ → CoreState → ℕ → Glimpse
cell_of k state payload = record { number = k; state = state; payload = payload }

module _ {C E S : Type 0} (primitive : C → Primitive E S) where
  -- The last step of the call found the cell of the number k in this state: the table's word says
  -- so, and the cell was so at the end of all that the pass has seen before these entries.
  pub record CellWas (state : CoreState) (k : ℕ) (own : List E) (w : View E S) : Type 0 where
    pub word : ℕ
    pub payload : ℕ
    pub cell : FoundCell word (cell_of k state payload)
    pub found : (earlier : List Sighting) × (w.facts.found ≡ earlier ++ Cell k word ∷ [])
    pub was : WasFound primitive (HasCell (cell_of k state payload)) own w

  -- it was so somewhere in the call
  pub record CellWasOnce (state : CoreState) (k : ℕ) (v w : View E S) : Type 0 where
    pub word : ℕ
    pub payload : ℕ
    pub cell : FoundCell word (cell_of k state payload)
    pub found : (earlier : List Sighting) × (later : List Sighting)
        × (w.facts.found ≡ v.facts.found ++ (earlier ++ Cell k word ∷ later))
    pub was : WasSo primitive (HasCell (cell_of k state payload)) w

-- the call passed over so many numbers, or more
pub record PassedOver {E S : Type 0} (many : ℕ) (v w : View E S) : Type 0 where
  pub over : List ℕ
  pub passed : w.facts.passed ≡ v.facts.passed ++ over
  pub many_are : many ≤ length over

-- a pass at these facts that loaded the suspend counter as n, and did nothing else
abbrev pub facts_refused : ℕ → Facts → Facts
facts_refused n f = record f { found = f.found ++ Word suspends_place n ∷ [] }

-- by what counts the numbers that were drawn in a history
module _ {E S : Type 0} (drawn_in : List E → ℕ) where
  -- The first step of the call loaded the suspend counter, and found n: so many numbers had been
  -- drawn in what was seen by then.
  pub record Counted (v : View E S) (n : ℕ) (before : List E) (w : View E S) : Type 0 where
    pub since : IsPrefix v.seen before
    pub seen : IsPrefix before w.seen
    pub drawn : drawn_in before ≡ n
    pub found : IsPrefix (v.facts.found ++ Word suspends_place n ∷ []) w.facts.found

  -- The call was refused: it loaded the suspend counter, and this was at the limit or above. So
  -- many numbers had been drawn in all that the pass has seen now. Nothing else was touched.
  pub record IsWorn (v w : View E S) : Type 0 where
    pub loaded : ℕ
    pub worn : v.limit ≤ loaded
    pub counted : Counted v loaded w.seen w
    pub facts_are : w.facts ≡ facts_refused loaded v.facts

  -- one that wasn't had loaded it below the limit
  pub record IsBelow (v w : View E S) : Type 0 where
    pub loaded : ℕ
    pub before : List E
    pub below : loaded < v.limit
    pub counted : Counted v loaded before w
