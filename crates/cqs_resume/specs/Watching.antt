-- What becomes of a value that a resume left in a cell and watches: it is taken, or the cell is
-- broken.
use Rattle.std.specs.Prelude.{◌≡◌, ℕ, ◌+◌, ◌≤◌, List, [], ◌∷◌, ◌++◌, length, None}
use Rattle.cqs_core.specs.declared.cells.CoreState.{CoreState}
use Rattle.cqs_core.specs.declared.cells.CoreState.TheVariants as state
use Rattle.cqs_core.specs.QueueSteps.{QueueStep, row_of, CellRow, StepRow, at_counter, at_cell, payload_told, in_sync, sees_value, sees_taken, breaks}
use Rattle.cqs_rule_laws.specs.declared.client.ClientWords.{Ghosts}
use Rattle.cqs_rule.specs.declared.queue.Pass.{Pass}
use Rattle.cqs_rule_laws.specs.declared.view.Facts.{Facts}
use Rattle.cqs_rule_laws.specs.declared.view.Sighting.{Sighting}
use Rattle.cqs_rule_laws.specs.declared.view.Sighting.TheVariants.{Cell}
use Rattle.cqs_rule_laws.specs.declared.view.View.{View}
use Rattle.cqs_rule_laws.specs.Called.{Called}
use Rattle.cqs_rule_laws.specs.Causes.{cell_of}
use Rattle.cqs_rule_laws.specs.Exchanges.{FoundCell, HasCell}
use Rattle.cqs_rule_laws.specs.Facts.{facts_worked}
use Rattle.cqs_rule_laws.specs.Object.{Object, Primitive}
use Rattle.cqs_rule_laws.specs.Saw.{WasFound, WasSo}
use Rattle.cqs_rule_laws.specs.Settling.{settles_row}
use Rattle.cqs_rule.specs.Counting.{counted_after}
use Rattle.cqs_rule.specs.Passes.{pass_view}
use Rattle.cqs_cell.specs.Transitions.{cells_seen}
use Rattle.cqs_resume.specs.declared.sync_resumed.SyncResumed.{SyncResumed}
use Rattle.cqs_resume.specs.declared.sync_resumed.SyncResumed.TheVariants.{Served, Refused, Broke, Handling, Under}

-- a pass at these facts that found the value there by each of these words, and these besides
abbrev pub facts_watching : ℕ → List ℕ → List Sighting → Facts → Facts
facts_watching k words tried f = record f {
  last = None;
  looked = f.looked + length words;
  found = f.found ++ (cells_seen k words ++ tried);
}

module _ {C E S : Type 0} (primitive : C → Primitive E S) where
  -- a look found the value in the cell of the number k, by this word and in what the history showed
  pub record IsThere (k : ℕ) (w : View E S) (word : ℕ) : Type 0 where
    pub payload : ℕ
    pub cell : FoundCell word (cell_of k state.Value payload)
    pub was : WasSo primitive (HasCell (cell_of k state.Value payload)) w

  abbrev pub AreThere : ℕ → View E S → List ℕ → Type 0
  AreThere k w [] = Unit {0}
  AreThere k w (word ∷ words) = IsThere k w word × AreThere k w words

module _ {C E S : Type 0} (primitive : C → Primitive E S) where
  -- A call left its value in the cell of the number k, which its exchange found empty, and then
  -- found it there by looks that found these words, one after the other. Then it found the cell in
  -- this state, before these entries. In between at most two exchanges weren't made, and nothing
  -- else was found.
  pub record HeldOut (at : CoreState) (k : ℕ) (words : List ℕ) (own : List E) (v w : View E S)
      : Type 0 where
    pub empty : ℕ
    pub bare : ℕ
    pub empty_cell : FoundCell empty (cell_of k state.Empty bare)
    pub was_empty : WasSo primitive (HasCell (cell_of k state.Empty bare)) w
    pub there : AreThere primitive k w words
    pub tried : List Sighting
    pub few : length tried ≤ 2
    pub word : ℕ
    pub payload : ℕ
    pub cell : FoundCell word (cell_of k at payload)
    pub was : WasFound primitive (HasCell (cell_of k at payload)) own w
    pub earlier : List Sighting
    pub found : w.facts.found ≡ v.facts.found
        ++ (earlier ++ Cell k empty ∷ (cells_seen k words ++ (tried ++ Cell k word ∷ [])))

-- the entries of looks of this pass that found these words
abbrev pub seen_entries : {E : Type 0} → Object E → ℕ → ℕ → ℕ → List ℕ → List E
seen_entries object pass k payload [] = []
seen_entries object pass k payload (word ∷ words) =
    object.entries (in_sync sees_value) pass k payload ++ seen_entries object pass k payload words

module _ {C E S : Type 0} (object : Object E) (primitive : C → Primitive E S) where
  -- the entries of the step that ends it, which finds this payload in the cell of the number k
  abbrev pub last_entries : QueueStep → CellRow → ℕ → ℕ → View E S → List E
  last_entries s row payload k v =
      object.entries s v.number k (payload_told row.gain payload v.facts.has.payload)

  -- A pass that watches the cell of the number k found its value there by looks, and each found one
  -- of these words; no more often than the queue asks. Then it made the step of this row, by which
  -- it watches no more, after at most two exchanges that weren't made. If that settled the cell, it
  -- is counted, and by that at most one head was found.
  pub record Watched (s : QueueStep) (row : CellRow) (k : ℕ) (v w : View E S) : Type 0 where
    pub words : List ℕ
    pub few_words : length words ≤ v.opening.looks
    pub there : AreThere primitive k w words
    pub tried : List Sighting
    pub few : length tried ≤ 2
    pub word : ℕ
    pub payload : ℕ
    pub cell : FoundCell word (cell_of k row.finds payload)
    pub was : WasFound primitive (HasCell (cell_of k row.finds payload))
        (last_entries s row payload k v) w
    pub called : Called object v
        (seen_entries object v.number k v.facts.has.payload words
        ++ last_entries s row payload k v)
        (last_entries s row payload k v) w
    pub counted : List (ℕ × ℕ)
    pub few_counted : length counted ≤ 1
    pub facts_are : w.facts ≡ counted_after (settles_row row) counted
        (facts_worked object.gains row k word (payload_told row.gain payload v.facts.has.payload)
        (facts_watching k words tried v.facts))

  abbrev pub WatchedBy : QueueStep → StepRow → ℕ → View E S → View E S → Type 0
  WatchedBy s (at_counter row) k v w = ⊥
  WatchedBy s (at_cell row) k v w = Watched s row k v w

  -- the value was found taken
  abbrev pub SawTaken : ℕ → View E S → View E S → Type 0
  SawTaken k v w = WatchedBy (in_sync sees_taken) (row_of (in_sync sees_taken)) k v w

  -- it was taken back, and the cell broken, once it had been found there as often as the queue asks
  abbrev pub HasBroken : ℕ → View E S → View E S → Type 0
  HasBroken k v w =
      (b : WatchedBy (in_sync breaks) (row_of (in_sync breaks)) k v w)
      × (length b.words ≡ v.opening.looks)

  -- one of the two, as it is answered
  abbrev pub WatchedTill : ℕ → View E S → SyncResumed → View E S → Type 0
  WatchedTill k v (Served n) w = (n ≡ k) × SawTaken k v w
  WatchedTill k v (Broke n) w = (n ≡ k) × HasBroken k v w
  WatchedTill k v (Refused n) w = ⊥
  WatchedTill k v (Handling n under) w = ⊥
  WatchedTill k v (Under under) w = ⊥

module _ {C S E : Type 0} {g : Ghosts C S E} where
  abbrev pub HasWatchedTill : ℕ → Pass C S E g → SyncResumed → Pass C S E g → Type 0
  HasWatchedTill k p result p' =
      WatchedTill g.object g.primitive k (pass_view p) result (pass_view p')
