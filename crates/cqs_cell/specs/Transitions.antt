-- What a transition of a cell tells the pass that tried it.
use Rattle.std.specs.Prelude.{◌≡◌, ◌≢◌, ℕ, ◌≤◌, Bool, true, false, List, [], ◌∷◌, ◌++◌, length, Option, Some, None}
use Rattle.cqs_core.specs.QueueCells.{IsBare}
use Rattle.cqs_core.specs.QueueStages.{MayFind}
use Rattle.cqs_core.specs.QueueSteps.{QueueStep, row_of, CellRow, StepRow, at_counter, at_cell, payload_told, settles, settles_owing, refuses, refuses_value}
use Rattle.cqs_words.specs.declared.cell.CellState.{CellState}
use Rattle.cqs_words.specs.declared.cell.CellWord.{CellWord}
use Rattle.cqs_words.specs.Cell.{unpacked_cell, index_in}
use Rattle.cqs_rule_laws.specs.declared.client.ClientWords.{Ghosts}
use Rattle.cqs_rule.specs.declared.queue.Pass.{Pass}
use Rattle.cqs_rule_laws.specs.declared.view.Facts.{Facts}
use Rattle.cqs_rule_laws.specs.declared.view.Glimpse.{Glimpse}
use Rattle.cqs_rule_laws.specs.declared.view.Sighting.{Sighting}
use Rattle.cqs_rule_laws.specs.declared.view.Sighting.TheVariants.{Cell}
use Rattle.cqs_rule_laws.specs.declared.view.View.{View}
use Rattle.cqs_rule_laws.specs.Drawn.{TellsCome}
use Rattle.cqs_rule_laws.specs.Exchanges.{FoundCell, SinceLast, HasCell}
use Rattle.cqs_rule_laws.specs.Facts.{facts_worked, facts_missed}
use Rattle.cqs_rule_laws.specs.Object.{Object, Primitive}
use Rattle.cqs_rule.specs.Passes.{pass_view}
use Rattle.cqs_cell.specs.Found.{cell_found}
use Rattle.cqs_rule_laws.specs.Ruled.{shown_state}
use Rattle.cqs_rule_laws.specs.Saw.{Saw, WasFound}
use Rattle.cqs_rule_laws.specs.Settling.{settles_row}
use Rattle.cqs_rule.specs.Counting.{counted_after}

-- a pass at these facts, with these found besides, and another glimpse
abbrev pub facts_since : List Sighting → Option Glimpse → Facts → Facts
facts_since found last f = record f { last = last; found = found }

-- these words were found in the cell of the number k, in order
abbrev pub cells_seen : ℕ → List ℕ → List Sighting
cells_seen k [] = []
cells_seen k (word ∷ words) = Cell k word ∷ cells_seen k words

module _ {C E S : Type 0} (object : Object E) (primitive : C → Primitive E S) where
  -- A step of this row was made at the cell of the number k: it found the cell in the state that
  -- the row wants, with this payload. The step's entries are the only ones, and the pass is where
  -- the row leads. Before the step it may have tried in vain, and found these. Where the step
  -- settled the cell, that is counted, and by that at most one head was found. A pass that is alone
  -- knows by what was drawn that the cell was to be found so.
  pub record Made (s : QueueStep) (row : CellRow) (tried : ℕ) (k payload : ℕ) (v w : View E S)
      : Type 0 where
    pub word : ℕ
    pub cell : FoundCell word (record { number = k; state = row.finds; payload = payload })
    pub come : TellsCome v k row.finds
    pub before : Facts
    pub found : List Sighting
    pub few : length found ≤ tried
    pub last : Option Glimpse
    pub before_is : before ≡ facts_since (v.facts.found ++ found) last v.facts
    pub heads : List (ℕ × ℕ)
    pub few_heads : length heads ≤ 1
    pub saw : Saw object v
        (counted_after (settles_row row) heads (facts_worked object.gains row k word
        (payload_told row.gain payload v.facts.has.payload) before))
        (object.entries s v.number k (payload_told row.gain payload v.facts.has.payload)) w
    pub was : WasFound primitive
        (HasCell (record { number = k; state = row.finds; payload = payload }))
        (object.entries s v.number k (payload_told row.gain payload v.facts.has.payload)) w

  -- It wasn't made, since the cell of the number k was found in this state, by the only step.
  pub record Missed (row : CellRow) (k : ℕ) (v : View E S) (state : CellState) (w : View E S)
      : Type 0 where
    pub word : ℕ
    pub glimpse : Glimpse
    pub number : glimpse.number ≡ k
    pub cell : FoundCell word glimpse
    pub state_is : shown_state glimpse.state ≡ state
    pub other : IsBare row.finds → glimpse.state ≢ row.finds
    pub may : MayFind v.opening.sync row.works_at glimpse.state
    pub since : SinceLast glimpse v.facts.last
    pub saw : Saw object v (facts_missed word glimpse v.facts) [] w
    pub was : WasFound primitive (HasCell glimpse) [] w

  -- It wasn't made by several exchanges, of which the last found the cell of the number k in this
  -- state; those before, at most so many, found these words there. The pass is at what it was, and
  -- knows what was found last.
  pub record MissedAfter (row : CellRow) (tried : ℕ) (k : ℕ) (v : View E S) (state : CellState)
      (w : View E S) : Type 0 where
    pub words : List ℕ
    pub few : length words ≤ tried
    pub word : ℕ
    pub glimpse : Glimpse
    pub number : glimpse.number ≡ k
    pub cell : FoundCell word glimpse
    pub state_is : shown_state glimpse.state ≡ state
    pub may : MayFind v.opening.sync row.works_at glimpse.state
    pub saw : Saw object v (facts_since (v.facts.found ++ cells_seen k (words ++ word ∷ []))
        (Some glimpse) v.facts) [] w
    pub was : WasFound primitive (HasCell glimpse) [] w

  -- the same of an exchange that wanted this payload there, with the one that was found
  pub record MissedCell (row : CellRow) (k payload : ℕ) (v : View E S) (cell : CellWord)
      (w : View E S) : Type 0 where
    pub missed : Missed row k v cell.state w
    pub payload_is : index_in missed.word ≡ missed.glimpse.number
        → missed.glimpse.payload ≡ cell.payload
    pub other : missed.glimpse.state ≡ row.finds → missed.glimpse.payload ≢ payload

  abbrev pub MissedCellBy : StepRow → ℕ → ℕ → View E S → CellWord → View E S → Type 0
  MissedCellBy (at_counter row) k payload v cell w = ⊥
  MissedCellBy (at_cell row) k payload v cell w = MissedCell row k payload v cell w

  abbrev pub MadeBy : QueueStep → StepRow → ℕ → ℕ → ℕ → View E S → View E S → Type 0
  MadeBy s (at_counter row) tried k payload v w = ⊥
  MadeBy s (at_cell row) tried k payload v w = Made s row tried k payload v w

  abbrev pub MissedBy : StepRow → ℕ → View E S → CellState → View E S → Type 0
  MissedBy (at_counter row) k v found w = ⊥
  MissedBy (at_cell row) k v found w = Missed row k v found w

  abbrev pub MissedAfterBy : StepRow → ℕ → ℕ → View E S → CellState → View E S → Type 0
  MissedAfterBy (at_counter row) tried k v found w = ⊥
  MissedAfterBy (at_cell row) tried k v found w = MissedAfter row tried k v found w

module _ {C S E : Type 0} {g : Ghosts C S E} where
  -- the step was made at the cell of the number k, which had this payload, as the first and only
  -- try
  abbrev pub HasMade : QueueStep → ℕ → ℕ → Pass C S E g → Pass C S E g → Type 0
  HasMade s k payload p p' =
      MadeBy g.object g.primitive s (row_of s) 0 k payload (pass_view p) (pass_view p')

  -- the same, after at most one try that found another payload or state
  abbrev pub HasMadeAfter : QueueStep → ℕ → ℕ → Pass C S E g → Pass C S E g → Type 0
  HasMadeAfter s k payload p p' =
      MadeBy g.object g.primitive s (row_of s) 1 k payload (pass_view p) (pass_view p')

  -- it wasn't: the cell of the number k was found in this state
  abbrev pub HasMissed : QueueStep → ℕ → CellState → Pass C S E g → Pass C S E g → Type 0
  HasMissed s k found p p' =
      MissedBy g.object g.primitive (row_of s) k (pass_view p) found (pass_view p')

  -- the same by one exchange, or by a second after one that found another payload
  abbrev pub HasMissedAfter : QueueStep → ℕ → CellState → Pass C S E g → Pass C S E g → Type 0
  HasMissedAfter s k found p p' =
      MissedAfterBy g.object g.primitive (row_of s) 1 k (pass_view p) found (pass_view p')

  -- the same of an exchange that wanted this payload there, with the one that was found
  abbrev pub HasMissedCell : QueueStep → ℕ → ℕ → CellWord → Pass C S E g → Pass C S E g → Type 0
  HasMissedCell s k payload cell p p' =
      MissedCellBy g.object g.primitive (row_of s) k payload (pass_view p) cell
      (pass_view p')

  -- the same by the word that was found
  abbrev pub HasMissedWord : QueueStep → ℕ → ℕ → ℕ → Pass C S E g → Pass C S E g → Type 0
  HasMissedWord s k payload word p p' =
      HasMissedCell s k payload (cell_found k (unpacked_cell word)) p p'

  -- How a canceller ended its leaving: by what was decided, and with the payload that a resume had
  -- left there or none.
  abbrev pub HasSettled : Bool → ℕ → Option ℕ → Pass C S E g → Pass C S E g → Type 0
  HasSettled true k None p p' = HasMade settles k 0 p p'
  HasSettled true k (Some payload) p p' = HasMadeAfter settles_owing k payload p p'
  HasSettled false k None p p' = HasMade refuses k 0 p p'
  HasSettled false k (Some payload) p p' = HasMadeAfter refuses_value k payload p p'
