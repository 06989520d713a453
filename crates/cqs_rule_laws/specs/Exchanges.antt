-- The exchanges on cells: where a pass may make one, and what it tells.
use Rattle.std.specs.Prelude.{◌≡◌, ◌≢◌, ◌⊎◌, ℕ, ◌<◌, ◌^◌, Bool, List, [], Option, Some, None, if◌then◌else◌}
use Rattle.atomic_table.specs.Table.{Me, Step}
use Rattle.cqs_core.specs.declared.cells.CoreState.{CoreState}
use Rattle.cqs_core.specs.declared.cells.CoreState.TheVariants as state
use Rattle.cqs_core.specs.QueueCells.{rank, IsBare}
use Rattle.cqs_core.specs.QueueStages as stage
use Rattle.cqs_core.specs.QueueStages.{Stage, doing_at, MayFind}
use Rattle.cqs_core.specs.QueueSteps.{QueueStep, row_of, CellRow, StepRow, at_counter, at_cell, payload_told}
use Rattle.cqs_words.specs.Cell.{index_in}
use Rattle.cqs_rule_laws.specs.declared.view.View.{View}
use Rattle.cqs_rule_laws.specs.declared.view.Facts.{Facts}
use Rattle.cqs_rule_laws.specs.declared.view.Glimpse.{Glimpse}
use Rattle.cqs_rule_laws.specs.Drawn.{TellsCome}
use Rattle.cqs_rule_laws.specs.Facts.{facts_worked, facts_missed}
use Rattle.cqs_rule_laws.specs.Hidden.{Hidden, state_at}
use Rattle.cqs_rule_laws.specs.Kinds.{Carries}
use Rattle.cqs_rule_laws.specs.Lists.{Has}
use Rattle.cqs_rule_laws.specs.Object.{Object, Primitive}
use Rattle.cqs_rule_laws.specs.Placed.{KnowsPlace, place_at}
use Rattle.cqs_rule_laws.specs.Ruled.{word_of}
use Rattle.cqs_rule_laws.specs.Saw.{Saw, IsLive, WasFound}

-- An idle pass works at the cell of a wait of its own, every other at that of the number which it
-- is at.
abbrev pub IsOwnWait : Stage → ℕ → Facts → Type 0
IsOwnWait stage.idle k facts = Has k facts.waits
IsOwnWait stage.door k facts = Unit {0}
IsOwnWait stage.owes k facts = Unit {0}
IsOwnWait stage.drawn k facts = Unit {0}
IsOwnWait stage.ticket k facts = Unit {0}
IsOwnWait stage.watching k facts = Unit {0}
IsOwnWait stage.leaving k facts = Unit {0}
IsOwnWait (stage.decided on) k facts = Unit {0}

-- A pass that watches may break the cell once it found its value there as often as it was to.
abbrev pub HasLooked : {E S : Type 0} → Stage → View E S → Type 0
HasLooked stage.watching v = v.facts.looked ≡ v.opening.looks
HasLooked stage.idle v = Unit {0}
HasLooked stage.door v = Unit {0}
HasLooked stage.owes v = Unit {0}
HasLooked stage.drawn v = Unit {0}
HasLooked stage.ticket v = Unit {0}
HasLooked stage.leaving v = Unit {0}
HasLooked (stage.decided on) v = Unit {0}

-- what an exchange leaves in the cell: what the pass brings, or what was there
abbrev pub payload_left : Bool → ℕ → ℕ → ℕ
payload_left brings owed found = if brings then owed else found

-- An exchange of this row that a pass may make on the cell of the number k: from the state that it
-- wants to the one that it makes.
pub record Exchanges {E S : Type 0} (row : CellRow) (v : View E S) (k word expected new : ℕ)
    : Type 0 where
  pub works : v.facts.doing ≡ doing_at row.works_at k
  pub own : IsOwnWait row.works_at k v.facts
  pub looked : HasLooked row.works_at v
  pub place : KnowsPlace v (place_at word k)
  pub payload : ℕ
  pub payload_fits : payload < 2 ^ 20
  pub bare : IsBare row.finds → payload ≡ 0
  pub expects : expected ≡ word_of k row.finds payload
  pub state : CoreState
  pub makes : row.makes ≡ Some state
  pub writes : new ≡ word_of k state (payload_left row.brings
      (payload_told row.gain payload v.facts.has.payload) payload)

abbrev pub MayExchange : {E S : Type 0} → StepRow → View E S → ℕ → ℕ → ℕ → ℕ → Type 0
MayExchange (at_counter row) v k word expected new = ⊥
MayExchange (at_cell row) v k word expected new = Exchanges row v k word expected new

-- the number of the cell is that of the word that the exchange expects
abbrev pub IsCrossing : {E S : Type 0} → QueueStep → View E S → ℕ → ℕ → ℕ → Type 0
IsCrossing s v word expected new = MayExchange (row_of s) v (index_in expected) word expected new

-- The word n was found where a pass knows the cell of the glimpse to stand. It is that of the cell.
-- Or the cell was cancelled and has left with its segment, and that of a later number stands there.
pub record FoundCell (n : ℕ) (g : Glimpse) : Type 0 where
  pub word : (n ≡ word_of g.number g.state g.payload)
      ⊎ ((g.state ≡ state.Cancelled) × (g.number < index_in n))
  pub number : g.number < 2 ^ 40
  pub fits : g.payload < 2 ^ 20
  pub bare : IsBare g.state → g.payload ≡ 0

-- The same for whoever only watches: a cell in any final state may have left.
pub record WatchedCell (n : ℕ) (g : Glimpse) : Type 0 where
  pub word : (n ≡ word_of g.number g.state g.payload)
      ⊎ ((rank g.state ≡ 4) × (g.number < index_in n))
  pub number : g.number < 2 ^ 40
  pub fits : g.payload < 2 ^ 20
  pub bare : IsBare g.state → g.payload ≡ 0

-- the cell is still as it was found, or has gone on
pub record IsFoundSince (now : Glimpse) (g : Glimpse) : Type 0 where
  pub since : now.number ≡ g.number → ((now.state ≡ g.state) × (now.payload ≡ g.payload))
      ⊎ (rank g.state < rank now.state)

abbrev pub SinceLast : Glimpse → Option Glimpse → Type 0
SinceLast now None = Unit {0}
SinceLast now (Some g) = IsFoundSince now g

-- the hidden queue has this in this cell
abbrev pub HasCell : Glimpse → Hidden → List ℕ → Type 0
HasCell g c words = (state_at c.queue g.number ≡ g.state) × (c.payloads g.number ≡ g.payload)

module _ {C E S : Type 0} (object : Object E) (primitive : C → Primitive E S) where
  -- an exchange of this row on the cell of the number k found the word n: it was made, or the cell
  -- was found otherwise
  pub record Crossed (s : QueueStep) (row : CellRow) (k expected : ℕ) (v : View E S) (n : ℕ)
      (w : View E S) : Type 0 where
    pub found : Glimpse
    pub number : found.number ≡ k
    pub cell : FoundCell n found
    pub may : MayFind v.opening.sync row.works_at found.state
    pub since : SinceLast found v.facts.last
    pub come : TellsCome v k found.state
    pub entries : List E
    pub was : WasFound primitive (HasCell found) entries w
    pub made : n ≡ expected
        → Saw object v (facts_worked object.gains row k n
        (payload_told row.gain found.payload v.facts.has.payload) v.facts) entries w
        × (entries ≡ object.entries s v.number k
        (payload_told row.gain found.payload v.facts.has.payload))
    pub missed : n ≢ expected → Saw object v (facts_missed n found v.facts) entries w
        × (entries ≡ [])

  abbrev pub CrossedBy : QueueStep → StepRow → ℕ → ℕ → View E S → ℕ → View E S → Type 0
  CrossedBy s (at_counter row) k expected v n w = ⊥
  CrossedBy s (at_cell row) k expected v n w = Crossed s row k expected v n w

  abbrev pub crossed : QueueStep → Step (Option S) → Me (Option S) (View E S) → ℕ
      → Me (Option S) (View E S) → Type 0
  crossed s st me n me' =
      CrossedBy s (row_of s) (index_in st.first) st.first me.0 n me'.0 × (me'.1 ≡ me.1)
      × IsLive object me'.0
      × (n ≡ st.first → Carries object.gains.held (row_of s) me.0.facts me'.0.facts)
