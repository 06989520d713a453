-- The exchanges of a step on the cell that stands at a place: from which word to which; and, one by
-- one, what the step's row says of the states and payloads that they are made of.
use Rattle.std.specs.Prelude.{◌≡◌, ℕ, ◌<◌, ◌^◌, Bool, Option, Some}
use Rattle.std.specs.Option.{option_map}
use Rattle.cqs_core.specs.declared.cells.CoreState.{CoreState}
use Rattle.cqs_core.specs.QueueCells.{rank, IsBare}
use Rattle.cqs_core.specs.QueueStages.{doing_at, MayFind}
use Rattle.cqs_core.specs.QueueSteps.{QueueStep, row_of, CellRow, StepRow, at_counter, at_cell, payload_told}
use Rattle.cqs_words.specs.declared.cell.CellState.{CellState}
use Rattle.cqs_rule_laws.specs.declared.config.Place.{Place}
use Rattle.cqs_rule_laws.specs.declared.view.Facts.{Facts}
use Rattle.cqs_rule_laws.specs.declared.view.Glimpse.{Glimpse}
use Rattle.cqs_rule_laws.specs.declared.view.View.{View}
use Rattle.cqs_rule_laws.specs.Exchanges.{HasLooked, IsOwnWait, payload_left}
use Rattle.cqs_rule_laws.specs.Placed.{KnowsPlace}
use Rattle.cqs_rule_laws.specs.Ruled.{shown_state, word_of}

module _ {E S : Type 0} where
  -- The pass may make the exchange of this row at the place, from the word of a cell with this
  -- payload to the word of the one made.
  pub record CrossesRow (row : CellRow) (v : View E S) (at : Place) (payload expected new : ℕ)
      : Type 0 where
    pub works : v.facts.doing ≡ doing_at row.works_at at.index
    pub own : IsOwnWait row.works_at at.index v.facts
    pub looked : HasLooked row.works_at v
    pub place : KnowsPlace v at
    pub payload_fits : payload < 2 ^ 20
    pub bare : IsBare row.finds → payload ≡ 0
    pub expects : expected ≡ word_of at.index row.finds payload
    pub state : CoreState
    pub makes : row.makes ≡ Some state
    pub writes : new ≡ word_of at.index state
        (payload_left row.brings (payload_told row.gain payload v.facts.has.payload) payload)

  abbrev pub CrossesBy : StepRow → View E S → Place → ℕ → ℕ → ℕ → Type 0
  CrossesBy (at_counter row) v at payload expected new = ⊥
  CrossesBy (at_cell row) v at payload expected new = CrossesRow row v at payload expected new

  abbrev pub Crosses : QueueStep → View E S → Place → ℕ → ℕ → ℕ → Type 0
  Crosses s v at payload expected new = CrossesBy (row_of s) v at payload expected new

-- a pass at these facts is where the step is made at the cell k
abbrev pub WorksBy : StepRow → ℕ → Facts → Type 0
WorksBy (at_counter row) k f = ⊥
WorksBy (at_cell row) k f = f.doing ≡ doing_at row.works_at k

abbrev pub Works : QueueStep → ℕ → Facts → Type 0
Works s k f = WorksBy (row_of s) k f

-- the cell k is one at which it may be made
abbrev pub OwnsBy : StepRow → ℕ → Facts → Type 0
OwnsBy (at_counter row) k f = ⊥
OwnsBy (at_cell row) k f = IsOwnWait row.works_at k f

abbrev pub Owns : QueueStep → ℕ → Facts → Type 0
Owns s k f = OwnsBy (row_of s) k f

-- a value that the step takes back was found there as often as it was to be
abbrev pub LookedBy : {E S : Type 0} → StepRow → View E S → Type 0
LookedBy (at_counter row) v = ⊥
LookedBy (at_cell row) v = HasLooked row.works_at v

abbrev pub Looked : {E S : Type 0} → QueueStep → View E S → Type 0
Looked s v = LookedBy (row_of s) v

-- it is made from this state
abbrev pub FindsBy : StepRow → CellState → Type 0
FindsBy (at_counter row) found = ⊥
FindsBy (at_cell row) found = shown_state row.finds ≡ found

abbrev pub Finds : QueueStep → CellState → Type 0
Finds s found = FindsBy (row_of s) found

-- where that state has no payload, this is 0
abbrev pub FitsBy : StepRow → ℕ → Type 0
FitsBy (at_counter row) payload = ⊥
FitsBy (at_cell row) payload = IsBare row.finds → payload ≡ 0

abbrev pub Fits : QueueStep → ℕ → Type 0
Fits s payload = FitsBy (row_of s) payload

-- it makes this state
abbrev pub MakesBy : StepRow → CellState → Type 0
MakesBy (at_counter row) made = ⊥
MakesBy (at_cell row) made = option_map shown_state row.makes ≡ Some made

abbrev pub Makes : QueueStep → CellState → Type 0
Makes s made = MakesBy (row_of s) made

-- where it finds this payload, it leaves that one
abbrev pub LeavesBy : StepRow → Facts → ℕ → ℕ → Type 0
LeavesBy (at_counter row) f payload left = ⊥
LeavesBy (at_cell row) f payload left =
    left ≡ payload_left row.brings (payload_told row.gain payload f.has.payload) payload

abbrev pub Leaves : QueueStep → Facts → ℕ → ℕ → Type 0
Leaves s f payload left = LeavesBy (row_of s) f payload left

-- nobody else goes on from the state that the step finds, where the queue is synchronous or isn't
abbrev pub IsSureBy : Bool → StepRow → Type 0
IsSureBy sync (at_counter row) = ⊥
IsSureBy sync (at_cell row) =
    (x : CoreState) → MayFind sync row.works_at x → rank row.finds < rank x → ⊥

abbrev pub IsSure : Bool → QueueStep → Type 0
IsSure sync s = IsSureBy sync (row_of s)

-- the cell of the number was found so last, in the state that the step finds, with this payload
abbrev pub IsLastBy : StepRow → ℕ → ℕ → Option Glimpse → Type 0
IsLastBy (at_counter row) k payload last = ⊥
IsLastBy (at_cell row) k payload last = last
    ≡ Some (record { number = k; state = row.finds; payload = payload })

abbrev pub IsLast : QueueStep → ℕ → ℕ → Option Glimpse → Type 0
IsLast s k payload last = IsLastBy (row_of s) k payload last
