-- How a cell is written in one number.
use Rattle.std.specs.Prelude.{ℕ, ◌+◌, ◌*◌, ◌/◌, ◌%◌, ◌^◌, ◌<◌, List, [], ◌∷◌, ◌==◌, Option, Some, None, slice_get, nat_lt, if◌then◌else◌}
use Rattle.std.specs.Option.{option_map}
use Rattle.cqs_words.specs.declared.cell.CellState.{CellState}
use Rattle.cqs_words.specs.declared.cell.CellState.TheVariants.{Empty, Waiter, Value, Taken, Broken, Resumed, Cancelling, Delegated, Cancelled, Refused}
use Rattle.cqs_words.specs.declared.cell.CellWord.{CellWord}

-- the code of a state
abbrev pub state_code : CellState → ℕ
state_code Empty = 0
state_code Waiter = 1
state_code Value = 2
state_code Taken = 3
state_code Broken = 4
state_code Resumed = 5
state_code Cancelling = 6
state_code Delegated = 7
state_code Cancelled = 8
state_code Refused = 9

-- the states in the order of their codes
abbrev pub states : List CellState
states = Empty ∷ Waiter ∷ Value ∷ Taken ∷ Broken ∷ Resumed ∷ Cancelling ∷ Delegated ∷ Cancelled
    ∷ Refused ∷ []

-- the state with this code, if there is one
abbrev pub state_of : ℕ → Option CellState
state_of code = slice_get states code

-- the number of a cell: 40 bits of index, 4 bits of code, 20 bits of payload
abbrev pub cell_word : ℕ → ℕ → ℕ → ℕ
cell_word index code payload = index * 2 ^ 24 + code * 2 ^ 20 + payload

-- the parts of a cell fit their bits
pub record CellFits (w : CellWord) : Type 0 where
  pub index : w.index < 2 ^ 40
  pub payload : w.payload < 2 ^ 20

-- the number that stands for a cell
abbrev pub packed_cell : CellWord → ℕ
packed_cell w = cell_word w.index (state_code w.state) w.payload

-- the cell in this state whose other parts the number holds
abbrev pub cell_in : ℕ → CellState → CellWord
cell_in n state = record { index = n / 2 ^ 24; state = state; payload = n % 2 ^ 20 }

-- the index of the cell that a number stands for, if it stands for one
abbrev pub index_in : ℕ → ℕ
index_in n = n / 2 ^ 24

-- the cell that a number is the packing of, if there is one
abbrev pub unpacked_cell : ℕ → Option CellWord
unpacked_cell n =
    if nat_lt n (2 ^ 64) then option_map (cell_in n) (state_of (n / 2 ^ 20 % 2 ^ 4)) else None

-- the payload of a cell, where it is in this state
abbrev pub payload_in : CellState → Option CellWord → Option ℕ
payload_in state None = None
payload_in state (Some cell) =
    if state_code cell.state == state_code state then Some cell.payload else None
