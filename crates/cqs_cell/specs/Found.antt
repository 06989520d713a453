-- What the word that was found where a cell stood tells of it.
use Rattle.std.specs.Prelude.{◌≡◌, ℕ, ◌==◌, Option, Some, None, if◌then◌else◌}
use Rattle.cqs_words.specs.declared.cell.CellState.TheVariants as shown
use Rattle.cqs_words.specs.declared.cell.CellWord.{CellWord}
use Rattle.cqs_words.specs.Cell.{index_in}
use Rattle.cqs_rule_laws.specs.declared.view.Glimpse.{Glimpse}
use Rattle.cqs_rule_laws.specs.Ruled.{shown_state}

-- the cell of the number k, which has left
abbrev pub cell_gone : ℕ → CellWord
cell_gone k = record { index = k; state = shown.Cancelled; payload = 0 }

-- The cell of the number k by what the word found there unpacks to. Where that is no cell of its
-- number, the cell has left with its segment; and it leaves only after it was cancelled.
abbrev pub cell_found : ℕ → Option CellWord → CellWord
cell_found k None = cell_gone k
cell_found k (Some cell) = if cell.index == k then cell else cell_gone k

-- The cell of the glimpse is in this state. It has this payload, if the word n that was found is
-- its own.
pub record Shows (n : ℕ) (g : Glimpse) (cell : CellWord) : Type 0 where
  pub index : g.number ≡ cell.index
  pub state : shown_state g.state ≡ cell.state
  pub payload : index_in n ≡ g.number → g.payload ≡ cell.payload
