-- The law on broken cells: each fails one resume and one suspend, and the history of the core has
-- an entry for each of the two.
use Rattle.std.specs.Prelude.{◌≡◌, ℕ, Bool, true, false, List, Some, slice_get}
use Rattle.cqs_core.specs.declared.cells.CoreCell.{CoreCell}
use Rattle.cqs_core.specs.declared.cells.CoreState.TheVariants as state
use Rattle.cqs_core.specs.declared.entries.Entry.{Entry}
use Rattle.cqs_core.specs.Numbered.{EachAt}
use Rattle.cqs_core.specs.SemaphoreCores.{opening_of}
use Rattle.cqs_core.specs.SemaphoreLaws.{Breaks, FindsBroken}
use Rattle.cqs_core.specs.SemaphoreRuns.{Step, run}
use Rattle.cqs_core.specs.SemaphoreShown.{IsSize}
use Rattle.cqs_core.specs.SemaphoreTable.{Shape}

-- just one entry of the history is such
pub record HasOne (P : Entry → Type 0) (history : List Entry) : Type 0 where
  pub place : ℕ
  pub one : Entry
  pub there : slice_get history place ≡ Some one
  pub is : P one
  pub sole : (n : ℕ) (e : Entry) → slice_get history n ≡ Some e → P e → n ≡ place

-- A cell was broken once. Its suspend found it so once where the cell is collected, and hasn't
-- come to it where it isn't.
pub record WasBrokenOnce (history : List Entry) (k : ℕ) (cell : CoreCell) : Type 0 where
  pub broken : HasOne (Breaks k) history
  pub found : cell.collected ≡ true → HasOne (FindsBroken k) history
  pub unfound : cell.collected ≡ false → EachAt (λ n e. ¬ FindsBroken k e) history

-- so it is with each broken cell of each core on a run
abbrev pub EveryBrokenCellWasBrokenOnce : Type 0
EveryBrokenCellWasBrokenOnce =
    (sync : Bool) (permits passes : ℕ) → IsSize permits passes → (steps : List Step) (s : Shape)
    → run (opening_of sync permits passes) steps ≡ Some s
    → EachAt (λ k cell. cell.state ≡ state.Broken → WasBrokenOnce s.history k cell) s.queue.cells
