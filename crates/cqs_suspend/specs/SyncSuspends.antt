-- What a suspend of a synchronous queue answers: exactly the state in which its cell was found, at
-- the last of its steps.
use Rattle.std.specs.Prelude.{◌≡◌, ℕ, Option, Some}
use Rattle.cqs_core.specs.declared.cells.CoreState.TheVariants as state
use Rattle.cqs_core.specs.QueueSteps.{installs, in_sync, takes_watched, finds_broken}
use Rattle.cqs_words.specs.declared.cell.CellState.TheVariants as shown
use Rattle.cqs_words.specs.declared.cell.CellWord.{CellWord}
use Rattle.cqs_rule_laws.specs.declared.client.ClientWords.{Ghosts}
use Rattle.cqs_rule_laws.specs.declared.view.Glimpse.{Glimpse}
use Rattle.cqs_rule_laws.specs.Causes.{cell_of}
use Rattle.cqs_rule_laws.specs.Loads.{finds}
use Rattle.cqs_rule.specs.declared.queue.Pass.{Pass}
use Rattle.cqs_rule.specs.Passes.{pass_view}
use Rattle.cqs_rule.specs.Waits.{place_of, HasWait}
use Rattle.cqs_cell.specs.Looks.{HasLookedAt}
use Rattle.cqs_suspend.specs.Suspends.{EndsBy}
use Rattle.cqs_suspend.specs.declared.sync_suspending.SyncSuspended.{SyncSuspended}
use Rattle.cqs_suspend.specs.declared.sync_suspending.SyncSuspended.TheVariants.{Waits, Took, Broke}

-- the cell of the number k was found broken last
abbrev pub IsBrokenLast : ℕ → Option Glimpse → Type 0
IsBrokenLast k last = (payload : ℕ) × (last ≡ Some (cell_of k state.Broken payload))

module _ {C S E : Type 0} {g : Ghosts C S E} where
  -- a load of it found it broken
  abbrev pub HasFoundBroken : ℕ → Pass C S E g → Pass C S E g → Type 0
  HasFoundBroken k p p' =
      (cell : CellWord) × HasLookedAt finds k cell p p' × (cell.state ≡ shown.Broken)

  -- An empty cell got its waiter, by the only exchange. Or the value was taken that the resume of
  -- the number left and watched: the first exchange found that the cell wasn't empty, and a second
  -- one may have found another payload than it wanted. Or the cell was found broken, with the
  -- payload that had stood in it, by a load after at most three exchanges that weren't made.
  abbrev pub SyncSuspends : Pass C S E g → SyncSuspended → Pass C S E g → Type 0
  SyncSuspends p (Waits wait) p' =
      EndsBy g.object g.primitive installs 0 (place_of wait).index 0 (pass_view p) (pass_view p')
      × HasWait (pass_view p') wait
  SyncSuspends p (Took payload k) p' =
      EndsBy g.object g.primitive (in_sync takes_watched) 2 k payload (pass_view p) (pass_view p')
  SyncSuspends p (Broke k) p' =
      (payload : ℕ)
      × EndsBy g.object g.primitive (in_sync finds_broken) 3 k payload (pass_view p) (pass_view p')
