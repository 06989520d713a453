-- No cell of a pool's queue is refused, and no step of a pool makes one so.
-- This file is a proof, as `PoolIsClient` is: nothing of it has to be read to know what is
-- promised.
use Rattle.std.proofs.Common.{◌≡◌, ◌≢◌, ◌⊎◌, inl, inr, ℕ, ◌+◌, ◌-◌, ◌<◌, ◌≤◌, false, List, [], ◌∷◌, ◌++◌, ap, sym, ◌∙◌, subst, arith, Option, Some, None, slice_get, length, set}
use Rattle.std.proofs.lemmas.Bool.{cases_lt}
use Rattle.std.proofs.lemmas.List.{length_push}
use Rattle.cqs_core.specs.declared.cells.CoreCell.{CoreCell}
use Rattle.cqs_core.specs.declared.cells.CoreState.{CoreState}
use Rattle.cqs_core.specs.declared.cells.CoreState.TheVariants as state
use Rattle.cqs_core.specs.Numbered.{EachAt}
use Rattle.cqs_core.specs.QueueState.{Queue, fresh_cell}
use Rattle.cqs_core.specs.QueueSteps.{StepRow, at_counter, at_cell, CellRow, IsOpenRow, row_after, cell_after, state_made, Counter, to_suspend, to_resume, counter_of, after_count}
use Rattle.cqs_core.proofs.EachAtLemmas.{EachAt-write}
use Rattle.cqs_core.proofs.Places.{get-below, get-append_below, get-push_at}

-- the step refuses no cell
abbrev pub MakesNone : StepRow → Type 0
MakesNone (at_counter row) = Unit {0}
MakesNone (at_cell row) = row.makes ≢ Some state.Refused

-- no cell is refused
abbrev Unrefused : List CoreCell → Type 0
Unrefused cells = EachAt (λ k (cell : CoreCell). cell.state ≢ state.Refused) cells

unrefused-set : (cells : List CoreCell) (k : ℕ) (found new : CoreCell)
    → slice_get cells k ≡ Some found → new.state ≢ state.Refused
    → Unrefused cells → Unrefused (set cells k new)
unrefused-set cells k found new there not all =
    EachAt-write (λ j (c : CoreCell). c.state ≢ state.Refused)
    (λ j (c : CoreCell). c.state ≢ state.Refused) cells k found new there not
    (λ j x got other is. is) all

unrefused-push : (cells : List CoreCell) (new : CoreCell) → new.state ≢ state.Refused
    → Unrefused cells → Unrefused (cells ++ new ∷ [])
unrefused-push cells new not all = record { at = λ j x got. go j x got (cases_lt j (length cells)) }
  where
    go : (j : ℕ) (x : CoreCell) → slice_get (cells ++ new ∷ []) j ≡ Some x
        → (j < length cells) ⊎ (length cells ≤ j) → x.state ≢ state.Refused
    go j x got (inl below) = all.at j x (sym (get-append_below cells (new ∷ []) j below) ∙ got)
    go j x got (inr past) =
        let within : j < length (cells ++ new ∷ []) = get-below (cells ++ new ∷ []) j x got in
        let last : j ≡ length cells = omega (arith, length_push cells new) in
        let pushed : slice_get (cells ++ new ∷ []) j ≡ Some new = get-push_at cells new j last in
        let is : new ≡ x = cc in
        subst (λ (c : CoreCell). c.state ≢ state.Refused) is not

-- a step of a row makes a cell that is refused only where it names that, or finds it
unrefused-made : (makes : Option CoreState) (found : CoreState) → found ≢ state.Refused
    → makes ≢ Some state.Refused → state_made makes found ≢ state.Refused
unrefused-made (Some s) found not other = λ is. other (ap Some is)
unrefused-made None found not other = not

unrefused-cell : (row : CellRow) (q : Queue) (p k : ℕ) (found : Option CoreCell)
    → row.makes ≢ Some state.Refused → IsOpenRow q (at_cell row) p k found
    → Unrefused q.cells → Unrefused (row_after (at_cell row) q p k found).cells
unrefused-cell row q p k (Some found) other opens all =
    unrefused-set q.cells k found (cell_after row found) opens.0.finds
    (unrefused-made row.makes found.state (all.at k found opens.0.finds) other) all
unrefused-cell row q p k None other opens all = absurd opens

unrefused-counted : (counter : Counter) (q : Queue) (p k : ℕ) (found : Option CoreCell)
    → k ≡ counter_of counter q → slice_get q.cells k ≡ found
    → Unrefused q.cells → Unrefused (after_count counter q p k found).cells
unrefused-counted to_suspend q p k (Some found) is there all =
    unrefused-set q.cells k found
    (record { state = found.state; owner = Some p; collected = found.collected }) there
    (all.at k found there) all
unrefused-counted to_suspend q p k None is there all =
    unrefused-push q.cells (record { state = state.Empty; owner = Some p; collected = false })
    (λ e. empty-not e) all
  where
    empty-not : state.Empty ≡ state.Refused → ⊥
    empty-not e = absurd (cc)
unrefused-counted to_resume q p k (Some found) is there all = all
unrefused-counted to_resume q p k None is there all =
    unrefused-push q.cells fresh_cell (λ e. empty-not e) all
  where
    empty-not : state.Empty ≡ state.Refused → ⊥
    empty-not e = absurd (cc)

pub unrefused-row : (row : StepRow) (q : Queue) (p k : ℕ) (found : Option CoreCell)
    → MakesNone row → IsOpenRow q row p k found
    → Unrefused q.cells → Unrefused (row_after row q p k found).cells
unrefused-row (at_counter row) q p k found none opens all =
    unrefused-counted row.counter q p k found opens.1 opens.2 all
unrefused-row (at_cell row) q p k found none opens all =
    unrefused-cell row q p k found none opens all
