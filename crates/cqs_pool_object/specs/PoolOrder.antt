-- The order in which the elements are on their way, as long as one caller alone has made calls.
-- They stand in the cells that the next takers will draw, and last comes the one that the caller
-- brings. So a taker has the first of them: at the start they are in order of their numbers, and
-- each that is put goes last.
use Rattle.std.specs.Prelude.{◌≡◌, ◌≢◌, ℕ, ◌+◌, ◌<◌, Bool, true, false, List, [], ◌∷◌, ◌++◌, Option, Some, None, slice_get, slice_index, if◌then◌else◌}
use Rattle.cqs_core.specs.declared.cells.CoreCell.{CoreCell}
use Rattle.cqs_core.specs.declared.cells.CoreState.TheVariants as state
use Rattle.cqs_core.specs.declared.doings.Doing.{Doing}
use Rattle.cqs_core.specs.declared.doings.Doing.TheVariants as doing
use Rattle.cqs_core.specs.Numbered.{pick_each, EachAt}
use Rattle.cqs_core.specs.Parts.{NamesOnly}
use Rattle.cqs_core.specs.QueueState.{Queue}
use Rattle.cqs_core.specs.QueueLine.{is_resuming, has_left}
use Rattle.cqs_core.specs.QueueSteps.{QueueStep, row_of, IsOpenStep}
use Rattle.cqs_pool_object.specs.declared.entries.PoolEntry.{PoolEntry}
use Rattle.cqs_pool_object.specs.PoolEntries.{object_after}
use Rattle.cqs_pool_object.specs.PoolNames.{entry_names}
use Rattle.cqs_pool_object.specs.PoolShown.{PoolShape, IsPool}
use Rattle.cqs_pool_object.specs.PoolSteps.{IsPoolStep, IsPayload, shape_after}
use Rattle.cqs_pool_object.specs.PoolLaws.{opening_shape}

-- the element is the first of those on their way
abbrev pub IsFirstOnWay : ℕ → List ℕ → Type 0
IsFirstOnWay e [] = ⊥
IsFirstOnWay e (x ∷ xs) = x ≡ e

-- all entries of the history are of this caller, or of nobody
abbrev pub IsByOne : ℕ → List PoolEntry → Type 0
IsByOne p history = NamesOnly entry_names p history

-- an element that was left in the cell of this number
abbrev pub left_in : Bool → ℕ → Option ℕ
left_in true e = Some e
left_in false e = None

abbrev pub element_in : (ℕ → ℕ) → ℕ → CoreCell → Option ℕ
element_in payloads k cell = left_in (has_left cell) (payloads k)

-- those that were left in cells, in order of the cells
abbrev pub elements_left : Queue → (ℕ → ℕ) → List ℕ
elements_left q payloads = pick_each (element_in payloads) 0 q.cells

-- and the one that a pass brings
abbrev pub brought : Option Doing → ℕ → List ℕ
brought (Some d) e = if is_resuming d then e ∷ [] else []
brought None e = []

-- The pass p alone has done anything, and the elements on their way are in order.
pub record InOrder (q : Queue) (loads : List ℕ) (payloads : ℕ → ℕ) (on_way : List ℕ)
    (p : ℕ) : Type 0 where
  pub others : EachAt (λ n d. n ≢ p → d ≡ doing.Idle) q.doing
  pub undelegated : EachAt (λ k cell. cell.state ≢ state.Delegated) q.cells
  pub last : (k : ℕ) → slice_get q.doing p ≡ Some (doing.Ticket k) → q.resumes ≡ k + 1
  pub way : on_way ≡ elements_left q payloads ++ brought (slice_get q.doing p) (slice_index loads p)

-- so it is wherever one caller alone has made calls
abbrev pub IsInOrder : PoolShape → Type 0
IsInOrder s =
    (p : ℕ) → IsByOne p s.history
    → InOrder s.queue s.loads s.payloads (object_after s.size s.history).way p

-- a pool opens so
abbrev pub EveryPoolOpensInOrder : Type 0
EveryPoolOpensInOrder =
    (size passes : ℕ) (payloads : ℕ → ℕ) → ((k : ℕ) → k < size → payloads k ≡ k)
    → IsInOrder (opening_shape size passes payloads)

-- and each of its steps keeps the order
abbrev pub EveryStepKeepsTheOrder : Type 0
EveryStepKeepsTheOrder =
    (s : PoolShape) (step : QueueStep) (p k : ℕ) (found : Option CoreCell) (e : ℕ) → IsPool s
    → IsInOrder s → IsPoolStep step → IsOpenStep s.queue step p k found
    → IsPayload (row_of step) s p k e → IsInOrder (shape_after s step p k found e)

-- A taker whose cell has an element has the first of those that were on their way.
abbrev pub EveryTakerHasTheFirst : Type 0
EveryTakerHasTheFirst =
    (s : PoolShape) (p k : ℕ) (cell : CoreCell) → IsPool s → IsInOrder s → IsByOne p s.history
    → slice_get s.queue.cells k ≡ Some cell → cell.state ≡ state.Value → k < s.queue.suspends
    → IsFirstOnWay (s.payloads k) (object_after s.size s.history).way
