-- The laws of the pool: of every legal history, and of every queue that shows a pool.
use Rattle.std.specs.Prelude.{◌≡◌, ◌≢◌, ◌⊎◌, ℕ, ◌+◌, ◌<◌, ◌≤◌, List, [], ◌++◌, length, replicate, slice_get, slice_set, Option, Some}
use Rattle.cqs_core.specs.declared.cells.CoreCell.{CoreCell}
use Rattle.cqs_core.specs.declared.doings.Doing.TheVariants as doing
use Rattle.cqs_core.specs.Numbered.{IsIn}
use Rattle.cqs_core.specs.QueueLine.{door}
use Rattle.cqs_core.specs.QueueOpening.{opened_queue}
use Rattle.cqs_core.specs.QueueSteps.{QueueStep, row_of, IsOpenStep}
use Rattle.cqs_pool_object.specs.declared.entries.PoolEntry.{PoolEntry}
use Rattle.cqs_pool_object.specs.PoolObject.{Pool, times}
use Rattle.cqs_pool_object.specs.PoolEntries.{IsLegal, object_after}
use Rattle.cqs_pool_object.specs.PoolShown.{PoolShape, IsPool}
use Rattle.cqs_pool_object.specs.PoolSteps.{IsPoolStep, IsPayload, hold_of, shape_after}

-- each element is on its way or held, once in all, and no other number is; so no element is lost,
-- and none is with two callers
pub record IsConserved (size : ℕ) (o : Pool) : Type 0 where
  pub each : (e : ℕ) → e < size → times e o.way + times e o.held ≡ 1
  pub others : (e : ℕ) → size ≤ e → times e o.way + times e o.held ≡ 0
  pub all : length o.way + length o.held ≡ size

abbrev pub EveryElementIsInOnePlace : Type 0
EveryElementIsInOnePlace =
    (size : ℕ) (history : List PoolEntry) → IsLegal size history
    → IsConserved size (object_after size history)

-- what a table stands for as it opens: the cells below the size have their own numbers
abbrev pub opening_shape : ℕ → ℕ → (ℕ → ℕ) → PoolShape
opening_shape size passes payloads = record {
  size = size;
  loads = replicate passes 0;
  payloads = payloads;
  holds = replicate passes [];
  history = [];
  queue = opened_queue size passes;
}

abbrev pub EveryPoolOpens : Type 0
EveryPoolOpens =
    (size passes : ℕ) (payloads : ℕ → ℕ) → ((k : ℕ) → k < size → payloads k ≡ k)
    → IsPool (opening_shape size passes payloads)

abbrev pub EveryStepKeepsThePool : Type 0
EveryStepKeepsThePool =
    (s : PoolShape) (step : QueueStep) (p k : ℕ) (found : Option CoreCell) (e : ℕ) → IsPool s
    → IsPoolStep step → IsOpenStep s.queue step p k found → IsPayload (row_of step) s p k e
    → IsPool (shape_after s step p k found e)

-- all that one pass has in hand becomes another's
abbrev pub handed_over : List (List ℕ) → ℕ → ℕ → List (List ℕ)
handed_over holds from to =
    slice_set (slice_set holds from []) to (hold_of holds to ++ hold_of holds from)

abbrev pub HandOversKeepThePool : Type 0
HandOversKeepThePool =
    (s : PoolShape) (from to : ℕ) → IsPool s → from ≢ to
    → slice_get s.queue.doing from ≡ Some doing.Idle
    → slice_get s.queue.doing to ≡ Some doing.Idle
    → IsPool (record s { holds = handed_over s.holds from to })

-- the pass owes a resumption, or is idle and has this element to put
abbrev pub MayReach : PoolShape → ℕ → ℕ → Type 0
MayReach s p e =
    (slice_get s.queue.doing p ≡ Some doing.Owes)
    ⊎ ((slice_get s.queue.doing p ≡ Some doing.Idle) × IsIn e (hold_of s.holds p))

abbrev pub NumbersAreLeft : Type 0
NumbersAreLeft =
    (s : PoolShape) (p e : ℕ) → IsPool s → MayReach s p e
    → s.queue.resumes < s.queue.suspends + length (door s.queue) + s.size
