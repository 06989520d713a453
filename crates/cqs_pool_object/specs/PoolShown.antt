-- What it means that a queue shows a pool. The queue tells which elements are on their way, and not
-- in which order: the object's list of them has each as often as the queue.
use Rattle.std.specs.Prelude.{◌≡◌, ℕ, ◌+◌, ◌==◌, ◌&&◌, Bool, true, not, List, length, slice_index, Option, Some, None, sum_by}
use Rattle.cqs_core.specs.declared.cells.CoreCell.{CoreCell}
use Rattle.cqs_core.specs.declared.cells.CoreState.{CoreState}
use Rattle.cqs_core.specs.declared.cells.CoreState.TheVariants as state
use Rattle.cqs_core.specs.declared.doings.Doing.{Doing}
use Rattle.cqs_core.specs.Numbered.{pick_each, count_at}
use Rattle.cqs_core.specs.QueueState.{Queue}
use Rattle.cqs_core.specs.QueueLine as queue
use Rattle.cqs_core.specs.QueueLine.{going, ending, is_resuming, has_left, has_ready}
use Rattle.cqs_core.specs.QueueSound.{IsSound}
use Rattle.cqs_pool_object.specs.declared.entries.PoolEntry.{PoolEntry}
use Rattle.cqs_pool_object.specs.PoolObject.{Given, Pool, times}
use Rattle.cqs_pool_object.specs.PoolEntries.{IsLegal, object_after}

-- what a pool's table stands for
pub record PoolShape : Type 0 where
  -- how many elements it opened with
  pub size : ℕ
  -- the element that each pass brings, where it resumes
  pub loads : List ℕ
  -- the element that was left in each cell
  pub payloads : ℕ → ℕ
  -- the elements that each pass has in hand
  pub holds : List (List ℕ)
  pub history : List PoolEntry
  pub queue : Queue

-- a resumption that brings this element
abbrev pub brings : ℕ → List ℕ → ℕ → Doing → Bool
brings e loads p d = is_resuming d && (slice_index loads p == e)

-- a cell in which it was left
abbrev pub has_it : ℕ → (ℕ → ℕ) → ℕ → CoreCell → Bool
has_it e payloads k cell = has_left cell && (payloads k == e)

-- it was delivered at the cell, and its taker hasn't looked
abbrev pub has_given : ℕ → (ℕ → ℕ) → ℕ → CoreCell → Bool
has_given e payloads k cell = has_ready cell && (payloads k == e)

-- how often an element is on its way: with passes that resume, and in cells
abbrev pub way_times : ℕ → Queue → List ℕ → (ℕ → ℕ) → ℕ
way_times e q loads payloads =
    count_at (brings e loads) 0 q.doing + count_at (has_it e payloads) 0 q.cells

-- how often it is held: by passes, and in cells whose takers haven't looked
abbrev pub held_times : ℕ → Queue → (ℕ → ℕ) → List (List ℕ) → ℕ
held_times e q payloads holds =
    sum_by (times e) holds + count_at (has_given e payloads) 0 q.cells

-- what was given at a cell of this state, owner and element
abbrev pub given_of : ℕ → CoreState → Option ℕ → Bool → ℕ → Option Given
given_of k state.Taken (Some p) collected e =
    Some (record { wait = k; pass = p; element = e; is_open = true })
given_of k state.Resumed (Some p) collected e =
    Some (record { wait = k; pass = p; element = e; is_open = not collected })
given_of k state.Taken None collected e = None
given_of k state.Resumed None collected e = None
given_of k state.Empty owner collected e = None
given_of k state.Waiter owner collected e = None
given_of k state.Value owner collected e = None
given_of k state.Broken owner collected e = None
given_of k state.Cancelling owner collected e = None
given_of k state.Delegated owner collected e = None
given_of k state.Cancelled owner collected e = None
given_of k state.Refused owner collected e = None

abbrev pub is_given : (ℕ → ℕ) → ℕ → CoreCell → Option Given
is_given payloads k cell = given_of k cell.state cell.owner cell.collected (payloads k)

-- the waits that were served, in order of number
abbrev pub services : Queue → (ℕ → ℕ) → List Given
services q payloads = pick_each (is_given payloads) 0 q.cells

-- the queue and what the passes have show this plain pool
pub record Shows (q : Queue) (loads : List ℕ) (payloads : ℕ → ℕ) (holds : List (List ℕ)) (o : Pool)
    : Type 0 where
  pub line : o.line ≡ queue.line q
  pub next : o.next ≡ q.suspends
  pub served : o.served ≡ services q payloads
  pub many : length o.way ≡ going q
  pub way : (e : ℕ) → times e o.way ≡ way_times e q loads payloads
  pub held : (e : ℕ) → times e o.held ≡ held_times e q payloads holds

pub record IsPool (s : PoolShape) : Type 0 where
  pub sound : IsSound s.queue
  pub legal : IsLegal s.size s.history
  pub shows : Shows s.queue s.loads s.payloads s.holds (object_after s.size s.history)
  -- each pass has its element to bring, and those in hand
  pub loaders : length s.loads ≡ length s.queue.doing
  pub holders : length s.holds ≡ length s.queue.doing
  -- no resumption will end at a refused cell: a cancellation is never refused
  pub none_refused : ending s.queue ≡ 0
