-- A core, synchronous or not, shows the fair semaphore with the numbers that were broken. With it,
-- all that holds of every core between any two events.
use Rattle.std.specs.Prelude.{◌≡◌, Bool, false, ℕ, ◌+◌, List, length, sum, Some, Result, Ok, Err}
use Rattle.cqs_core.specs.Numbered.{EachAt}
use Rattle.cqs_core.specs.QueueState.{Queue}
use Rattle.cqs_core.specs.QueueLine as queue
use Rattle.cqs_core.specs.QueueSound.{IsSound}
use Rattle.cqs_core.specs.QueueCover.{IsCovered}
use Rattle.cqs_core.specs.QueueAsUnbroken.{as_unbroken, IsUnbroken}
use Rattle.cqs_core.specs.SemaphoreObject.{Semaphore, early_of}
use Rattle.cqs_core.specs.SemaphoreEntries.{object_after, IsLegal}
use Rattle.cqs_core.specs.SemaphoreTable.{Shape}
use Rattle.cqs_core.specs.SemaphoreShown.{IsInRange, HasLoaded, free_of, short_of, opening_shape, IsSize}
use Rattle.cqs_core.specs.SemaphoreAnswers.{Room}
use Rattle.cqs_core.specs.declared.errors.CoreError.{CoreError}
use Rattle.cqs_core.specs.declared.errors.CoreError.TheVariants.{Memory, BadSize, NotEnabled}
use Rattle.cqs_core.specs.SemaphoreRuns.{Step, run}

-- the fair semaphore that a core shows
abbrev pub shown_by_either : Shape → Semaphore
shown_by_either s = record {
  free = free_of s.state;
  way = queue.way s.queue;
  door = queue.door s.queue;
  line = queue.line s.queue;
  next = s.queue.suspends;
  served = queue.services s.queue;
  held = sum s.held + queue.ready s.queue;
  spoiled = queue.spoiled s.queue;
}

-- how many broken numbers no suspend has drawn
abbrev pub early : Queue → ℕ
early q = early_of q.suspends (queue.spoiled q)

-- what holds of every core between any two events: its queue is sound and covered, with each broken
-- cell read as one whose value is still there or was taken
pub record IsEitherCore (s : Shape) : Type 0 where
  pub plain : s.sync ≡ false → IsUnbroken s.queue
  pub range : IsInRange s
  pub sound : IsSound (as_unbroken s.queue)
  pub covered : IsCovered (as_unbroken s.queue)
  pub loaded : EachAt HasLoaded s.queue.doing
  pub holders : length s.held ≡ length s.queue.doing
  pub legal : IsLegal s.permits s.history
  pub object : object_after s.permits s.history ≡ shown_by_either s
  -- the state word tells how many wait with no permit on its way
  pub short :
      queue.going s.queue + short_of s.state + early s.queue
      ≡ queue.due s.queue + queue.ending s.queue
  -- no permit is lost
  pub conserved :
      sum s.held + queue.ready s.queue + free_of s.state + queue.going s.queue
      ≡ s.permits + queue.ending s.queue

-- a core as it is made, synchronous or not
abbrev pub opening_of : Bool → ℕ → ℕ → Shape
opening_of sync permits passes = record (opening_shape permits passes) { sync = sync }

-- the law of the core, from `Core::new` and from `Core::new_sync`
abbrev pub EveryRunOfEitherIsLegal : Type 0
EveryRunOfEitherIsLegal =
    (sync : Bool) (permits passes : ℕ) → IsSize permits passes → (steps : List Step) (s : Shape)
    → run (opening_of sync permits passes) steps ≡ Some s → IsEitherCore s

-- A core is made where its numbers are in their ranges, and refused elsewhere; being out of memory
-- alone may refuse one of these numbers.
abbrev pub OpensEither : Bool → ℕ → ℕ → Result Room CoreError → Type 0
OpensEither sync permits passes (Ok core) =
    IsSize permits passes × (core.shape ≡ opening_of sync permits passes)
OpensEither sync permits passes (Err Memory) = IsSize permits passes
OpensEither sync permits passes (Err BadSize) = ¬ IsSize permits passes
OpensEither sync permits passes (Err NotEnabled) = ⊥
