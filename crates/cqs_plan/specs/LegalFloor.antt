-- A floor is legal where what happened at each resource is a legal history of what the resource
-- is. A kind of resource that joins brings its object, and its word for a legal history of
-- that object, to `IsHistory`.
use Rattle.std.specs.Prelude.{◌≡◌, ◌≢◌, ℕ, false, List, All, Some, length, slice_get}
use Rattle.cqs_core.specs.declared.entries.Entry.{Entry}
use Rattle.cqs_core.specs.declared.entries.Entry.TheVariants as entry
use Rattle.cqs_core.specs.Numbered.{EachAt}
use Rattle.cqs_core.specs.SemaphoreEntries.{IsLegal}
use Rattle.cqs_pool_object.specs.PoolEntries.{IsLegal as IsLegalPool}
use Rattle.cqs_latch_object.specs.LatchEntries.{IsLegal as IsLegalLatch}
use Rattle.cqs_barrier_object.specs.declared.entries.BarrierEntry.{BarrierEntry}
use Rattle.cqs_barrier_object.specs.BarrierEntries.{IsLegal as IsLegalBarrier}
use Rattle.cqs_plan.specs.declared.plans.kind.Kind.{Kind}
use Rattle.cqs_plan.specs.declared.plans.kind.Kind.TheVariants as kind
use Rattle.cqs_plan.specs.declared.plans.plan.Plan.{Plan}
use Rattle.cqs_plan.specs.FloorHistory.{History, of_permits, of_elements, of_latch, of_rounds}
use Rattle.cqs_plan.specs.Floor.{PlainFloor, history_at}
use Rattle.cqs_plan.specs.Runnable.{kinds_of}

-- the entry breaks no number, and comes to none that is broken
abbrev pub BreaksNone : Entry → Type 0
BreaksNone e = (c k : ℕ) → (e ≢ entry.Spoil c k) × (e ≢ entry.Undo c k)

-- of a semaphore with so many permits that isn't synchronous
pub record IsOfSemaphore (permits : ℕ) (entries : List Entry) : Type 0 where
  pub legal : IsLegal permits entries
  pub unbroken : All BreaksNone entries

-- of a barrier with so many parties and rounds: each round has its own history
pub record AreRounds (parties rounds : ℕ) (all : List (List BarrierEntry)) : Type 0 where
  pub many : length all ≡ rounds
  pub each : EachAt (λ round entries. IsLegalBarrier parties entries) all

-- this is a legal history of a resource of this kind, from its size on; the latches of a plan are
-- smart
abbrev pub IsHistory : Kind → History → Type 0
IsHistory (kind.Semaphore permits) (of_permits entries) = IsOfSemaphore permits entries
IsHistory kind.Mutex (of_permits entries) = IsOfSemaphore 1 entries
IsHistory (kind.Pool elements) (of_elements entries) = IsLegalPool elements entries
IsHistory (kind.Latch count) (of_latch entries) = IsLegalLatch false count entries
IsHistory (kind.Rounds parties rounds) (of_rounds all) = AreRounds parties rounds all
IsHistory (kind.Semaphore permits) (of_elements entries) = ⊥
IsHistory (kind.Semaphore permits) (of_latch entries) = ⊥
IsHistory (kind.Semaphore permits) (of_rounds all) = ⊥
IsHistory kind.Mutex (of_elements entries) = ⊥
IsHistory kind.Mutex (of_latch entries) = ⊥
IsHistory kind.Mutex (of_rounds all) = ⊥
IsHistory (kind.Pool elements) (of_permits entries) = ⊥
IsHistory (kind.Pool elements) (of_latch entries) = ⊥
IsHistory (kind.Pool elements) (of_rounds all) = ⊥
IsHistory (kind.Latch count) (of_permits entries) = ⊥
IsHistory (kind.Latch count) (of_elements entries) = ⊥
IsHistory (kind.Latch count) (of_rounds all) = ⊥
IsHistory (kind.Rounds parties rounds) (of_permits entries) = ⊥
IsHistory (kind.Rounds parties rounds) (of_elements entries) = ⊥
IsHistory (kind.Rounds parties rounds) (of_latch entries) = ⊥

-- what happened at each resource is a legal history of it
pub record IsLegalFloor (f : PlainFloor) : Type 0 where
  pub at : (at : ℕ) (k : Kind) → slice_get f.kinds at ≡ Some k → IsHistory k (history_at f at)

-- the floor has the resources of the plan, and what happened at each is a legal history of it
pub record IsLegalFor (plan : Plan) (f : PlainFloor) : Type 0 where
  pub kinds : f.kinds ≡ kinds_of plan.resources
  pub legal : IsLegalFloor f
