-- What becomes of an element that was put into a shared pool.
use Rattle.std.specs.Prelude.{ℕ, List}
use Rattle.cqs_plan.specs.declared.plans.kind.Kind.{Kind}
use Rattle.cqs_plan.specs.declared.plans.kind.Kind.TheVariants as kind
use Rattle.cqs_plan.specs.FloorHistory.{of_elements}
use Rattle.cqs_pool_object.specs.declared.entries.PoolEntry.{PoolEntry}
use Rattle.cqs_floor_shared.specs.declared.shared.SharedGive.{SharedGive}
use Rattle.cqs_floor_shared.specs.declared.shared.SharedGive.TheVariants as shared
use Rattle.cqs_floor_shared.specs.Entries.{EndsDelivered, IsUnserved}
use Rattle.cqs_floor_shared_kinds.specs.declared.kinds.pool.Arrived.{Arrived}
use Rattle.cqs_floor_shared_kinds.specs.declared.kinds.pool.Arrived.TheVariants.{Sent, Left}

abbrev pub IsPool : Kind → Type 0
IsPool (kind.Pool elements) = Unit {0}
IsPool (kind.Semaphore permits) = ⊥
IsPool kind.Mutex = ⊥
IsPool (kind.Latch count) = ⊥
IsPool (kind.Rounds parties rounds) = ⊥

-- where the element went, by all that the pass has seen
abbrev pub TellsArrived : ℕ → Arrived → List PoolEntry → Type 0
TellsArrived e (Sent k) seen = EndsDelivered (of_elements seen) k e
TellsArrived e (Left k) seen = IsUnserved (of_elements seen) k

-- the same as an answer of the floor
abbrev pub as_give : ℕ → Arrived → SharedGive
as_give e (Sent k) = shared.Sent e k
as_give e (Left k) = shared.Left e k
