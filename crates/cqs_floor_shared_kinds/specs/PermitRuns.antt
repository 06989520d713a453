-- What becomes of a permit that a shared semaphore sent on.
use Rattle.std.specs.Prelude.{◌≡◌, List}
use Rattle.cqs_core.specs.declared.entries.Entry.{Entry}
use Rattle.cqs_plan.specs.declared.plans.kind.Kind.{Kind}
use Rattle.cqs_plan.specs.declared.plans.kind.Kind.TheVariants as kind
use Rattle.cqs_plan.specs.FloorHistory.{of_permits}
use Rattle.cqs_floor_shared.specs.declared.shared.SharedGive.{SharedGive}
use Rattle.cqs_floor_shared.specs.declared.shared.SharedGive.TheVariants as shared
use Rattle.cqs_floor_shared.specs.Entries.{EndsDelivered, IsUnserved, HasGone}

-- a semaphore or a mutex
abbrev pub IsOfPermits : Kind → Type 0
IsOfPermits (kind.Semaphore permits) = Unit {0}
IsOfPermits kind.Mutex = Unit {0}
IsOfPermits (kind.Pool elements) = ⊥
IsOfPermits (kind.Latch count) = ⊥
IsOfPermits (kind.Rounds parties rounds) = ⊥

-- where a permit that was sent to the line went, by all that the pass has seen
abbrev pub TellsSent : SharedGive → List Entry → Type 0
TellsSent (shared.Free e) seen = ⊥
TellsSent (shared.Sent e k) seen = (e ≡ 0) × EndsDelivered (of_permits seen) k 0
TellsSent (shared.Left e k) seen = (e ≡ 0) × IsUnserved (of_permits seen) k
TellsSent (shared.Void k) seen = HasGone (of_permits seen) k × IsUnserved (of_permits seen) k
