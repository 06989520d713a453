-- Only elements of a pool have numbers of their own.
use Rattle.std.proofs.Common.{Some, refl}
use Rattle.cqs_plan.specs.declared.plans.kind.Kind.{Kind}
use Rattle.cqs_plan.specs.declared.plans.kind.Kind.TheVariants as kind
use Rattle.cqs_floor_shared.specs.Calls.{IsElement}

-- what has no number of its own
pub no-element : (k : Kind) → IsElement (Some k) 0
no-element (kind.Semaphore permits) = refl
no-element kind.Mutex = refl
no-element (kind.Pool elements) = tt
no-element (kind.Latch count) = refl
no-element (kind.Rounds parties rounds) = refl
