-- The kinds of a plan that are pools.
use Rattle.std.specs.Prelude.{Option, Some, None}
use Rattle.cqs_plan.specs.declared.plans.kind.Kind.{Kind}
use Rattle.cqs_plan.specs.declared.plans.kind.Kind.TheVariants as kind

abbrev pub IsPool : Option Kind → Type 0
IsPool (Some (kind.Pool elements)) = Unit {0}
IsPool (Some (kind.Semaphore permits)) = ⊥
IsPool (Some kind.Mutex) = ⊥
IsPool (Some (kind.Latch count)) = ⊥
IsPool (Some (kind.Rounds parties rounds)) = ⊥
IsPool None = ⊥
