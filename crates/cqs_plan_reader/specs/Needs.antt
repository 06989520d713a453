-- What a verb needs a resource to be.
use Rattle.std.specs.Prelude.{Bool}
use Rattle.cqs_plan.specs.declared.plans.kind.Kind.{Kind}
use Rattle.cqs_plan_reader.specs.declared.reader.places.Need.{Need}
use Rattle.cqs_plan_reader.specs.declared.reader.places.Need.TheVariants.{Hold, Latch, Barrier}
use Rattle.cqs_plan.specs.Language.{can_hold, is_barrier, is_latch}

-- the kinds that are it
abbrev pub suits : Need → Kind → Bool
suits Hold = can_hold
suits Latch = is_latch
suits Barrier = is_barrier
