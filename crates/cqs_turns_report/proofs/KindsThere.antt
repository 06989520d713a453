-- A resource that has a kind is there.
use Rattle.std.proofs.Common.{◌≡◌, ℕ, Option, Some, None, IsSome, refl}
use Rattle.cqs_plan.specs.declared.plans.kind.Kind.{Kind}
use Rattle.cqs_plan.specs.Floor.{HasRound, IsHoldable, IsLatch}

-- a resource is there: one that can be held, a latch, or a barrier
abbrev pub IsThere : Option Kind → Type 0
IsThere k = (there : Kind) × (k ≡ Some there)

pub holdable-there : (k : Option Kind) → IsHoldable k → IsThere k
holdable-there None holdable = absurd holdable
holdable-there (Some there) holdable = (there, refl)

pub latch-there : (k : Option Kind) → IsLatch k → IsThere k
latch-there None latch = absurd latch
latch-there (Some there) latch = (there, refl)

pub barrier-there : (k : Option Kind) (round : ℕ) → HasRound k round → IsThere k
barrier-there None round barrier = absurd barrier
barrier-there (Some there) round barrier = (there, refl)

pub some-there : (k : Option Kind) → IsSome k → IsThere k
some-there None some = absurd (cc)
some-there (Some there) some = (there, refl)
