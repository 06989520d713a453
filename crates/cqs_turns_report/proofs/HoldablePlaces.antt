-- Which places can be held, and that what a job holds can be.
use Rattle.std.proofs.Common.{◌≡◌, ℕ, zero, suc, ◌+◌, List, [], ◌∷◌, ◌++◌, Bool, true, false, ◌==◌, Option, Some, None, slice_get, refl, sym, subst, eqb-true}
use Rattle.std.specs.Option.{option_map_or}
use Rattle.cqs_core.specs.Keyed.{without}
use Rattle.cqs_plan.specs.declared.plans.kind.Kind.{Kind}
use Rattle.cqs_plan.specs.declared.plans.kind.Kind.TheVariants.{Semaphore, Mutex, Pool, Latch, Rounds}
use Rattle.cqs_plan.specs.declared.plans.resource.Resource.{Resource}
use Rattle.cqs_plan.specs.Floor.{IsHoldable, IsLatch, HasRound}
use Rattle.cqs_plan.specs.Language.{can_hold}
use Rattle.cqs_plan.specs.Runnable.{kinds_of}
use Rattle.cqs_turns_report.specs.Ready.{is_held, AreHoldable, is_holdable_in, with_place}
use Rattle.cqs_turns_report.specs.Roles.{is_holdable_at}

-- which places can be held, by the tests
pub held-kind : (k : Option Kind) → IsHoldable k → option_map_or can_hold k false ≡ true
held-kind None holdable = absurd holdable
held-kind (Some (Semaphore permits)) holdable = refl
held-kind (Some Mutex) holdable = refl
held-kind (Some (Pool elements)) holdable = refl
held-kind (Some (Latch count)) holdable = absurd holdable
held-kind (Some (Rounds parties rounds)) holdable = absurd holdable

pub latch-kind : (k : Option Kind) → IsLatch k → option_map_or can_hold k false ≡ false
latch-kind None latch = absurd latch
latch-kind (Some (Semaphore permits)) latch = absurd latch
latch-kind (Some Mutex) latch = absurd latch
latch-kind (Some (Pool elements)) latch = absurd latch
latch-kind (Some (Latch count)) latch = refl
latch-kind (Some (Rounds parties rounds)) latch = absurd latch

pub round-kind : (k : Option Kind) (round : ℕ) → HasRound k round → option_map_or can_hold k false ≡ false
round-kind None round has = absurd has
round-kind (Some (Semaphore permits)) round has = absurd has
round-kind (Some Mutex) round has = absurd has
round-kind (Some (Pool elements)) round has = absurd has
round-kind (Some (Latch count)) round has = absurd has
round-kind (Some (Rounds parties rounds)) round has = refl

-- and by the plan's resources
pub holdable-same : (kinds : List Kind) (resources : List Resource) (at : ℕ) → kinds ≡ kinds_of resources
    → is_holdable_in kinds at ≡ is_holdable_at resources at
holdable-same kinds resources at same =
    let Goal : List Kind → Type 0 = λ ks. is_holdable_in ks at ≡ is_holdable_at resources at in
    subst Goal (sym same) (go resources at)
  where
    go : (resources : List Resource) (at : ℕ) → is_holdable_in (kinds_of resources) at ≡ is_holdable_at resources at
    go [] at = refl
    go (resource ∷ resources) zero = refl
    go (resource ∷ resources) (suc at) = go resources at

pub holdable-push : (kinds : List Kind) (places : List ℕ) (at : ℕ) → AreHoldable kinds places
    → IsHoldable (slice_get kinds at) → AreHoldable kinds (places ++ at ∷ [])
holdable-push kinds [] at all here = (here, tt)
holdable-push kinds (p ∷ places) at all here = (all.0, holdable-push kinds places at all.1 here)

holdable-front : (kinds : List Kind) (places more : List ℕ) → AreHoldable kinds (places ++ more)
    → AreHoldable kinds places
holdable-front kinds [] more all = tt
holdable-front kinds (p ∷ places) more all = (all.0, holdable-front kinds places more all.1)

pub holdable-less : (kinds : List Kind) (places : List ℕ) (at : ℕ) (b : Bool)
    → AreHoldable kinds (with_place b places at)
    → AreHoldable kinds places
holdable-less kinds places at true all = holdable-front kinds places (at ∷ []) all
holdable-less kinds places at false all = all

holdable-without_by : (kinds : List Kind) (at p : ℕ) (places : List ℕ) (b : Bool) → at == p ≡ b
    → AreHoldable kinds (p ∷ places) → AreHoldable kinds (without (λ place. place) at places)
    → AreHoldable kinds (without (λ place. place) at (p ∷ places))
holdable-without_by kinds at p places true same all later = rw same all.1
holdable-without_by kinds at p places false other all later = rw other (all.0, later)

pub holdable-without : (kinds : List Kind) (at : ℕ) (places : List ℕ) → AreHoldable kinds places
    → AreHoldable kinds (without (λ place. place) at places)
holdable-without kinds at [] all = tt
holdable-without kinds at (p ∷ places) all =
    holdable-without_by kinds at p places (at == p) refl all (holdable-without kinds at places all.1)

holdable-at_by : (kinds : List Kind) (at p : ℕ) (places : List ℕ) (b : Bool) → p == at ≡ b
    → is_held at (p ∷ places) ≡ true → AreHoldable kinds (p ∷ places)
    → (is_held at places ≡ true → IsHoldable (slice_get kinds at)) → IsHoldable (slice_get kinds at)
holdable-at_by kinds at p places true same held all later =
    let here : p ≡ at = eqb-true p at same in rw (← here) all.0
holdable-at_by kinds at p places false other held all later = later (rw other at held)

-- what is held can be held
pub holdable-at : (kinds : List Kind) (at : ℕ) (places : List ℕ) → is_held at places ≡ true → AreHoldable kinds places
    → IsHoldable (slice_get kinds at)
holdable-at kinds at [] held all = absurd (cc)
holdable-at kinds at (p ∷ places) held all =
    holdable-at_by kinds at p places (p == at) refl held all (λ further. holdable-at kinds at places further all.1)
