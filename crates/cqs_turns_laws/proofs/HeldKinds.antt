-- Which resources can be held, by their histories.
use Rattle.std.proofs.Common.{◌≡◌, ℕ, Bool, true, false, Option, Some, None, refl}
use Rattle.cqs_plan.specs.declared.plans.kind.Kind.{Kind}
use Rattle.cqs_plan.specs.declared.plans.kind.Kind.TheVariants as kind
use Rattle.cqs_plan.specs.FloorHistory.{History, of_permits, of_elements, of_latch, of_rounds}
use Rattle.cqs_plan.specs.Floor.{IsHoldable, IsLatch, HasRound}
use Rattle.cqs_plan.specs.Language.{can_hold}
use Rattle.cqs_turns_laws.proofs.DeedParts.{HasPart, IsOfKind}

-- the history is of permits or of elements
abbrev pub IsHeld : History → Type 0
IsHeld (of_permits entries) = Unit {0}
IsHeld (of_elements entries) = Unit {0}
IsHeld (of_latch entries) = ⊥
IsHeld (of_rounds all) = ⊥

-- or of a latch or a barrier, of which nothing is held
abbrev pub IsUnheld : History → Type 0
IsUnheld (of_permits entries) = ⊥
IsUnheld (of_elements entries) = ⊥
IsUnheld (of_latch entries) = Unit {0}
IsUnheld (of_rounds all) = Unit {0}

-- what can be held has one round
pub first-part : (h : History) → IsHeld h → HasPart h 0
first-part (of_permits entries) held = refl
first-part (of_elements entries) held = refl
first-part (of_latch entries) held = absurd held
first-part (of_rounds all) held = absurd held

pub only-part : (h : History) (r : ℕ) → IsHeld h → HasPart h r → r ≡ 0
only-part (of_permits entries) r held own = own
only-part (of_elements entries) r held own = own
only-part (of_latch entries) r held own = absurd held
only-part (of_rounds all) r held own = absurd held

-- by the kinds
pub held-history : (k : Option Kind) (h : History) → IsHoldable k → IsOfKind k h → IsHeld h
held-history None h holdable is = absurd holdable
held-history (Some (kind.Semaphore permits)) (of_permits entries) holdable is = tt
held-history (Some (kind.Semaphore permits)) (of_elements entries) holdable is = absurd is
held-history (Some (kind.Semaphore permits)) (of_latch entries) holdable is = absurd is
held-history (Some (kind.Semaphore permits)) (of_rounds all) holdable is = absurd is
held-history (Some kind.Mutex) (of_permits entries) holdable is = tt
held-history (Some kind.Mutex) (of_elements entries) holdable is = absurd is
held-history (Some kind.Mutex) (of_latch entries) holdable is = absurd is
held-history (Some kind.Mutex) (of_rounds all) holdable is = absurd is
held-history (Some (kind.Pool elements)) (of_permits entries) holdable is = absurd is
held-history (Some (kind.Pool elements)) (of_elements entries) holdable is = tt
held-history (Some (kind.Pool elements)) (of_latch entries) holdable is = absurd is
held-history (Some (kind.Pool elements)) (of_rounds all) holdable is = absurd is
held-history (Some (kind.Latch count)) h holdable is = absurd holdable
held-history (Some (kind.Rounds parties rounds)) h holdable is = absurd holdable

pub latch-history : (k : Option Kind) (h : History) → IsLatch k → IsOfKind k h → IsUnheld h
latch-history None h latch is = absurd latch
latch-history (Some (kind.Semaphore permits)) h latch is = absurd latch
latch-history (Some kind.Mutex) h latch is = absurd latch
latch-history (Some (kind.Pool elements)) h latch is = absurd latch
latch-history (Some (kind.Latch count)) (of_permits entries) latch is = absurd is
latch-history (Some (kind.Latch count)) (of_elements entries) latch is = absurd is
latch-history (Some (kind.Latch count)) (of_latch entries) latch is = tt
latch-history (Some (kind.Latch count)) (of_rounds all) latch is = absurd is
latch-history (Some (kind.Rounds parties rounds)) h latch is = absurd latch

pub round-history : (k : Option Kind) (h : History) (round : ℕ) → HasRound k round → IsOfKind k h → IsUnheld h
round-history None h round has is = absurd has
round-history (Some (kind.Semaphore permits)) h round has is = absurd has
round-history (Some kind.Mutex) h round has is = absurd has
round-history (Some (kind.Pool elements)) h round has is = absurd has
round-history (Some (kind.Latch count)) h round has is = absurd has
round-history (Some (kind.Rounds parties rounds)) (of_permits entries) round has is = absurd is
round-history (Some (kind.Rounds parties rounds)) (of_elements entries) round has is = absurd is
round-history (Some (kind.Rounds parties rounds)) (of_latch entries) round has is = absurd is
round-history (Some (kind.Rounds parties rounds)) (of_rounds all) round has is = tt

-- whether something of it can be held, a history and its kind say alike
abbrev pub IsSorted : Bool → History → Type 0
IsSorted true h = IsHeld h
IsSorted false h = IsUnheld h

pub sorted-by : (k : Kind) (h : History) → IsOfKind (Some k) h → IsSorted (can_hold k) h
sorted-by (kind.Semaphore permits) (of_permits entries) is = tt
sorted-by (kind.Semaphore permits) (of_elements entries) is = absurd is
sorted-by (kind.Semaphore permits) (of_latch entries) is = absurd is
sorted-by (kind.Semaphore permits) (of_rounds all) is = absurd is
sorted-by kind.Mutex (of_permits entries) is = tt
sorted-by kind.Mutex (of_elements entries) is = absurd is
sorted-by kind.Mutex (of_latch entries) is = absurd is
sorted-by kind.Mutex (of_rounds all) is = absurd is
sorted-by (kind.Pool elements) (of_permits entries) is = absurd is
sorted-by (kind.Pool elements) (of_elements entries) is = tt
sorted-by (kind.Pool elements) (of_latch entries) is = absurd is
sorted-by (kind.Pool elements) (of_rounds all) is = absurd is
sorted-by (kind.Latch count) (of_permits entries) is = absurd is
sorted-by (kind.Latch count) (of_elements entries) is = absurd is
sorted-by (kind.Latch count) (of_latch entries) is = tt
sorted-by (kind.Latch count) (of_rounds all) is = absurd is
sorted-by (kind.Rounds parties rounds) (of_permits entries) is = absurd is
sorted-by (kind.Rounds parties rounds) (of_elements entries) is = absurd is
sorted-by (kind.Rounds parties rounds) (of_latch entries) is = absurd is
sorted-by (kind.Rounds parties rounds) (of_rounds all) is = tt
