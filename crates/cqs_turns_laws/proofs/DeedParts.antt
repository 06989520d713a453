-- A deed leaves the kind of a history and its rounds.
use Rattle.std.proofs.Common.{◌≡◌, ℕ, ◌<◌, Bool, true, false, List, ◌++◌, Option, Some, None, length, refl, ◌∙◌, arith}
use Rattle.std.proofs.lemmas.List.{length-set}
use Rattle.cqs_barrier_object.specs.declared.entries.BarrierEntry.{BarrierEntry}
use Rattle.cqs_plan.specs.declared.plans.kind.Kind.{Kind}
use Rattle.cqs_plan.specs.declared.plans.kind.Kind.TheVariants as kind
use Rattle.cqs_plan.specs.FloorHistory.{History, of_permits, of_elements, of_latch, of_rounds, Deed, barrier_entries, barrier_after, entries_in, with_deed_in}
use Rattle.cqs_plan.specs.Floor.{IsHoldable, IsLatch, HasRound}

-- the history is that of a pool
abbrev pub is_of_pool : History → Bool
is_of_pool (of_permits entries) = false
is_of_pool (of_elements entries) = true
is_of_pool (of_latch entries) = false
is_of_pool (of_rounds all) = false

pub pool-kept : (size : ℕ) (h : History) (round : ℕ) (deed : Deed)
    → is_of_pool (with_deed_in size h round deed) ≡ is_of_pool h
pool-kept size (of_permits entries) round deed = refl
pool-kept size (of_elements entries) round deed = refl
pool-kept size (of_latch entries) round deed = refl
pool-kept size (of_rounds all) round deed = refl

-- the history has this round: one of a barrier, or the only one
abbrev pub HasPart : History → ℕ → Type 0
HasPart (of_permits entries) round = round ≡ 0
HasPart (of_elements entries) round = round ≡ 0
HasPart (of_latch entries) round = round ≡ 0
HasPart (of_rounds all) round = round < length all

-- the entries of a round after a deed in it
abbrev pub round_now : ℕ → List (List BarrierEntry) → ℕ → Deed → List BarrierEntry
round_now size all round deed =
    entries_in all round ++ barrier_entries (barrier_after size (entries_in all round)).waiters.line deed

pub part-kept : (size : ℕ) (h : History) (round r : ℕ) (deed : Deed) → HasPart h r
    → HasPart (with_deed_in size h round deed) r
part-kept size (of_permits entries) round r deed part = part
part-kept size (of_elements entries) round r deed part = part
part-kept size (of_latch entries) round r deed part = part
part-kept size (of_rounds all) round r deed part =
    omega (arith, part, length-set all round (round_now size all round deed))

pub part-was : (size : ℕ) (h : History) (round r : ℕ) (deed : Deed) → HasPart (with_deed_in size h round deed) r
    → HasPart h r
part-was size (of_permits entries) round r deed part = part
part-was size (of_elements entries) round r deed part = part
part-was size (of_latch entries) round r deed part = part
part-was size (of_rounds all) round r deed part =
    omega (arith, part, length-set all round (round_now size all round deed))

-- the history is one of a resource of this kind, if there is one
abbrev pub IsOfKind : Option Kind → History → Type 0
IsOfKind None (of_permits entries) = Unit {0}
IsOfKind None (of_elements entries) = Unit {0}
IsOfKind None (of_latch entries) = Unit {0}
IsOfKind None (of_rounds all) = Unit {0}
IsOfKind (Some (kind.Semaphore permits)) (of_permits entries) = Unit {0}
IsOfKind (Some (kind.Semaphore permits)) (of_elements entries) = ⊥
IsOfKind (Some (kind.Semaphore permits)) (of_latch entries) = ⊥
IsOfKind (Some (kind.Semaphore permits)) (of_rounds all) = ⊥
IsOfKind (Some kind.Mutex) (of_permits entries) = Unit {0}
IsOfKind (Some kind.Mutex) (of_elements entries) = ⊥
IsOfKind (Some kind.Mutex) (of_latch entries) = ⊥
IsOfKind (Some kind.Mutex) (of_rounds all) = ⊥
IsOfKind (Some (kind.Pool elements)) (of_permits entries) = ⊥
IsOfKind (Some (kind.Pool elements)) (of_elements entries) = Unit {0}
IsOfKind (Some (kind.Pool elements)) (of_latch entries) = ⊥
IsOfKind (Some (kind.Pool elements)) (of_rounds all) = ⊥
IsOfKind (Some (kind.Latch count)) (of_permits entries) = ⊥
IsOfKind (Some (kind.Latch count)) (of_elements entries) = ⊥
IsOfKind (Some (kind.Latch count)) (of_latch entries) = Unit {0}
IsOfKind (Some (kind.Latch count)) (of_rounds all) = ⊥
IsOfKind (Some (kind.Rounds parties rounds)) (of_permits entries) = ⊥
IsOfKind (Some (kind.Rounds parties rounds)) (of_elements entries) = ⊥
IsOfKind (Some (kind.Rounds parties rounds)) (of_latch entries) = ⊥
IsOfKind (Some (kind.Rounds parties rounds)) (of_rounds all) = length all ≡ rounds

pub kind-kept : (k : Option Kind) (size : ℕ) (h : History) (round : ℕ) (deed : Deed) → IsOfKind k h
    → IsOfKind k (with_deed_in size h round deed)
kind-kept None size (of_permits entries) round deed is = tt
kind-kept None size (of_elements entries) round deed is = tt
kind-kept None size (of_latch entries) round deed is = tt
kind-kept None size (of_rounds all) round deed is = tt
kind-kept (Some (kind.Semaphore permits)) size (of_permits entries) round deed is = tt
kind-kept (Some (kind.Semaphore permits)) size (of_elements entries) round deed is = absurd is
kind-kept (Some (kind.Semaphore permits)) size (of_latch entries) round deed is = absurd is
kind-kept (Some (kind.Semaphore permits)) size (of_rounds all) round deed is = absurd is
kind-kept (Some kind.Mutex) size (of_permits entries) round deed is = tt
kind-kept (Some kind.Mutex) size (of_elements entries) round deed is = absurd is
kind-kept (Some kind.Mutex) size (of_latch entries) round deed is = absurd is
kind-kept (Some kind.Mutex) size (of_rounds all) round deed is = absurd is
kind-kept (Some (kind.Pool elements)) size (of_permits entries) round deed is = absurd is
kind-kept (Some (kind.Pool elements)) size (of_elements entries) round deed is = tt
kind-kept (Some (kind.Pool elements)) size (of_latch entries) round deed is = absurd is
kind-kept (Some (kind.Pool elements)) size (of_rounds all) round deed is = absurd is
kind-kept (Some (kind.Latch count)) size (of_permits entries) round deed is = absurd is
kind-kept (Some (kind.Latch count)) size (of_elements entries) round deed is = absurd is
kind-kept (Some (kind.Latch count)) size (of_latch entries) round deed is = tt
kind-kept (Some (kind.Latch count)) size (of_rounds all) round deed is = absurd is
kind-kept (Some (kind.Rounds parties rounds)) size (of_permits entries) round deed is = absurd is
kind-kept (Some (kind.Rounds parties rounds)) size (of_elements entries) round deed is = absurd is
kind-kept (Some (kind.Rounds parties rounds)) size (of_latch entries) round deed is = absurd is
kind-kept (Some (kind.Rounds parties rounds)) size (of_rounds all) round deed is =
    length-set all round (round_now size all round deed) ∙ is

-- what can be held, and a latch, have one round; a barrier has its rounds
pub held-part : (k : Option Kind) (h : History) → IsHoldable k → IsOfKind k h → HasPart h 0
held-part None h holdable is = absurd holdable
held-part (Some (kind.Semaphore permits)) (of_permits entries) holdable is = refl
held-part (Some (kind.Semaphore permits)) (of_elements entries) holdable is = absurd is
held-part (Some (kind.Semaphore permits)) (of_latch entries) holdable is = absurd is
held-part (Some (kind.Semaphore permits)) (of_rounds all) holdable is = absurd is
held-part (Some kind.Mutex) (of_permits entries) holdable is = refl
held-part (Some kind.Mutex) (of_elements entries) holdable is = absurd is
held-part (Some kind.Mutex) (of_latch entries) holdable is = absurd is
held-part (Some kind.Mutex) (of_rounds all) holdable is = absurd is
held-part (Some (kind.Pool elements)) (of_permits entries) holdable is = absurd is
held-part (Some (kind.Pool elements)) (of_elements entries) holdable is = refl
held-part (Some (kind.Pool elements)) (of_latch entries) holdable is = absurd is
held-part (Some (kind.Pool elements)) (of_rounds all) holdable is = absurd is
held-part (Some (kind.Latch count)) h holdable is = absurd holdable
held-part (Some (kind.Rounds parties rounds)) h holdable is = absurd holdable

pub latch-part : (k : Option Kind) (h : History) → IsLatch k → IsOfKind k h → HasPart h 0
latch-part None h latch is = absurd latch
latch-part (Some (kind.Semaphore permits)) h latch is = absurd latch
latch-part (Some kind.Mutex) h latch is = absurd latch
latch-part (Some (kind.Pool elements)) h latch is = absurd latch
latch-part (Some (kind.Latch count)) (of_permits entries) latch is = absurd is
latch-part (Some (kind.Latch count)) (of_elements entries) latch is = absurd is
latch-part (Some (kind.Latch count)) (of_latch entries) latch is = refl
latch-part (Some (kind.Latch count)) (of_rounds all) latch is = absurd is
latch-part (Some (kind.Rounds parties rounds)) h latch is = absurd latch

pub round-part : (k : Option Kind) (h : History) (round : ℕ) → HasRound k round → IsOfKind k h → HasPart h round
round-part None h round has is = absurd has
round-part (Some (kind.Semaphore permits)) h round has is = absurd has
round-part (Some kind.Mutex) h round has is = absurd has
round-part (Some (kind.Pool elements)) h round has is = absurd has
round-part (Some (kind.Latch count)) h round has is = absurd has
round-part (Some (kind.Rounds parties rounds)) (of_permits entries) round has is = absurd is
round-part (Some (kind.Rounds parties rounds)) (of_elements entries) round has is = absurd is
round-part (Some (kind.Rounds parties rounds)) (of_latch entries) round has is = absurd is
round-part (Some (kind.Rounds parties rounds)) (of_rounds all) round has is = omega (arith, has, is)
