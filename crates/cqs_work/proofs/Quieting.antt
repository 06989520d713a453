-- Where every worker has given back what it came to, no resource has anything left.
use Rattle.std.proofs.Common.{◌≡◌, ◌⊎◌, inl, inr, ℕ, zero, suc, ◌<◌, ◌≤◌, Bool, true, false, cond, List, [], ◌∷◌, Some, None, length, map, get_or, slice_get, sum_by, refl, ap, ◌∙◌, arith}
use Rattle.std.proofs.lemmas.Bool.{cases_lt}
use Rattle.std.proofs.lemmas.List.{get_or_past}
use Rattle.std.proofs.lemmas.List.Sums.{sum_by-cons}
use Rattle.cqs_core.specs.Parts.{part}
use Rattle.cqs_core.specs.SemaphoreNames.{entry_names as permit_names}
use Rattle.cqs_pool_object.specs.PoolNames.{entry_names as element_names}
use Rattle.cqs_plan.specs.declared.plans.kind.Kind.{Kind}
use Rattle.cqs_plan.specs.declared.plans.kind.Kind.TheVariants as kind
use Rattle.cqs_plan.specs.declared.plans.plan.Plan.{Plan}
use Rattle.cqs_plan.specs.Floor.{Holding, IsHoldable, holds_of, wait_of}
use Rattle.cqs_plan.specs.FloorHistory.{History, of_permits, of_elements, of_latch, of_rounds}
use Rattle.cqs_plan.specs.LegalFloor.{IsHistory}
use Rattle.cqs_floor_shared.specs.Calls.{IsAtRest}
use Rattle.cqs_floor_shared.specs.Entries.{own_history}
use Rattle.cqs_floor_shared.specs.Shared.{Shared, seen_at, kind_at}
use Rattle.cqs_work.specs.Accounts.{gains, losses, doors, enters, sum_in, waits_at, held_at, count_at, IsAccounted}
use Rattle.cqs_work.specs.Even.{IsEven, IsEvenAtPool, NamesBelow}
use Rattle.cqs_work.specs.Later.{IsUnnamed}
use Rattle.cqs_work.specs.Works.{AllClear}
use Rattle.cqs_work.specs.Worked.{IsQuietAt}
use Rattle.cqs_work.proofs.QuietSemaphores.{even-semaphores}
use Rattle.cqs_work.proofs.QuietPools.{even-pools}

map-none : {X Y : Type 0} (h : X → Y) (xs : List X) → map h xs ≡ [] → xs ≡ []
map-none h [] none = refl
map-none h (x ∷ xs) none = absurd (cc)

sum-none : {X : Type 0} (w : X → ℕ) (d : X) (xs : List X) → ((i : ℕ) → i < length xs → w (get_or xs i d) ≡ 0)
    → sum_by w xs ≡ 0
sum-none w d [] none = refl
sum-none w d (x ∷ xs) none =
    let here : w x ≡ 0 = none 0 (omega arith) in
    let later = sum-none w d xs (λ i below. none (suc i) (omega (arith, below))) in
    omega (arith, here, later, sum_by-cons w x xs)

module _ (plan : Plan) (g : Shared) (clear : AllClear plan g) where
  -- no job has anything left
  pub at-rest : IsAtRest g.board
  at-rest = record {
    waits = λ job. waits job (cases_lt job (length plan.jobs));
    holds = λ job. holds job (cases_lt job (length plan.jobs));
  }
    where
      waits : (job : ℕ) → (job < length plan.jobs) ⊎ (length plan.jobs ≤ job) → wait_of g.board job ≡ None
      waits job (inl below) = (clear.at job below).waits
      waits job (inr past) = get_or_past g.board.waits job None (omega (arith, past, clear.waits))

      holds : (job : ℕ) → (job < length plan.jobs) ⊎ (length plan.jobs ≤ job) → holds_of g.board job ≡ []
      holds job (inl below) =
          map-none (λ (h : Holding). h.at) (holds_of g.board job) (clear.at job below).holds
      holds job (inr past) = get_or_past g.board.holds job [] (omega (arith, past, clear.holds))

  count-none : (q : ℕ) → count_at g.board q ≡ 0
  count-none q =
      let held : sum_by (held_at q) g.board.holds ≡ 0
      = sum-none (held_at q) [] g.board.holds (λ i below. ap (held_at q) (at-rest.holds i)) in
      let waits : sum_by (waits_at q) g.board.waits ≡ 0
      = sum-none (waits_at q) None g.board.waits (λ i below. ap (waits_at q) (at-rest.waits i)) in
      omega (arith, held, waits)

-- what a caller has of a history is even
abbrev pub IsEvenOwn : History → Type 0
IsEvenOwn (of_permits h) = IsEven h
IsEvenOwn (of_elements h) = IsEvenAtPool h
IsEvenOwn (of_latch h) = Unit {0}
IsEvenOwn (of_rounds all) = Unit {0}

even-own : (n : ℕ) (h : History) → sum_in losses n h ≡ sum_in gains n h → sum_in enters n h ≡ sum_in doors n h
    → IsEvenOwn (own_history n h)
even-own n (of_permits h) given entered = record { given = given; entered = entered }
even-own n (of_elements h) given entered = record { given = given }
even-own n (of_latch h) given entered = tt
even-own n (of_rounds all) given entered = tt

-- a worker whose jobs have nothing left is even
pub even-then : (plan : Plan) (g : Shared) → IsAccounted g → AllClear plan g → (q : ℕ) → IsHoldable (kind_at g q)
    → IsEvenOwn (own_history g.number (seen_at g q))
even-then plan g acc clear q holdable =
    even-own g.number (seen_at g q) (omega (arith, acc.even q holdable, count-none plan g clear q)) (acc.entered q)

-- an entry that names a caller is in its part
part-some : {E : Type 0} (names : ℕ → E → Bool) (c : ℕ) (h : List E) (i : ℕ) (e : E) → slice_get h i ≡ Some e
    → names c e ≡ true → part names c h ≡ [] → ⊥
part-some {E} names c [] i e got named none = absurd (cc)
part-some {E} names c (x ∷ h) zero e got named none =
    let same : x ≡ e = cc in
    let here : names c x ≡ true = ap (names c) same ∙ named in
    go (names c x) here none
  where
    go : (b : Bool) → b ≡ true → cond {A = List E} b (x ∷ part names c h) (part names c h) ≡ [] → ⊥
    go true is empty = absurd (cc)
    go false is empty = absurd (cc)
part-some {E} names c (x ∷ h) (suc i) e got named none = go (names c x)
    (λ empty. part-some names c h i e got named empty) none
  where
    go : (b : Bool) → (part names c h ≡ [] → ⊥) → cond {A = List E} b (x ∷ part names c h) (part names c h) ≡ [] → ⊥
    go true later empty = absurd (cc)
    go false later empty = later empty

pub names-below : {E : Type 0} (names : ℕ → E → Bool) (callers : ℕ) (h : List E)
    → ((n : ℕ) → callers ≤ n → part names n h ≡ []) → NamesBelow names callers h
names-below {E} names callers h unnamed = record {
  at = λ i c e got named. go c e i got named (cases_lt c callers);
}
  where
    go : (c : ℕ) (e : E) (i : ℕ) → slice_get h i ≡ Some e → names c e ≡ true → (c < callers) ⊎ (callers ≤ c)
        → c < callers
    go c e i got named (inl below) = below
    go c e i got named (inr past) = absurd (part-some names c h i e got named (unnamed c past))

-- a legal history in which every caller is even, and no other is named, leaves its resource quiet
pub quiet-at : (k : Kind) (callers : ℕ) (h : History) → IsHistory k h
    → ((n : ℕ) → callers ≤ n → IsUnnamed n h)
    → (IsHoldable (Some k) → (c : ℕ) → c < callers → IsEvenOwn (own_history c h)) → IsQuietAt k h
quiet-at (kind.Semaphore permits) callers (of_permits h) legal unnamed even =
    even-semaphores permits callers h legal.legal (names-below permit_names callers h unnamed) (even tt)
quiet-at kind.Mutex callers (of_permits h) legal unnamed even =
    even-semaphores 1 callers h legal.legal (names-below permit_names callers h unnamed) (even tt)
quiet-at (kind.Pool elements) callers (of_elements h) legal unnamed even =
    even-pools elements callers h legal (names-below element_names callers h unnamed) (even tt)
quiet-at (kind.Latch count) callers h legal unnamed even = tt
quiet-at (kind.Rounds parties rounds) callers h legal unnamed even = tt
quiet-at (kind.Semaphore permits) callers (of_elements h) legal unnamed even = absurd legal
quiet-at (kind.Semaphore permits) callers (of_latch h) legal unnamed even = absurd legal
quiet-at (kind.Semaphore permits) callers (of_rounds all) legal unnamed even = absurd legal
quiet-at kind.Mutex callers (of_elements h) legal unnamed even = absurd legal
quiet-at kind.Mutex callers (of_latch h) legal unnamed even = absurd legal
quiet-at kind.Mutex callers (of_rounds all) legal unnamed even = absurd legal
quiet-at (kind.Pool elements) callers (of_permits h) legal unnamed even = absurd legal
quiet-at (kind.Pool elements) callers (of_latch h) legal unnamed even = absurd legal
quiet-at (kind.Pool elements) callers (of_rounds all) legal unnamed even = absurd legal
