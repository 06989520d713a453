-- Counting the steps of a job that may wait, resource by resource.
use Rattle.std.proofs.Common.{◌≡◌, ◌≢◌, ◌⊎◌, inl, inr, ℕ, ◌+◌, ◌<◌, ◌==◌, Bool, false, List, length, take, set, get_or, count_by, ap, sym, ◌∙◌, arith, refl, eq-eqb, ne_eqb}
use Rattle.std.proofs.lemmas.Bool.{cases_eq}
use Rattle.std.proofs.lemmas.List.{take_more, get_or-set_same, get_or-set_other}
use Rattle.std.proofs.lemmas.List.Sums.{sum_by_push}
use Rattle.cqs_core.proofs.Counts.{bit}
use Rattle.cqs_plan.specs.declared.plans.step.Step.{Step}
use Rattle.cqs_plan.specs.declared.plans.step.Step.TheVariants as step
use Rattle.cqs_plan.specs.PlanSteps.{may_wait}

pub bit-same : (n : ℕ) → bit (n == n) ≡ 1
bit-same n = ap bit (eq-eqb n n refl)

pub bit-other : (n m : ℕ) → n ≢ m → bit (n == m) ≡ 0
bit-other n m other = ap bit (ne_eqb n m other)

-- a step that may wait at a resource, and one that doesn't wait
abbrev pub WaitsAt : Step → ℕ → Type 0
WaitsAt s at = (s ≡ step.Take at) ⊎ ((s ≡ step.Await at) ⊎ (s ≡ step.Arrive at))

abbrev pub GoesOn : Step → Type 0
GoesOn s =
    ((at : ℕ) × (s ≡ step.Give at)) ⊎ (((at : ℕ) × (s ≡ step.Down at)) ⊎ ((turns : ℕ) × (s ≡ step.Work turns)))

waits-at : (s : Step) (at : ℕ) → WaitsAt s at → (a : ℕ) → may_wait a s ≡ (at == a)
waits-at s at (inl is) a = ap (may_wait a) is
waits-at s at (inr (inl is)) a = ap (may_wait a) is
waits-at s at (inr (inr is)) a = ap (may_wait a) is

waits-nowhere : (s : Step) → GoesOn s → (a : ℕ) → may_wait a s ≡ false
waits-nowhere s (inl (at, is)) a = ap (may_wait a) is
waits-nowhere s (inr (inl (at, is))) a = ap (may_wait a) is
waits-nowhere s (inr (inr (turns, is))) a = ap (may_wait a) is

-- one more element is counted
pub count-more : {X : Type 0} (p : X → Bool) (xs : List X) (i : ℕ) (d : X) → i < length xs
    → count_by p (take (i + 1) xs) ≡ count_by p (take i xs) + bit (p (get_or xs i d))
count-more p xs i d below =
    ap (count_by p) (take_more xs i d below) ∙ sum_by_push (λ x. bit (p x)) (take i xs) (get_or xs i d)

-- so many are counted, of each resource, after the first steps
abbrev pub Counted : List ℕ → List ℕ → List Step → Type 0
Counted first now steps = (at : ℕ) → get_or now at 0 ≡ get_or first at 0 + count_by (may_wait at) steps

-- a step that may wait is counted at its resource
pub counted-step : (first now : List ℕ) (steps : List Step) (i at : ℕ) → i < length steps
    → at < length now → WaitsAt (get_or steps i (step.Take 0)) at
    → Counted first now (take i steps) → Counted first (set now at (get_or now at 0 + 1)) (take (i + 1) steps)
counted-step first now steps i at below place waits counted a = go (cases_eq a at)
  where
    more : count_by (may_wait a) (take (i + 1) steps) ≡ count_by (may_wait a) (take i steps) + bit (at == a)
    more = count-more (may_wait a) steps i (step.Take 0) below
        ∙ ap (λ b. count_by (may_wait a) (take i steps) + bit b)
        (waits-at (get_or steps i (step.Take 0)) at waits a)

    go : (a ≡ at) ⊎ (a ≢ at)
        → get_or (set now at (get_or now at 0 + 1)) a 0
        ≡ get_or first a 0 + count_by (may_wait a) (take (i + 1) steps)
    go (inl same) =
        let one : bit (at == a) ≡ 1 = ap (λ n. bit (at == n)) same ∙ bit-same at in
        let written : get_or (set now at (get_or now at 0 + 1)) a 0 ≡ get_or now a 0 + 1 =
        ap (λ n. get_or (set now at (get_or now at 0 + 1)) n 0) same
        ∙ get_or-set_same now at (get_or now at 0 + 1) 0 place ∙ ap (λ n. get_or now n 0 + 1) (sym same) in
        omega (arith, written, counted a, more, one)
    go (inr other) =
        let none : bit (at == a) ≡ 0 = bit-other at a (λ e. other (sym e)) in
        omega (arith, get_or-set_other now at a (get_or now at 0 + 1) 0 other, counted a, more, none)

-- another step counts nothing
pub counted-else : (first now : List ℕ) (steps : List Step) (i : ℕ) → i < length steps
    → GoesOn (get_or steps i (step.Take 0)) → Counted first now (take i steps)
    → Counted first now (take (i + 1) steps)
counted-else first now steps i below other counted a =
    let none : bit (may_wait a (get_or steps i (step.Take 0))) ≡ 0 =
    ap bit (waits-nowhere (get_or steps i (step.Take 0)) other a) in
    omega (arith, counted a, count-more (may_wait a) steps i (step.Take 0) below, none)
