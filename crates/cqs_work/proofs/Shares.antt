-- What a history adds up to is what the parts of its callers add up to.
use Rattle.std.proofs.Common.{◌≡◌, ◌≢◌, ◌⊎◌, inl, inr, ℕ, zero, suc, ◌+◌, ◌<◌, ◌==◌, Bool, true, false, List, [], ◌∷◌, Some, slice_get, sum_by, refl, ap, ◌∙◌, eq-eqb, ne_eqb, arith}
use Rattle.std.specs.Bool.{if◌then◌else◌}
use Rattle.std.proofs.lemmas.Bool.{cases_eq}
use Rattle.std.proofs.lemmas.List.Sums.{sum_by-cons}
use Rattle.cqs_core.specs.Parts.{part}

-- a sum over the first so many callers
abbrev pub over_callers : ℕ → (ℕ → ℕ) → ℕ
over_callers zero f = 0
over_callers (suc n) f = over_callers n f + f n

pub over-same : (n : ℕ) (f g : ℕ → ℕ) → ((c : ℕ) → c < n → f c ≡ g c) → over_callers n f ≡ over_callers n g
over-same zero f g same = refl
over-same (suc n) f g same =
    let here : f n ≡ g n = same n (omega arith) in
    let before : over_callers n f ≡ over_callers n g = over-same n f g (λ c below. same c (omega (arith, below))) in
    omega (arith, here, before)

pub over-plus : (n : ℕ) (f g : ℕ → ℕ) → over_callers n (λ c. f c + g c) ≡ over_callers n f + over_callers n g
over-plus zero f g = refl
over-plus (suc n) f g = omega (arith, over-plus n f g)

pub over-none : (n : ℕ) → over_callers n (λ c. 0) ≡ 0
over-none zero = refl
over-none (suc n) = omega (arith, over-none n)

-- what counts for one caller
pub over-one : (n d : ℕ) (x : ℕ) → d < n → over_callers n (λ c. if d == c then x else 0) ≡ x
over-one zero d x below = absurd (omega (arith, below))
over-one (suc n) d x below = go (cases_eq d n) (λ under. over-one n d x under)
  where
    go : (d ≡ n) ⊎ (d ≢ n) → (d < n → over_callers n (λ c. if d == c then x else 0) ≡ x)
        → over_callers (suc n) (λ c. if d == c then x else 0) ≡ x
    go (inl same) earlier =
        let before : over_callers n (λ c. if d == c then x else 0) ≡ over_callers n (λ c. 0)
        = over-same n (λ c. if d == c then x else 0) (λ c. 0)
        (λ c under. ap (λ b. if b then x else 0) (ne_eqb d c (λ e. absurd (omega (arith, under, e, same))))) in
        let here : (if d == n then x else 0) ≡ x = ap (λ b. if b then x else 0) (eq-eqb d n same) in
        omega (arith, before, here, over-none n)
    go (inr other) earlier =
        let before : over_callers n (λ c. if d == c then x else 0) ≡ x = earlier (omega (arith, below, other)) in
        let here : (if d == n then x else 0) ≡ 0 = ap (λ b. if b then x else 0) (ne_eqb d n other) in
        omega (arith, before, here)

module _ {E : Type 0} (names : ℕ → E → Bool) (f : E → ℕ) where
  -- an entry counts for the caller that it names
  abbrev pub share : E → ℕ → ℕ
  share e c = if names c e then f e else 0

  part-cons : (c : ℕ) (e : E) (h : List E) (b : Bool) → names c e ≡ b
      → sum_by f (part names c (e ∷ h)) ≡ share e c + sum_by f (part names c h)
  part-cons c e h true is = rw is (sum_by-cons f e (part names c h))
  part-cons c e h false is = rw is (omega arith)

  -- where each entry counts for just one of the callers, the parts add up to the whole
  pub sum-by-parts : (n : ℕ) (h : List E)
      → ((i : ℕ) (e : E) → slice_get h i ≡ Some e → over_callers n (share e) ≡ f e)
      → over_callers n (λ c. sum_by f (part names c h)) ≡ sum_by f h
  sum-by-parts n [] counts = over-none n
  sum-by-parts n (e ∷ h) counts =
      let rest : over_callers n (λ c. sum_by f (part names c h)) ≡ sum_by f h
      = sum-by-parts n h (λ i d got. counts (suc i) d got) in
      let here : over_callers n (share e) ≡ f e = counts 0 e refl in
      over-same n (λ c. sum_by f (part names c (e ∷ h))) (λ c. share e c + sum_by f (part names c h))
      (λ c under. part-cons c e h (names c e) refl)
      ∙ over-plus n (share e) (λ c. sum_by f (part names c h))
      ∙ omega (arith, rest, here, sum_by-cons f e h)
