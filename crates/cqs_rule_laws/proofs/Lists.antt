-- Lists of views, lists of numbers, and the parts of a history.
pub use Rattle.cqs_slots.proofs.Lists.{prefix-then, has_append, has_left, has_right, has_without, without_has, distinct_without, distinct_append, length_without, few_below}
use Rattle.std.proofs.Common.{◌≡◌, ◌≢◌, ◌⊎◌, ℕ, zero, suc, ◌+◌, ◌≤◌, ◌<◌, ◌==◌, Bool, true, false, List, [], ◌∷◌, ◌++◌, length, set, sym, refl, ap, ◌∙◌, subst, ⊎_elim, inl, inr, arith, append_assoc, Some, slice_get, get_or, cond, eq-eqb, ne_eqb, if◌then◌else◌}
use Rattle.std.specs.Prelude.{count_by}
use Rattle.std.proofs.lemmas.List.{append-nil}
use Rattle.std.proofs.lemmas.List.Elements.{filter-append}
use Rattle.std.proofs.lemmas.List.Sums.{sum_by-set, count_by-le-length}
use Rattle.cqs_core.proofs.Places.{get-below}
use mathlib.Core.Option.{some, some-ne-none, some-injective}
use lib.ListN.{get_elem?}
use Rattle.atomic_table.proofs.Lists.{at_set}
use Rattle.cqs_rule_laws.specs.Lists.{total, IsPrefix, part}

-- a choice by a number that is this one, and that isn't
pub chosen : {A : Type 0} (j k : ℕ) (a b : A) → j ≡ k → (if j == k then a else b) ≡ a
chosen j k a b same = ap (λ c. if c then a else b) (eq-eqb j k same)

pub passed-by : {A : Type 0} (j k : ℕ) (a b : A) → j ≢ k → (if j == k then a else b) ≡ b
passed-by j k a b apart = ap (λ c. if c then a else b) (ne_eqb j k apart)

module _ {A : Type 0} where
  pub set_there : (l : List A) (i : ℕ) (a b : A) → get_elem? l i ≡ some a → get_elem? (set l i b) i ≡ some b
  set_there [] i a b e = absurd (some-ne-none a (sym e))
  set_there (x ∷ xs) zero a b e = refl
  set_there (x ∷ xs) (suc i) a b e = set_there xs i a b e

  pub one_there : (l : List A) (i : ℕ) (a b : A) → get_elem? l i ≡ some a → get_elem? l i ≡ some b → a ≡ b
  one_there l i a b p q = some-injective a b (sym p ∙ q)

  -- a fact of each member, after one is set
  pub set_all : (P : ℕ → A → Type 0) (l : List A) (i : ℕ) (w : A) → P i w
      → ((j : ℕ) (v : A) → j ≢ i → get_elem? l j ≡ some v → P j v)
      → (j : ℕ) (v : A) → get_elem? (set l i w) j ≡ some v → P j v
  set_all P l i w mine others j v e =
      ⊎_elim
      (λ (t : (j ≡ i) × (w ≡ v)). subst (λ (z : ℕ × A). P z.0 z.1) (λ k. (sym t.0 k, t.1 k)) mine)
      (λ (t : (j ≢ i) × (get_elem? l j ≡ some v)). others j v t.0 t.1)
      (at_set l i j w v e)

  pub total_set : (f : A → ℕ) (l : List A) (i : ℕ) (v w : A) → get_elem? l i ≡ some v
      → total f (set l i w) + f v ≡ total f l + f w
  total_set f [] i v w e = absurd (some-ne-none v (sym e))
  total_set f (x ∷ xs) zero v w e = let q : f x ≡ f v = ap f (some-injective x v e) in omega arith
  total_set f (x ∷ xs) (suc i) v w e = let q = total_set f xs i v w e in omega arith

  pub total_last : (f : A → ℕ) (l : List A) (w : A) → total f (l ++ w ∷ []) ≡ total f l + f w
  total_last f [] w = omega arith
  total_last f (x ∷ xs) w = let q = total_last f xs w in omega arith

  -- what stands in a list with one more stood there before, or is the one at the end
  pub at_end : (l : List A) (a b : A) (j : ℕ) → get_elem? (l ++ a ∷ []) j ≡ some b
      → (get_elem? l j ≡ some b) ⊎ ((j ≡ length l) × (a ≡ b))
  at_end [] a b zero e = inr (refl, some-injective a b e)
  at_end [] a b (suc j) e = absurd (some-ne-none b (sym e))
  at_end (x ∷ xs) a b zero e = inl e
  at_end (x ∷ xs) a b (suc j) e = ⊎_elim inl (λ t. inr (ap suc t.0, t.1)) (at_end xs a b j e)

  pub one_of : (f : A → ℕ) (l : List A) (i : ℕ) (v : A) → get_elem? l i ≡ some v → f v ≤ total f l
  one_of f [] i v e = absurd (some-ne-none v (sym e))
  one_of f (x ∷ xs) zero v e = let q : f x ≡ f v = ap f (some-injective x v e) in omega arith
  one_of f (x ∷ xs) (suc i) v e = let q = one_of f xs i v e in omega arith

  pub two_of : (f : A → ℕ) (l : List A) (i j : ℕ) (v w : A) → i ≢ j → get_elem? l i ≡ some v → get_elem? l j ≡ some w
      → f v + f w ≤ total f l
  two_of f [] i j v w n e d = absurd (some-ne-none v (sym e))
  two_of f (x ∷ xs) zero zero v w n e d = absurd (n refl)
  two_of f (x ∷ xs) zero (suc j) v w n e d =
      let q : f x ≡ f v = ap f (some-injective x v e) in let p = one_of f xs j w d in omega arith
  two_of f (x ∷ xs) (suc i) zero v w n e d =
      let q : f x ≡ f w = ap f (some-injective x w d) in let p = one_of f xs i v e in omega arith
  two_of f (x ∷ xs) (suc i) (suc j) v w n e d = let p = two_of f xs i j v w (λ q. n (ap suc q)) e d in omega arith

  pub nothing_more : (a b : List A) → a ≡ a ++ b → b ≡ []
  nothing_more [] b e = sym e
  nothing_more (x ∷ xs) b e = nothing_more xs b (cc)

  pub longer : (h all more : List A) → IsPrefix h all → IsPrefix h (all ++ more)
  longer h all more p = (p.0 ++ more, ap (λ l. l ++ more) p.1 ∙ append_assoc h p.0 more)

  -- of two beginnings of one list the one is a beginning of the other
  pub of_one : (a b l : List A) → IsPrefix a l → IsPrefix b l → IsPrefix a b ⊎ IsPrefix b a
  of_one [] b l p q = inl (b, refl)
  of_one (x ∷ xs) [] l p q = inr (x ∷ xs, refl)
  of_one (x ∷ xs) (y ∷ ys) [] p q = let e = p.1 in absurd (cc)
  of_one (x ∷ xs) (y ∷ ys) (z ∷ zs) p q =
      let e = p.1 in
      let f = q.1 in
      let same : x ≡ y = cc in
      ⊎_elim
      (λ (r : IsPrefix xs ys). let g = r.1 in inl (r.0, λ i. sym same i ∷ g i))
      (λ (r : IsPrefix ys xs). let g = r.1 in inr (r.0, λ i. same i ∷ g i))
      (of_one xs ys zs (p.0, cc) (q.0, cc))

  pub get_index : (l : List A) (i : ℕ) (a d : A) → slice_get l i ≡ Some a → get_or l i d ≡ a
  get_index [] i a d e = absurd (cc)
  get_index (x ∷ xs) zero a d e = cc
  get_index (x ∷ xs) (suc i) a d e = get_index xs i a d e

-- a pass that might draw may no more
pub fewer_draw : (may : List Bool) (p : ℕ) → slice_get may p ≡ Some true
    → count_by (λ b. b) (set may p false) + 1 ≡ count_by (λ b. b) may
fewer_draw may p there =
    let below : p < length may = get-below may p true there in
    let is : get_or may p false ≡ true = get_index may p true false there in
    let write : count_by (λ b. b) (set may p false) + 1 ≡ count_by (λ b. b) may + 0 =
    rw is at (sum_by-set (λ b. cond b 1 0) may p false false below) in
    omega arith

pub all_draw : (may : List Bool) → count_by (λ b. b) may ≤ length may
all_draw may = count_by-le-length (λ b. b) may

module _ {E : Type 0} (names : ℕ → E → Bool) where
  pub part_more : (n : ℕ) (h es : List E) → part names n es ≡ [] → part names n (h ++ es) ≡ part names n h
  part_more n h es empty = filter-append (names n) h es ∙ (ap (λ l. part names n h ++ l) empty ∙ append-nil _)

  -- what a live pass's numbers did not do since it looked
  pub unnamed : (n : ℕ) (seen rest log : List E) → log ≡ seen ++ rest → part names n seen ≡ part names n log
      → part names n rest ≡ []
  unnamed n seen rest log e same =
      nothing_more (part names n seen) (part names n rest) (same
      ∙ (ap (part names n) e ∙ filter-append (names n) seen rest))
