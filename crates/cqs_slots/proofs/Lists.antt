-- Lists, and functions with one value changed.
use Rattle.std.proofs.Common.{◌≡◌, ◌≢◌, ◌⊎◌, ℕ, zero, suc, ◌+◌, ◌<◌, ◌≤◌, List, [], ◌∷◌, ◌++◌, length, sym, refl, ap, ◌∙◌, subst, ⊎_elim, inl, inr, arith, append_assoc, eq-eqb, ne_eqb, if◌then◌else◌}
use Rattle.std.specs.Prelude.{slice_index, slice_set}
use Rattle.std.proofs.Common.{get_or-set_other, get_or-set_same}
use Rattle.std.proofs.lemmas.List.{append-nil}
use mathlib.Core.Logic.{dite}
use native.Mathlib.Decide.{ℕ_discrete}
use Rattle.cqs_core.specs.Parts.{Has, IsPrefix}
use Rattle.cqs_core.proofs.Places.{get-append_left}
use Rattle.cqs_slots.specs.Lists.{IsDistinct, without}
use Rattle.cqs_slots.specs.Slots.{IsHome, IsRaised, changed}

module _ {A : Type 0} where
  pub prefix-same : (a : List A) → IsPrefix a a
  prefix-same a = ([], sym (append-nil a))

  pub prefix-more : (a b : List A) → IsPrefix a (a ++ b)
  prefix-more a b = (b, refl)

  pub prefix-then : (a b c : List A) → IsPrefix a b → IsPrefix b c → IsPrefix a c
  prefix-then a b c p q = (p.0 ++ q.0, q.1 ∙ (ap (λ l. l ++ q.0) p.1 ∙ append_assoc a p.0 q.0))

  pub changed_here : (f : ℕ → A) (n : ℕ) (x : A) → changed f n x n ≡ x
  changed_here f n x = ap (λ b. if b then x else f n) (eq-eqb n n refl)

  pub changed_at : (f : ℕ → A) (n : ℕ) (x : A) (m : ℕ) → m ≡ n → changed f n x m ≡ x
  changed_at f n x m same = ap (λ b. if b then x else f m) (eq-eqb m n same)

  pub changed_else : (f : ℕ → A) (n : ℕ) (x : A) (m : ℕ) → m ≢ n → changed f n x m ≡ f m
  changed_else f n x m apart = ap (λ b. if b then x else f m) (ne_eqb m n apart)

pub has_left : (n : ℕ) (a b : List ℕ) → Has n a → Has n (a ++ b)
has_left n [] b h = absurd h
has_left n (x ∷ xs) b (inl e) = inl e
has_left n (x ∷ xs) b (inr h) = inr (has_left n xs b h)

pub has_right : (n : ℕ) (a b : List ℕ) → Has n b → Has n (a ++ b)
has_right n [] b h = h
has_right n (x ∷ xs) b h = inr (has_right n xs b h)

pub has_append : (n : ℕ) (a b : List ℕ) → Has n (a ++ b) → Has n a ⊎ Has n b
has_append n [] b h = inr h
has_append n (x ∷ xs) b (inl e) = inl (inl e)
has_append n (x ∷ xs) b (inr h) = ⊎_elim (λ t. inl (inr t)) inr (has_append n xs b h)

pub has_prefix : (n : ℕ) (a b : List ℕ) → IsPrefix a b → Has n a → Has n b
has_prefix n a b p h = subst (Has n) (sym p.1) (has_left n a p.0 h)

-- links
pub raised_left : (x word : ℕ) (a b : List (ℕ × ℕ)) → IsRaised x word a → IsRaised x word (a ++ b)
raised_left x word [] b h = absurd h
raised_left x word (link ∷ links) b (inl e) = inl e
raised_left x word (link ∷ links) b (inr h) = inr (raised_left x word links b h)

pub raised_right : (x word : ℕ) (a b : List (ℕ × ℕ)) → IsRaised x word b → IsRaised x word (a ++ b)
raised_right x word [] b h = h
raised_right x word (link ∷ links) b h = inr (raised_right x word links b h)

pub raised_append : (x word : ℕ) (a b : List (ℕ × ℕ)) → IsRaised x word (a ++ b)
    → IsRaised x word a ⊎ IsRaised x word b
raised_append x word [] b h = inr h
raised_append x word (link ∷ links) b (inl e) = inl (inl e)
raised_append x word (link ∷ links) b (inr h) = ⊎_elim (λ t. inl (inr t)) inr (raised_append x word links b h)

pub raised_prefix : (x word : ℕ) (a b : List (ℕ × ℕ)) → IsPrefix a b → IsRaised x word a → IsRaised x word b
raised_prefix x word a b p h = subst (IsRaised x word) (sym p.1) (raised_left x word a p.0 h)

-- homes
pub home-prefix : (a b : List ℕ) (s x : ℕ) → IsPrefix a b → IsHome a s x → IsHome b s x
home-prefix a b s x p h = subst (λ l. IsHome l s x) (sym p.1) (get-append_left a p.0 s x h)

pub one-home : (l : List ℕ) (s x y : ℕ) → IsHome l s x → IsHome l s y → x ≡ y
one-home [] s x y p q = absurd (cc)
one-home (z ∷ zs) zero x y p q = cc
one-home (z ∷ zs) (suc s) x y p q = one-home zs s x y p q

-- words
pub other-word : (words : List ℕ) (i j x : ℕ) → j ≢ i → slice_index (slice_set words i x) j ≡ slice_index words j
other-word words i j x apart = get_or-set_other words i j x 0 apart

pub this-word : (words : List ℕ) (i x : ℕ) → i < length words → slice_index (slice_set words i x) i ≡ x
this-word words i x below = get_or-set_same words i x 0 below

-- what is in a list without k is in the list, and isn't k
pub has_without : (n k : ℕ) (xs : List ℕ) → Has n (without k xs) → (n ≢ k) × Has n xs
has_without n k [] h = absurd h
has_without n k (x ∷ xs) h = dite (ℕ_discrete x k)
    (λ (q : x ≡ k).
    let later : Has n (without k xs) =
    subst (λ b. Has n (if b then without k xs else x ∷ without k xs)) (eq-eqb x k q) h in
    let t = has_without n k xs later in (t.0, inr t.1))
    (λ (a : x ≢ k). ⊎_elim
    (λ (e : n ≡ x). ((λ (q : n ≡ k). a (sym e ∙ q)), inl e))
    (λ (g : Has n (without k xs)). let t = has_without n k xs g in (t.0, inr t.1))
    (subst (λ b. Has n (if b then without k xs else x ∷ without k xs)) (ne_eqb x k a) h))

pub without_has : (n k : ℕ) (xs : List ℕ) → n ≢ k → Has n xs → Has n (without k xs)
without_has n k [] apart h = absurd h
without_has n k (x ∷ xs) apart h = dite (ℕ_discrete x k)
    (λ (q : x ≡ k).
    subst (λ b. Has n (if b then without k xs else x ∷ without k xs)) (sym (eq-eqb x k q))
    (⊎_elim (λ (e : n ≡ x). absurd (apart (e ∙ q))) (λ g. without_has n k xs apart g) h))
    (λ (a : x ≢ k).
    subst (λ b. Has n (if b then without k xs else x ∷ without k xs)) (sym (ne_eqb x k a))
    (⊎_elim (λ (e : n ≡ x). inl e) (λ g. inr (without_has n k xs apart g)) h))

pub without_none : (k : ℕ) (xs : List ℕ) → (Has k xs → ⊥) → without k xs ≡ xs
without_none k [] none = refl
without_none k (x ∷ xs) none =
    let apart : x ≢ k = λ q. none (inl (sym q)) in
    ap (λ b. if b then without k xs else x ∷ without k xs) (ne_eqb x k apart)
    ∙ ap (λ l. x ∷ l) (without_none k xs (λ h. none (inr h)))

pub distinct_without : (k : ℕ) (xs : List ℕ) → IsDistinct xs → IsDistinct (without k xs)
distinct_without k [] d = tt
distinct_without k (x ∷ xs) d = dite (ℕ_discrete x k)
    (λ (q : x ≡ k).
    subst (λ b. IsDistinct (if b then without k xs else x ∷ without k xs)) (sym (eq-eqb x k q))
    (distinct_without k xs d.1))
    (λ (a : x ≢ k).
    subst (λ b. IsDistinct (if b then without k xs else x ∷ without k xs)) (sym (ne_eqb x k a))
    ((λ h. d.0 (has_without x k xs h).1), distinct_without k xs d.1))

pub distinct_append : (k : ℕ) (xs : List ℕ) → IsDistinct xs → (Has k xs → ⊥) → IsDistinct (xs ++ k ∷ [])
distinct_append k [] d none = ((λ h. h), tt)
distinct_append k (x ∷ xs) d none = (
  (λ h. ⊎_elim d.0 (λ q. none (⊎_elim (λ (e : x ≡ k). inl (sym e)) (λ z. absurd z) q)) (has_append x xs (k ∷ []) h)),
  distinct_append k xs d.1 (λ h. none (inr h)),
)

-- where k is in a list without doubles, the list without k is one shorter
pub length_without : (k : ℕ) (xs : List ℕ) → IsDistinct xs → Has k xs → length (without k xs) + 1 ≡ length xs
length_without k [] d h = absurd h
length_without k (x ∷ xs) d h = dite (ℕ_discrete x k)
    (λ (q : x ≡ k).
    let rest : without k xs ≡ xs = without_none k xs (subst (λ z. Has z xs → ⊥) q d.0) in
    let is : without k (x ∷ xs) ≡ xs = ap (λ b. if b then without k xs else x ∷ without k xs) (eq-eqb x k q) ∙ rest in
    let long = ap length is in omega arith)
    (λ (a : x ≢ k).
    let has : Has k xs = ⊎_elim (λ (e : k ≡ x). absurd (a (sym e))) (λ z. z) h in
    let less = length_without k xs d.1 has in
    let is : without k (x ∷ xs) ≡ x ∷ without k xs =
    ap (λ b. if b then without k xs else x ∷ without k xs) (ne_eqb x k a) in
    let long : length (without k (x ∷ xs)) ≡ length (without k xs) + 1 = ap length is ∙ omega arith in omega arith)

length_without-least : (k : ℕ) (xs : List ℕ) → IsDistinct xs → length xs ≤ length (without k xs) + 1
length_without-least k [] d = omega arith
length_without-least k (x ∷ xs) d = dite (ℕ_discrete x k)
    (λ (q : x ≡ k).
    let rest : without k xs ≡ xs = without_none k xs (subst (λ z. Has z xs → ⊥) q d.0) in
    let is : without k (x ∷ xs) ≡ xs = ap (λ b. if b then without k xs else x ∷ without k xs) (eq-eqb x k q) ∙ rest in
    let long = ap length is in omega arith)
    (λ (a : x ≢ k).
    let less = length_without-least k xs d.1 in
    let is : without k (x ∷ xs) ≡ x ∷ without k xs =
    ap (λ b. if b then without k xs else x ∷ without k xs) (ne_eqb x k a) in
    let long : length (without k (x ∷ xs)) ≡ length (without k xs) + 1 = ap length is ∙ omega arith in omega arith)

-- so many numbers are below m at most
pub few_below : (m : ℕ) (xs : List ℕ) → IsDistinct xs → ((n : ℕ) → Has n xs → n < m) → length xs ≤ m
few_below zero [] d below = omega arith
few_below zero (x ∷ xs) d below = let none = below x (inl refl) in absurd (omega arith)
few_below (suc m) xs d below =
    let rest = few_below m (without m xs) (distinct_without m xs d)
    (λ n h. let t = has_without n m xs h in let low = below n t.1 in let apart = t.0 in omega arith) in
    let least = length_without-least m xs d in omega arith
