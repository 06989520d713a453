-- The places of a pass's waits: one is taken out, one comes to them.
use Rattle.std.proofs.Common.{◌≡◌, ◌≢◌, ℕ, zero, suc, ◌+◌, ◌<◌, ◌≤◌, List, [], ◌∷◌, ◌++◌, All, length, get_or, sym, refl, ap, ◌∙◌, arith, ⊎_elim, eq-eqb, ne_eqb, if◌then◌else◌}
use mathlib.Core.Logic.{dite}
use native.Mathlib.Decide.{ℕ_discrete}
use Rattle.std.specs.List.{remove}
use Rattle.std.proofs.lemmas.List.{length-append}
use Rattle.std.proofs.lemmas.List.Elements.{All-nil, All-cons, All-head, All-tail, All-append, All-take, All-drop, All-get_or, All-push}
use Rattle.cqs_rule_laws.specs.declared.config.Place.{Place}
use Rattle.cqs_rule_laws.specs.Lists.{Has, without}
use Rattle.cqs_rule_laws.proofs.Lists.{get_index}
use Rattle.cqs_c_callers.specs.Waits.{Apart, IsAt}

pub all_remove : {X : Type 0} (P : X → Type 0) (xs : List X) (i : ℕ) → All P xs → All P (remove xs i)
all_remove P xs i all = All-append P _ _ (All-take P i xs all) (All-drop P (suc i) xs all)

pub all_both : {X : Type 0} (P Q : X → Type 0) (xs : List X) → All P xs → All Q xs → All (λ x. P x × Q x) xs
all_both P Q [] a b = All-nil (λ x. P x × Q x)
all_both P Q (x ∷ xs) a b =
    All-cons (λ x. P x × Q x) x xs (All-head P x xs a, All-head Q x xs b)
    (all_both P Q xs (All-tail P x xs a) (All-tail Q x xs b))

pub apart_remove : (xs : List Place) (i : ℕ) → Apart xs → Apart (remove xs i)
apart_remove [] zero h = tt
apart_remove [] (suc i) h = tt
apart_remove (x ∷ xs) zero h = h.1
apart_remove (x ∷ xs) (suc i) h = (all_remove (λ (y : Place). y.index ≢ x.index) xs i h.0, apart_remove xs i h.1)

-- the others have other numbers
pub others_apart : (xs : List Place) (i : ℕ) (d : Place) → i < length xs → Apart xs
    → All (λ y. y.index ≢ (get_or xs i d).index) (remove xs i)
others_apart [] i d low h = absurd (omega arith)
others_apart (x ∷ xs) zero d low h = h.0
others_apart (x ∷ xs) (suc i) d low h =
    let below : i < length xs = omega arith in
    let at = get_or xs i d in
    All-cons (λ (y : Place). y.index ≢ at.index) x (remove xs i)
    (λ q. All-get_or (λ (y : Place). y.index ≢ x.index) xs i d below h.0 (sym q)) (others_apart xs i d below h.1)

-- where one of them has the number, not all have others
pub found_one : (number : ℕ) (xs : List Place) (i : ℕ) → IsAt number xs i → All (λ at. at.index ≢ number) xs → ⊥
found_one number xs i at none =
    All-get_or (λ (y : Place). y.index ≢ number) xs i at.at at.below none
    (ap (λ (y : Place). y.index) (get_index xs i at.at at.at at.is) ∙ at.number_is)

pub apart_push : (xs : List Place) (at : Place) → Apart xs → All (λ y. y.index ≢ at.index) xs
    → Apart (xs ++ at ∷ [])
apart_push [] at h other = (All-nil (λ (y : Place). y.index ≢ at.index), tt)
apart_push (x ∷ xs) at h other = (
  All-push (λ (y : Place). y.index ≢ x.index) xs at h.0
      (λ q. All-head (λ (y : Place). y.index ≢ at.index) x xs other (sym q)),
  apart_push xs at h.1 (All-tail (λ (y : Place). y.index ≢ at.index) x xs other),
)

no_longer : (k : ℕ) (xs : List ℕ) → length (without k xs) ≤ length xs
no_longer k [] = omega arith
no_longer k (x ∷ xs) = dite (ℕ_discrete x k)
    (λ (q : x ≡ k).
    let is : without k (x ∷ xs) ≡ without k xs =
    ap (λ b. if b then without k xs else x ∷ without k xs) (eq-eqb x k q) in
    let long = ap length is in let most = no_longer k xs in omega arith)
    (λ (a : x ≢ k).
    let less = no_longer k xs in
    let is : without k (x ∷ xs) ≡ x ∷ without k xs =
    ap (λ b. if b then without k xs else x ∷ without k xs) (ne_eqb x k a) in
    let long : length (without k (x ∷ xs)) ≡ length (without k xs) + 1 = ap length is ∙ omega arith in omega arith)

-- without a number that is there, a list is shorter
pub shorter : (k : ℕ) (xs : List ℕ) → Has k xs → length (without k xs) < length xs
shorter k [] h = absurd h
shorter k (x ∷ xs) h = dite (ℕ_discrete x k)
    (λ (q : x ≡ k).
    let is : without k (x ∷ xs) ≡ without k xs =
    ap (λ b. if b then without k xs else x ∷ without k xs) (eq-eqb x k q) in
    let long = ap length is in let most = no_longer k xs in omega arith)
    (λ (a : x ≢ k).
    let has : Has k xs = ⊎_elim (λ (e : k ≡ x). absurd (a (sym e))) (λ z. z) h in
    let less = shorter k xs has in
    let is : without k (x ∷ xs) ≡ x ∷ without k xs =
    ap (λ b. if b then without k xs else x ∷ without k xs) (ne_eqb x k a) in
    let long : length (without k (x ∷ xs)) ≡ length (without k xs) + 1 = ap length is ∙ omega arith in omega arith)

last_gone : (k : ℕ) (xs : List ℕ) → length (without k (xs ++ k ∷ [])) ≤ length (without k xs)
last_gone k [] =
    let is : without k (k ∷ []) ≡ [] = ap (λ b. if b then [] else k ∷ []) (eq-eqb k k refl) in
    let long = ap length is in omega arith
last_gone k (x ∷ xs) = dite (ℕ_discrete x k)
    (λ (q : x ≡ k).
    let one : without k (x ∷ xs ++ k ∷ []) ≡ without k (xs ++ k ∷ []) =
    ap (λ b. if b then without k (xs ++ k ∷ []) else x ∷ without k (xs ++ k ∷ [])) (eq-eqb x k q) in
    let two : without k (x ∷ xs) ≡ without k xs =
    ap (λ b. if b then without k xs else x ∷ without k xs) (eq-eqb x k q) in
    let a = ap length one in let b = ap length two in let rest = last_gone k xs in omega arith)
    (λ (apart : x ≢ k).
    let one : without k (x ∷ xs ++ k ∷ []) ≡ x ∷ without k (xs ++ k ∷ []) =
    ap (λ b. if b then without k (xs ++ k ∷ []) else x ∷ without k (xs ++ k ∷ [])) (ne_eqb x k apart) in
    let two : without k (x ∷ xs) ≡ x ∷ without k xs =
    ap (λ b. if b then without k xs else x ∷ without k xs) (ne_eqb x k apart) in
    let a : length (without k (x ∷ xs ++ k ∷ [])) ≡ length (without k (xs ++ k ∷ [])) + 1 =
    ap length one ∙ omega arith in
    let b : length (without k (x ∷ xs)) ≡ length (without k xs) + 1 = ap length two ∙ omega arith in
    let rest = last_gone k xs in omega arith)

-- a number that stands once in the list with it at the end doesn't stand before that
pub stands_once : (k : ℕ) (xs : List ℕ) → length (without k (xs ++ k ∷ [])) + 1 ≡ length (xs ++ k ∷ [])
    → Has k xs → ⊥
stands_once k xs once has =
    let gone = last_gone k xs in let less = shorter k xs has in
    let long : length (xs ++ k ∷ []) ≡ length xs + 1 = length-append xs (k ∷ []) in
    absurd (omega arith)
