-- The elements that jobs hold are those that the pass has in hand: after one more, after one less, and of two lists.
use Rattle.std.proofs.Common.{◌≡◌, ◌≢◌, ◌⊎◌, inl, inr, ℕ, zero, suc, ◌+◌, ◌<◌, ◌==◌, Bool, true, false, List, [], ◌∷◌, ◌++◌, length, slice_get, Some, refl, ap, sym, ◌∙◌, subst, eq-eqb, ne_eqb, arith}
use Rattle.std.proofs.lemmas.Bool.{cases_eq}
use Rattle.std.proofs.lemmas.List.{length_push}
use Rattle.cqs_core.specs.Keyed as keyed
use Rattle.cqs_core.proofs.Counts.{bit}
use Rattle.cqs_pool.specs.Elements.{number_of}
use Rattle.cqs_pool.proofs.ElementTimes.{times-has, times-none, times-other}
use Rattle.cqs_pool_object.specs.PoolObject.{times}
use Rattle.cqs_pool_object.proofs.PoolCounts.{times-cons}
use Rattle.cqs_rule_laws.specs.Lists.{Has, IsDistinct, without}
use Rattle.cqs_rule_laws.proofs.Lists.{has_without, length_without as length-gone}
use Rattle.cqs_floor_common.specs.declared.held.HeldElement.{HeldElement}
use Rattle.cqs_floor_common.specs.HeldElements.{all_held, elements_held, held_by}
use Rattle.cqs_floor_common.proofs.HeldElements.{all-less, all-more, append-none, length-less}
use Rattle.cqs_floor_shared_kinds.specs.PoolShares.{AreInHand}
use Rattle.cqs_floor_shared_kinds.specs.Shares.{join_held}

-- an element of a list without doubles is there once
times-once : (e : ℕ) (xs : List ℕ) → IsDistinct xs → Has e xs → times e xs ≡ 1
times-once e [] distinct has = absurd has
times-once e (x ∷ xs) distinct (inl same) =
    let one : bit (x == e) ≡ 1 = ap bit (eq-eqb x e (sym same)) in
    let none = times-none e xs (λ has. distinct.0 (subst (λ n. Has n xs) same has)) in
    omega (arith, one, none, times-cons e x xs)
times-once e (x ∷ xs) distinct (inr later) =
    let none : bit (x == e) ≡ 0 = ap bit (ne_eqb x e (λ same. distinct.0 (subst (λ n. Has n xs) (sym same) later))) in
    omega (arith, none, times-once e xs distinct.1 later, times-cons e x xs)

-- the oldest of a job is in hand
pub first-in-hand : (job e : ℕ) (hs : List HeldElement) (slots : List ℕ) → AreInHand hs slots
    → slice_get (elements_held job hs) 0 ≡ Some e → Has e slots
first-in-hand job e hs slots hands first =
    let here = all-less job e hs e first in
    let one : bit (e == e) ≡ 1 = ap bit (eq-eqb e e refl) in
    times-has e slots (omega (arith, here, one, hands.each e))

some-of : (e : ℕ) (es : List ℕ) → slice_get es 0 ≡ Some e → 0 < length es
some-of e [] first = absurd (cc)
some-of e (x ∷ es) first = omega arith

-- what is in hand, after one more, after one less, and of two
pub hands-more : (hs : List HeldElement) (h : HeldElement) (slots : List ℕ) → AreInHand hs slots
    → AreInHand (hs ++ h ∷ []) (number_of h.element ∷ slots)
hands-more hs h slots hands = record {
  each = λ e. omega (arith, hands.each e, all-more hs h e, times-cons e (number_of h.element) slots);
  many = omega (arith, hands.many, length_push hs h);
}

pub hands-less : (job e : ℕ) (hs : List HeldElement) (slots : List ℕ) → IsDistinct slots → AreInHand hs slots
    → slice_get (elements_held job hs) 0 ≡ Some e
    → AreInHand (keyed.without (λ h. h.job) job hs) (without e slots)
hands-less job e hs slots distinct hands first =
    let has = first-in-hand job e hs slots hands first in
    record {
      each = λ x. go x (cases_eq e x);
      many = omega (
        arith,
        hands.many,
        length-less job hs (some-of e (elements_held job hs) first),
        length-gone e slots distinct has,
      );
    }
  where
    go : (x : ℕ) → (e ≡ x) ⊎ (e ≢ x)
        → times x (all_held (keyed.without (λ h. h.job) job hs)) ≡ times x (without e slots)
    go x (inl same) =
        let here = all-less job e hs e first in
        let one : bit (e == e) ≡ 1 = ap bit (eq-eqb e e refl) in
        let once = times-once e slots distinct (first-in-hand job e hs slots hands first) in
        let none = times-none e (without e slots) (λ has. (has_without e e slots has).0 refl) in
        subst (λ n. times n (all_held (keyed.without (λ h. h.job) job hs)) ≡ times n (without e slots)) same
        (omega (arith, here, one, once, none, hands.each e))
    go x (inr other) =
        let here = all-less job e hs x first in
        let zero : bit (e == x) ≡ 0 = ap bit (ne_eqb e x other) in
        omega (arith, here, zero, hands.each x, times-other e x slots other)

times-both : (x : ℕ) (xs ys : List ℕ) → times x (xs ++ ys) ≡ times x xs + times x ys
times-both x [] ys = omega arith
times-both x (z ∷ xs) ys = omega (arith, times-both x xs ys, times-cons x z (xs ++ ys), times-cons x z xs)

all-both : (x : ℕ) (hs gs : List HeldElement)
    → times x (all_held (hs ++ gs)) ≡ times x (all_held hs) + times x (all_held gs)
all-both x [] gs = omega arith
all-both x (h ∷ hs) gs =
    omega (
      arith,
      all-both x hs gs,
      times-cons x (number_of h.element) (all_held (hs ++ gs)),
      times-cons x (number_of h.element) (all_held hs),
    )

length-both : {X : Type 0} (xs ys : List X) → length (xs ++ ys) ≡ length xs + length ys
length-both [] ys = omega arith
length-both (x ∷ xs) ys = omega (arith, length-both xs ys)

pub hands-both : (hs gs : List HeldElement) (slots others : List ℕ) → AreInHand hs slots → AreInHand gs others
    → AreInHand (hs ++ gs) (slots ++ others)
hands-both hs gs slots others mine theirs = record {
  each = λ x. omega (arith, mine.each x, theirs.each x, all-both x hs gs, times-both x slots others);
  many = omega (arith, mine.many, theirs.many, length-both hs gs, length-both slots others);
}

held-both : (job : ℕ) (hs gs : List HeldElement)
    → elements_held job (hs ++ gs) ≡ elements_held job hs ++ elements_held job gs
held-both job [] gs = refl
held-both job (h ∷ hs) gs = go (h.job == job) refl (held-both job hs gs)
  where
    go : (b : Bool) → h.job == job ≡ b
        → elements_held job (hs ++ gs) ≡ elements_held job hs ++ elements_held job gs
        → elements_held job (h ∷ hs ++ gs) ≡ elements_held job (h ∷ hs) ++ elements_held job gs
    go true is rest = rw is (ap (λ es. number_of h.element ∷ es) rest)
    go false is rest = rw is rest

by-joined : (held theirs : List (List ℕ)) (job : ℕ) → held_by (join_held held theirs) job
    ≡ held_by held job ++ held_by theirs job
by-joined [] theirs job = refl
by-joined (es ∷ held) [] zero = sym (append-none es)
by-joined (es ∷ held) [] (suc job) = sym (append-none (held_by held job))
by-joined (es ∷ held) (fs ∷ theirs) zero = refl
by-joined (es ∷ held) (fs ∷ theirs) (suc job) = by-joined held theirs job

pub here-both : (held theirs : List (List ℕ)) (hs gs : List HeldElement)
    → ((j : ℕ) → elements_held j hs ≡ held_by held j) → ((j : ℕ) → elements_held j gs ≡ held_by theirs j)
    → (j : ℕ) → elements_held j (hs ++ gs) ≡ held_by (join_held held theirs) j
here-both held theirs hs gs mine also j =
    held-both j hs gs ∙ ap (λ es. es ++ elements_held j gs) (mine j) ∙ ap (λ es. held_by held j ++ es) (also j)
    ∙ sym (by-joined held theirs j)

-- where no job holds anything, nothing is held
pub none-then : (hs : List HeldElement) → ((j : ℕ) → elements_held j hs ≡ []) → hs ≡ []
none-then [] none = refl
none-then (h ∷ hs) none =
    let own : elements_held h.job (h ∷ hs) ≡ number_of h.element ∷ elements_held h.job hs
    = rw (eq-eqb h.job h.job refl) refl in
    let clash : number_of h.element ∷ elements_held h.job hs ≡ [] = sym own ∙ none h.job in
    absurd (cc)
