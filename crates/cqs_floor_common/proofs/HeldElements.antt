-- The elements of a pool that jobs hold, after one more and after one less.
use Rattle.std.proofs.Common.{◌≡◌, ◌≢◌, ◌⊎◌, inl, inr, ℕ, ◌+◌, ◌<◌, ◌==◌, Bool, true, false, List, [], ◌∷◌, ◌++◌, Some, drop, length, slice_get, refl, ap, sym, ◌∙◌, eq-eqb, ne_eqb, eqb-true, arith}
use Rattle.std.proofs.lemmas.Bool.{cases_eq}
use Rattle.std.proofs.lemmas.List.{get_or-set_same, get_or-set_other}
use Rattle.cqs_core.specs.Keyed as keyed
use Rattle.cqs_core.proofs.Counts.{bit}
use Rattle.cqs_pool.specs.Elements.{number_of}
use Rattle.cqs_pool_object.specs.PoolObject.{times}
use Rattle.cqs_pool_object.proofs.PoolCounts.{times-cons}
use Rattle.cqs_floor_common.specs.declared.held.HeldElement.{HeldElement}
use Rattle.cqs_floor_common.specs.HeldElements.{all_held, elements_held, held_by, with_less, with_more}

-- the elements of a job after one more that it or another holds
held-push : (job : ℕ) (hs : List HeldElement) (h : HeldElement)
    → elements_held job (hs ++ h ∷ []) ≡ elements_held job hs ++ elements_held job (h ∷ [])
held-push job [] h = refl
held-push job (x ∷ hs) h = go (x.job == job) refl (held-push job hs h)
  where
    go : (b : Bool) → x.job == job ≡ b
        → elements_held job (hs ++ h ∷ []) ≡ elements_held job hs ++ elements_held job (h ∷ [])
        → elements_held job (x ∷ (hs ++ h ∷ [])) ≡ elements_held job (x ∷ hs) ++ elements_held job (h ∷ [])
    go true same rest = rw same (ap (λ es. number_of x.element ∷ es) rest)
    go false other rest = rw other rest

pub append-none : (xs : List ℕ) → xs ++ [] ≡ xs
append-none [] = refl
append-none (x ∷ xs) = ap (λ ys. x ∷ ys) (append-none xs)

pub held-more : (held : List (List ℕ)) (hs : List HeldElement) (h : HeldElement) → h.job < length held
    → ((j : ℕ) → elements_held j hs ≡ held_by held j)
    → (j : ℕ) → elements_held j (hs ++ h ∷ []) ≡ held_by (with_more held h.job (number_of h.element)) j
held-more held hs h below here j = go (cases_eq j h.job)
  where
    new : List ℕ
    new = held_by held h.job ++ number_of h.element ∷ []

    go : (j ≡ h.job) ⊎ (j ≢ h.job)
        → elements_held j (hs ++ h ∷ []) ≡ held_by (with_more held h.job (number_of h.element)) j
    go (inl same) =
        let own : elements_held h.job (h ∷ []) ≡ number_of h.element ∷ [] = rw (eq-eqb h.job h.job refl) refl in
        rw same (held-push h.job hs h ∙ ap (λ es. elements_held h.job hs ++ es) own
        ∙ ap (λ es. es ++ number_of h.element ∷ []) (here h.job)
        ∙ sym (get_or-set_same held h.job new [] below))
    go (inr other) =
        let none : elements_held j (h ∷ []) ≡ [] = rw (ne_eqb h.job j (λ same. other (sym same))) refl in
        held-push j hs h ∙ ap (λ es. elements_held j hs ++ es) none ∙ append-none (elements_held j hs) ∙ here j
        ∙ sym (get_or-set_other held h.job j new [] other)

-- and after the oldest of one went
held-without : (job : ℕ) (hs : List HeldElement)
    → elements_held job (keyed.without (λ h. h.job) job hs) ≡ drop 1 (elements_held job hs)
held-without job [] = refl
held-without job (h ∷ hs) = go (h.job == job) refl (held-without job hs)
  where
    go : (b : Bool) → h.job == job ≡ b
        → elements_held job (keyed.without (λ h. h.job) job hs) ≡ drop 1 (elements_held job hs)
        → elements_held job (keyed.without (λ h. h.job) job (h ∷ hs)) ≡ drop 1 (elements_held job (h ∷ hs))
    go true same rest = rw (eq-eqb job h.job (sym (eqb-true h.job job same)), same) refl
    go false other rest =
        let differs : job ≢ h.job = λ e. absurd (cc (eq-eqb h.job job (sym e), other)) in
        rw (ne_eqb job h.job differs, other) rest

kept-without : (job j : ℕ) (hs : List HeldElement) → job ≢ j
    → elements_held j (keyed.without (λ h. h.job) job hs) ≡ elements_held j hs
kept-without job j [] other = refl
kept-without job j (h ∷ hs) other = go (job == h.job) refl (h.job == j) refl (kept-without job j hs other)
  where
    go : (a : Bool) → job == h.job ≡ a → (b : Bool) → h.job == j ≡ b
        → elements_held j (keyed.without (λ h. h.job) job hs) ≡ elements_held j hs
        → elements_held j (keyed.without (λ h. h.job) job (h ∷ hs)) ≡ elements_held j (h ∷ hs)
    go true same b is rest =
        let away : h.job == j ≡ false = ne_eqb h.job j (λ here. other (eqb-true job h.job same ∙ here)) in
        rw (same, away) refl
    go false differs true is rest = rw (differs, is) (ap (λ es. number_of h.element ∷ es) rest)
    go false differs false is rest = rw (differs, is) rest

pub held-less : (held : List (List ℕ)) (hs : List HeldElement) (job : ℕ) → job < length held
    → ((j : ℕ) → elements_held j hs ≡ held_by held j)
    → (j : ℕ) → elements_held j (keyed.without (λ h. h.job) job hs) ≡ held_by (with_less held job) j
held-less held hs job below here j = go (cases_eq j job)
  where
    go : (j ≡ job) ⊎ (j ≢ job)
        → elements_held j (keyed.without (λ h. h.job) job hs) ≡ held_by (with_less held job) j
    go (inl same) =
        rw same (held-without job hs ∙ ap (drop 1) (here job)
        ∙ sym (get_or-set_same held job (drop 1 (held_by held job)) [] below))
    go (inr other) =
        kept-without job j hs (λ same. other (sym same)) ∙ here j
        ∙ sym (get_or-set_other held job j (drop 1 (held_by held job)) [] other)

-- all that are held, after one more and after one less
pub all-more : (hs : List HeldElement) (h : HeldElement) (x : ℕ)
    → times x (all_held (hs ++ h ∷ [])) ≡ times x (all_held hs) + bit (number_of h.element == x)
all-more [] h x = omega (arith, times-cons x (number_of h.element) [])
all-more (y ∷ hs) h x =
    omega (
      arith,
      times-cons x (number_of y.element) (all_held (hs ++ h ∷ [])),
      times-cons x (number_of y.element) (all_held hs),
      all-more hs h x,
    )

pub all-less : (job e : ℕ) (hs : List HeldElement) (x : ℕ) → slice_get (elements_held job hs) 0 ≡ Some e
    → times x (all_held (keyed.without (λ h. h.job) job hs)) + bit (e == x) ≡ times x (all_held hs)
all-less job e [] x first = absurd (cc)
all-less job e (h ∷ hs) x first = go (h.job == job) refl (all-less job e hs x)
  where
    all : times x (all_held (h ∷ hs)) ≡ bit (number_of h.element == x) + times x (all_held hs)
    all = times-cons x (number_of h.element) (all_held hs)

    go : (b : Bool) → h.job == job ≡ b
        → (slice_get (elements_held job hs) 0 ≡ Some e
        → times x (all_held (keyed.without (λ h. h.job) job hs)) + bit (e == x) ≡ times x (all_held hs))
        → times x (all_held (keyed.without (λ h. h.job) job (h ∷ hs))) + bit (e == x) ≡ times x (all_held (h ∷ hs))
    go true same later =
        let own : Some (number_of h.element) ≡ Some e
        = rw same at first in
        let is : number_of h.element ≡ e = cc in
        let one : bit (number_of h.element == x) ≡ bit (e == x) = ap (λ n. bit (n == x)) is in
        rw (eq-eqb job h.job (sym (eqb-true h.job job same))) (omega (arith, all, one))
    go false other later =
        let differs : job ≢ h.job = λ same. absurd (cc (eq-eqb h.job job (sym same), other)) in
        let rest = later (rw other at first) in
        let now : times x (all_held (h ∷ keyed.without (λ h. h.job) job hs))
        ≡ bit (number_of h.element == x) + times x (all_held (keyed.without (λ h. h.job) job hs))
        = times-cons x (number_of h.element) (all_held (keyed.without (λ h. h.job) job hs)) in
        rw (ne_eqb job h.job differs) (omega (arith, all, now, rest))

pub length-less : (job : ℕ) (hs : List HeldElement) → 0 < length (elements_held job hs)
    → length (keyed.without (λ h. h.job) job hs) + 1 ≡ length hs
length-less job [] some = absurd (omega (arith, some))
length-less job (h ∷ hs) some = go (h.job == job) refl (length-less job hs)
  where
    go : (b : Bool) → h.job == job ≡ b
        → (0 < length (elements_held job hs) → length (keyed.without (λ h. h.job) job hs) + 1 ≡ length hs)
        → length (keyed.without (λ h. h.job) job (h ∷ hs)) + 1 ≡ length (h ∷ hs)
    go true same later = rw (eq-eqb job h.job (sym (eqb-true h.job job same))) (omega arith)
    go false other later =
        let differs : job ≢ h.job = λ same. absurd (cc (eq-eqb h.job job (sym same), other)) in
        let fewer = later (rw other at some) in
        rw (ne_eqb job h.job differs) (omega (arith, fewer))
