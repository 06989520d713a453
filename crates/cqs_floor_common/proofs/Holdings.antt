-- What jobs hold of one resource, among what they hold of all: after one more and after one less.
use Rattle.std.proofs.Common.{◌≡◌, ◌≢◌, ℕ, zero, suc, ◌<◌, ◌==◌, Bool, true, false, List, [], ◌∷◌, ◌++◌, IsSome, drop, length, set, get_or, refl, ap, sym, ◌∙◌, eq-eqb, ne_eqb, eqb-true, arith}
use Rattle.cqs_core.specs.Keyed.{without}
use Rattle.cqs_plan.specs.Floor.{Holding, oldest}
use Rattle.cqs_floor_common.specs.Holdings.{elements_of, held_at}

-- the elements of one resource among what one job holds
pub elements-append : (at : ℕ) (hs gs : List Holding)
    → elements_of at (hs ++ gs) ≡ elements_of at hs ++ elements_of at gs
elements-append at [] gs = refl
elements-append at (x ∷ hs) gs = go (x.at == at) refl (elements-append at hs gs)
  where
    go : (b : Bool) → x.at == at ≡ b → elements_of at (hs ++ gs) ≡ elements_of at hs ++ elements_of at gs
        → elements_of at (x ∷ (hs ++ gs)) ≡ elements_of at (x ∷ hs) ++ elements_of at gs
    go true same rest = rw same (ap (λ es. x.element ∷ es) rest)
    go false other rest = rw other rest

pub elements-here : (at element : ℕ) → elements_of at (record { at = at; element = element } ∷ []) ≡ element ∷ []
elements-here at element = rw (eq-eqb at at refl) refl

pub elements-away : (at q element : ℕ) → at ≢ q → elements_of q (record { at = at; element = element } ∷ []) ≡ []
elements-away at q element other = rw (ne_eqb at q other) refl

pub elements-less : (at : ℕ) (hs : List Holding)
    → elements_of at (without (λ h. h.at) at hs) ≡ drop 1 (elements_of at hs)
elements-less at [] = refl
elements-less at (h ∷ hs) = go (h.at == at) refl (elements-less at hs)
  where
    go : (b : Bool) → h.at == at ≡ b → elements_of at (without (λ h. h.at) at hs) ≡ drop 1 (elements_of at hs)
        → elements_of at (without (λ h. h.at) at (h ∷ hs)) ≡ drop 1 (elements_of at (h ∷ hs))
    go true same rest = rw (eq-eqb at h.at (sym (eqb-true h.at at same)), same) refl
    go false other rest =
        let differs : at ≢ h.at = λ e. absurd (cc (eq-eqb h.at at (sym e), other)) in
        rw (ne_eqb at h.at differs, other) rest

pub elements-kept : (at q : ℕ) (hs : List Holding) → at ≢ q
    → elements_of q (without (λ h. h.at) at hs) ≡ elements_of q hs
elements-kept at q [] other = refl
elements-kept at q (h ∷ hs) other = go (at == h.at) refl (h.at == q) refl (elements-kept at q hs other)
  where
    go : (a : Bool) → at == h.at ≡ a → (b : Bool) → h.at == q ≡ b
        → elements_of q (without (λ h. h.at) at hs) ≡ elements_of q hs
        → elements_of q (without (λ h. h.at) at (h ∷ hs)) ≡ elements_of q (h ∷ hs)
    go true same b is rest =
        let away : h.at == q ≡ false
        = ne_eqb h.at q (λ here. other (eqb-true at h.at same ∙ here)) in
        rw (same, away) refl
    go false differs true is rest = rw (differs, is) (ap (λ es. h.element ∷ es) rest)
    go false differs false is rest = rw (differs, is) rest

-- there is one where the job has one
pub some-elements : (at : ℕ) (hs : List Holding) → IsSome (oldest at hs) → 0 < length (elements_of at hs)
some-elements at [] some = absurd (cc)
some-elements at (h ∷ hs) some = go (h.at == at) refl (some-elements at hs)
  where
    go : (b : Bool) → h.at == at ≡ b → (IsSome (oldest at hs) → 0 < length (elements_of at hs))
        → 0 < length (elements_of at (h ∷ hs))
    go true same rest = rw same (omega arith)
    go false other rest = let later : IsSome (oldest at hs) = rw other at some in rw other (rest later)

-- what one job holds of a resource, among what all do
pub held-there : (holds : List (List Holding)) (at job : ℕ)
    → get_or (held_at holds at) job [] ≡ elements_of at (get_or holds job [])
held-there [] at job = refl
held-there (hs ∷ holds) at zero = refl
held-there (hs ∷ holds) at (suc job) = held-there holds at job

-- a write of what is there
pub set-same : {X : Type 0} (xs : List X) (i : ℕ) (d : X) → set xs i (get_or xs i d) ≡ xs
set-same [] i d = refl
set-same (x ∷ xs) zero d = refl
set-same (x ∷ xs) (suc i) d = ap (λ ys. x ∷ ys) (set-same xs i d)
