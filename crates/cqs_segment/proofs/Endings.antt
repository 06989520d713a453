-- The last element of a list.
use Rattle.std.proofs.Common.{◌≡◌, ℕ, List, [], ◌∷◌, ◌++◌, sym, refl, ap, ◌∙◌}
use Rattle.cqs_rule_laws.specs.declared.view.Spare.{Spare}
use Rattle.cqs_rule_laws.specs.SegmentSteps.{reset_slot}
use Rattle.cqs_segment.specs.Walks.{but_last, EndsAt, EndsReset}

-- all but the last of a list that ends so
pub but-last : {A : Type 0} (l : List A) (x : A) → but_last (l ++ x ∷ []) ≡ l
but-last [] x = refl
but-last (y ∷ []) x = refl
but-last (y ∷ z ∷ l) x = ap (λ m. y ∷ m) (but-last (z ∷ l) x)

abbrev head_or : {A : Type 0} → A → List A → A
head_or d [] = d
head_or d (x ∷ xs) = x

abbrev rest_of : {A : Type 0} → List A → List A
rest_of [] = []
rest_of (x ∷ xs) = xs

pub last-same : {A : Type 0} (l : List A) (x y : A) → l ++ x ∷ [] ≡ l ++ y ∷ [] → x ≡ y
last-same [] x y e = ap (head_or x) e
last-same (z ∷ l) x y e = last-same l x y (ap rest_of e)

-- which spare is the last, and how far its reset has come
pub one-spare : (spares : List Spare) (x a d y b e : ℕ) → EndsReset spares x a d → EndsReset spares y b e
    → (x ≡ y) × (a ≡ b) × (d ≡ e)
one-spare spares x a d y b e p q =
    let same = last-same (but_last spares) (reset_slot x a d) (reset_slot y b e) (sym p ∙ q) in
    (ap (λ (s : Spare). s.slot) same, ap (λ (s : Spare). s.after) same, ap (λ (s : Spare). s.done) same)

pub one-duty : (duties : List ℕ) (s t : ℕ) → EndsAt duties s → EndsAt duties t → s ≡ t
one-duty duties s t p q = last-same (but_last duties) s t (sym p ∙ q)

-- a list of this form ends so
pub ends-reset : (before : List Spare) (x a d : ℕ) (spares : List Spare) → spares ≡ before ++ reset_slot x a d ∷ []
    → (but_last spares ≡ before) × EndsReset spares x a d
ends-reset before x a d spares e =
    let same : but_last spares ≡ before = ap but_last e ∙ but-last before (reset_slot x a d) in
    (same, e ∙ ap (λ l. l ++ reset_slot x a d ∷ []) (sym same))
