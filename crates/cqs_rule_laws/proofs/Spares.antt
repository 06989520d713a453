-- The spare slots, where a view is set, cut in two or joined.
use Rattle.std.proofs.Common.{◌≡◌, ◌≢◌, ◌⊎◌, ℕ, List, [], ◌∷◌, ◌++◌, length, set, sym, refl, ap, ◌∙◌, subst, ⊎_elim, inl, inr}
use mathlib.Core.Option.{some}
use lib.ListN.{get_elem?}
use Rattle.atomic_table.proofs.Lists.{at_set}
use Rattle.cqs_slots.specs.Slots.{Segments, spare}
use Rattle.cqs_rule_laws.specs.declared.view.Spare.{Spare}
use Rattle.cqs_rule_laws.specs.declared.view.View.{View}
use Rattle.cqs_rule_laws.specs.Lists.{Has, IsDistinct}
use Rattle.cqs_rule_laws.specs.Spares.{slots_of, IsSpare, AreSpare, SparesHold}
use Rattle.cqs_rule_laws.proofs.Lists.{has_append, has_left, has_right, set_all, at_end}

pub slots-append : (a b : List Spare) → slots_of (a ++ b) ≡ slots_of a ++ slots_of b
slots-append [] b = refl
slots-append (x ∷ xs) b = ap (λ l. x.slot ∷ l) (slots-append xs b)

pub are-append : (n : ℕ) (t : Segments) (a b : List Spare) → AreSpare n t a → AreSpare n t b → AreSpare n t (a ++ b)
are-append n t [] b p q = q
are-append n t (x ∷ xs) b p q = (p.0, are-append n t xs b p.1 q)

-- a spare slot that stays
pub are-else : (n : ℕ) (t u : Segments) (l : List Spare) → ((y : ℕ) → Has y (slots_of l) → u.slots y ≡ t.slots y)
    → AreSpare n t l → AreSpare n u l
are-else n t u [] stay p = tt
are-else n t u (x ∷ xs) stay p = (
  record { low = p.0.low; id = p.0.id; is = stay x.slot (inl refl) ∙ p.0.is; begun = p.0.begun },
  are-else n t u xs (λ y h. stay y (inr h)) p.1,
)

-- the slot of one of them is spare
pub is-spare : (n : ℕ) (t : Segments) (l : List Spare) (y : ℕ) → Has y (slots_of l) → AreSpare n t l
    → (i : ℕ) × (a : ℕ) × (d : ℕ) × (t.slots y ≡ spare i a d)
is-spare n t [] y h p = absurd h
is-spare n t (x ∷ xs) y h p = ⊎_elim
    (λ (e : y ≡ x.slot). (p.0.id, x.after, x.done, ap t.slots e ∙ p.0.is))
    (λ m. is-spare n t xs y m p.1) h

pub distinct-append : (a b : List ℕ) → IsDistinct a → IsDistinct b → ((y : ℕ) → Has y a → Has y b → ⊥)
    → IsDistinct (a ++ b)
distinct-append [] b p q apart = q
distinct-append (x ∷ xs) b p q apart = (
  λ h. ⊎_elim (λ m. p.0 m) (λ m. apart x (inl refl) m) (has_append x xs b h),
  distinct-append xs b p.1 q (λ y h m. apart y (inr h) m),
)

-- the last of them
pub are-last : (n : ℕ) (t : Segments) (a : List Spare) (x : Spare) → AreSpare n t (a ++ x ∷ [])
    → AreSpare n t a × IsSpare n t x
are-last n t [] x p = (tt, p.0)
are-last n t (y ∷ ys) x p = let q = are-last n t ys x p.1 in ((p.0, q.0), q.1)

pub distinct-left : (a b : List ℕ) → IsDistinct (a ++ b) → IsDistinct a
distinct-left [] b p = tt
distinct-left (x ∷ xs) b p = ((λ h. p.0 (has_left x xs b h)), distinct-left xs b p.1)

last-apart : (a : List ℕ) (y : ℕ) → IsDistinct (a ++ y ∷ []) → Has y a → ⊥
last-apart [] y p h = h
last-apart (x ∷ xs) y p h = ⊎_elim
    (λ (e : y ≡ x). p.0 (has_right x xs (y ∷ []) (inl (sym e))))
    (λ m. last-apart xs y p.1 m) h

pub distinct-last : (a : List Spare) (x : Spare) → IsDistinct (slots_of (a ++ x ∷ [])) → Has x.slot (slots_of a) → ⊥
distinct-last a x p = last-apart (slots_of a) x.slot (subst IsDistinct (slots-append a (x ∷ [])) p)

module _ {E S : Type 0} where
  -- the view w stands at id: its slots are those of the view there, or none that is spare
  pub spares-set : (n : ℕ) (t u : Segments) (views : List (View E S)) (id : ℕ) (v w : View E S)
      → get_elem? views id ≡ some v
      → AreSpare n u w.facts.spare_slots → IsDistinct (slots_of w.facts.spare_slots)
      → ((y : ℕ) → Has y (slots_of w.facts.spare_slots) → Has y (slots_of v.facts.spare_slots)
      ⊎ ((i a d : ℕ) → t.slots y ≡ spare i a d → ⊥))
      → ((y i a d : ℕ) → t.slots y ≡ spare i a d → (Has y (slots_of v.facts.spare_slots) → ⊥)
      → u.slots y ≡ t.slots y)
      → SparesHold n t views → SparesHold n u (set views id w)
  spares-set n t u views id v w here mine distinct claims stay old = record {
    are = set_all (λ j x. AreSpare n u x.facts.spare_slots) views id w mine
        (λ j x apart at. are-else n t u x.facts.spare_slots
        (λ y h. let s = is-spare n t x.facts.spare_slots y h (old.are j x at) in
        stay y s.0 s.1 s.2 s.3 (λ m. apart (old.apart j id x v y at here h m))) (old.are j x at));
    once = set_all (λ j x. IsDistinct (slots_of x.facts.spare_slots)) views id w distinct
        (λ j x apart at. old.once j x at);
    apart = λ i j x z y e f p q. by i j x z y (at_set views id i w x e) (at_set views id j w z f) p q;
  }
    where
      At : ℕ → View E S → Type 0
      At i x = ((i ≡ id) × (w ≡ x)) ⊎ ((i ≢ id) × (get_elem? views i ≡ some x))

      mixed : (j : ℕ) (z : View E S) (y : ℕ) → j ≢ id → get_elem? views j ≡ some z
          → Has y (slots_of w.facts.spare_slots) → Has y (slots_of z.facts.spare_slots) → ⊥
      mixed j z y apart at p q = ⊎_elim
          (λ m. apart (old.apart j id z v y at here q m))
          (λ none. let s = is-spare n t z.facts.spare_slots y q (old.are j z at) in none s.0 s.1 s.2 s.3)
          (claims y p)

      by : (i j : ℕ) (x z : View E S) (y : ℕ) → ((i ≡ id) × (w ≡ x)) ⊎ ((i ≢ id) × (get_elem? views i ≡ some x))
          → ((j ≡ id) × (w ≡ z)) ⊎ ((j ≢ id) × (get_elem? views j ≡ some z))
          → Has y (slots_of x.facts.spare_slots) → Has y (slots_of z.facts.spare_slots) → i ≡ j
      by i j x z y (inl e) (inl f) p q = e.0 ∙ sym f.0
      by i j x z y (inr e) (inr f) p q = old.apart i j x z y e.1 f.1 p q
      by i j x z y (inl e) (inr f) p q =
          absurd (mixed j z y f.0 f.1 (subst (λ (m : View E S). Has y (slots_of m.facts.spare_slots)) (sym e.1) p) q)
      by i j x z y (inr e) (inl f) p q =
          absurd (mixed i x y e.0 e.1 (subst (λ (m : View E S). Has y (slots_of m.facts.spare_slots)) (sym f.1) q) p)

  -- a view that keeps its slots is set
  pub spares-kept : (n : ℕ) (t u : Segments) (views : List (View E S)) (id : ℕ) (v w : View E S)
      → get_elem? views id ≡ some v → w.facts.spare_slots ≡ v.facts.spare_slots
      → ((y : ℕ) → u.slots y ≡ t.slots y) → SparesHold n t views → SparesHold n u (set views id w)
  spares-kept n t u views id v w here same stay old = spares-set n t u views id v w here
      (subst (AreSpare n u) (sym same) (are-else n t u v.facts.spare_slots (λ y h. stay y) (old.are id v here)))
      (subst (λ l. IsDistinct (slots_of l)) (sym same) (old.once id v here))
      (λ y h. inl (subst (λ l. Has y (slots_of l)) same h)) (λ y i a d is none. stay y) old

  -- a view without any is set behind the others
  pub spares-more : (n : ℕ) (t : Segments) (views : List (View E S)) (w : View E S) → w.facts.spare_slots ≡ []
      → SparesHold n t views → SparesHold n t (views ++ w ∷ [])
  spares-more n t views w none old = record {
    are = λ j x e. ⊎_elim (λ at. old.are j x at)
        (λ (q : (j ≡ length views) × (w ≡ x)). subst (AreSpare n t) (sym (bare q.1)) tt) (at_end views w x j e);
    once = λ j x e. ⊎_elim (λ at. old.once j x at)
        (λ (q : (j ≡ length views) × (w ≡ x)). subst (λ l. IsDistinct (slots_of l)) (sym (bare q.1)) tt)
        (at_end views w x j e);
    apart = λ i j x z y e f p q. ⊎_elim
        (λ at. ⊎_elim (λ at'. old.apart i j x z y at at' p q)
        (λ (m : (j ≡ length views) × (w ≡ z)). absurd (subst (λ l. Has y (slots_of l)) (bare m.1) q))
        (at_end views w z j f))
        (λ (m : (i ≡ length views) × (w ≡ x)). absurd (subst (λ l. Has y (slots_of l)) (bare m.1) p))
        (at_end views w x i e);
  }
    where
      bare : {x : View E S} → w ≡ x → x.facts.spare_slots ≡ []
      bare same = ap (λ (m : View E S). m.facts.spare_slots) (sym same) ∙ none

  -- whose a slot was: one of the two views', or another one's
  abbrev Owner : List (View E S) → ℕ → ℕ → View E S → View E S → ℕ → ℕ → Type 0
  Owner views id other v u i y =
      ((i ≡ id) × (Has y (slots_of v.facts.spare_slots) ⊎ Has y (slots_of u.facts.spare_slots)))
      ⊎ ((i ≢ id) × (i ≢ other) × (x : View E S) × (get_elem? views i ≡ some x) × Has y (slots_of x.facts.spare_slots))

  -- one view takes those of another, which has none then
  pub spares-joined : (n : ℕ) (t : Segments) (views : List (View E S)) (id other : ℕ) (v u w gone : View E S)
      → get_elem? views id ≡ some v → get_elem? views other ≡ some u → id ≢ other
      → w.facts.spare_slots ≡ v.facts.spare_slots ++ u.facts.spare_slots → gone.facts.spare_slots ≡ []
      → SparesHold n t views → SparesHold n t (set (set views id w) other gone)
  spares-joined n t views id other v u w gone here there differ both none old = record {
    are = set_all (λ j x. AreSpare n t x.facts.spare_slots) (set views id w) other gone
        (subst (AreSpare n t) (sym none) tt)
        (λ j x b e. set_all (λ i y. AreSpare n t y.facts.spare_slots) views id w
        (subst (AreSpare n t) (sym both) (are-append n t v.facts.spare_slots u.facts.spare_slots
        (old.are id v here) (old.are other u there))) (λ i y a at. old.are i y at) j x e);
    once = set_all (λ j x. IsDistinct (slots_of x.facts.spare_slots)) (set views id w) other gone
        (subst (λ l. IsDistinct (slots_of l)) (sym none) tt)
        (λ j x b e. set_all (λ i y. IsDistinct (slots_of y.facts.spare_slots)) views id w
        (subst (λ l. IsDistinct l) (sym (ap slots_of both ∙ slots-append v.facts.spare_slots u.facts.spare_slots))
        (distinct-append (slots_of v.facts.spare_slots) (slots_of u.facts.spare_slots) (old.once id v here)
        (old.once other u there) (λ y p q. differ (old.apart id other v u y here there p q))))
        (λ i y a at. old.once i y at) j x e);
    apart = λ i j x z y e f p q.
        from i j x z y (place i x y e p) (place j z y f q);
  }
    where
      place : (i : ℕ) (x : View E S) (y : ℕ) → get_elem? (set (set views id w) other gone) i ≡ some x
          → Has y (slots_of x.facts.spare_slots) → Owner views id other v u i y
      place i x y e p = ⊎_elim
          (λ (a : (i ≡ other) × (gone ≡ x)). absurd (subst (λ l. Has y (slots_of l))
          (ap (λ (m : View E S). m.facts.spare_slots) (sym a.1) ∙ none) p))
          (λ (a : (i ≢ other) × (get_elem? (set views id w) i ≡ some x)). ⊎_elim
          (λ (b : (i ≡ id) × (w ≡ x)).
          inl (
            b.0,
            has_append y (slots_of v.facts.spare_slots) (slots_of u.facts.spare_slots)
                (subst (Has y) (ap slots_of (ap (λ (m : View E S). m.facts.spare_slots) (sym b.1) ∙ both)
                ∙ slots-append v.facts.spare_slots u.facts.spare_slots) p),
          ))
          (λ (b : (i ≢ id) × (get_elem? views i ≡ some x)). inr (b.0, a.0, x, b.1, p))
          (at_set views id i w x a.1))
          (at_set (set views id w) other i gone x e)

      from : (i j : ℕ) (x z : View E S) (y : ℕ) → Owner views id other v u i y → Owner views id other v u j y → i ≡ j
      from i j x z y (inl a) (inl b) = a.0 ∙ sym b.0
      from i j x z y (inl a) (inr b) = absurd (⊎_elim
          (λ h. b.0 (old.apart j id b.2 v y b.3 here b.4 h))
          (λ h. b.1 (old.apart j other b.2 u y b.3 there b.4 h)) a.1)
      from i j x z y (inr a) (inl b) = absurd (⊎_elim
          (λ h. a.0 (old.apart i id a.2 v y a.3 here a.4 h))
          (λ h. a.1 (old.apart i other a.2 u y a.3 there a.4 h)) b.1)
      from i j x z y (inr a) (inr b) = old.apart i j a.2 b.2 y a.3 b.3 a.4 b.4
