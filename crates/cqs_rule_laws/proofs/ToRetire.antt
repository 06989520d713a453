-- The segments that passes are to retire, where a view is set, cut in two or joined, and what a pass that looks at a
-- segment is to retire no more.
use Rattle.std.proofs.Common.{◌≡◌, ◌≢◌, ◌⊎◌, ℕ, zero, suc, ◌<◌, Bool, true, false, List, [], ◌∷◌, ◌++◌, length, set, sym, refl, ap, ◌∙◌, subst, ⊎_elim, inl, inr, arith, eqb, eq-eqb, eqb-true, Option, Some, None, slice_get}
use mathlib.Core.Option.{some, some-ne-none}
use mathlib.Core.Logic.{dite}
use native.Mathlib.Decide.{ℕ_discrete}
use lib.ListN.{get_elem?}
use Rattle.atomic_table.proofs.Lists.{set_else}
use Rattle.cqs_slots.specs.Slots.{Segments, IsHome, IsSegment}
use Rattle.cqs_slots.specs.Shown.{AreSound}
use Rattle.cqs_slots.proofs.Lists.{has_prefix}
use Rattle.cqs_rule_laws.specs.declared.view.View.{View}
use Rattle.cqs_rule_laws.specs.Lists.{Has, IsPrefix, without}
use Rattle.cqs_rule_laws.specs.Retiring.{HasRetirer, AreToLeave}
use Rattle.cqs_rule_laws.specs.Views.{IsSpent}
use Rattle.cqs_rule_laws.proofs.Lists.{set_there, one_there, has_left, has_right, without_has}

-- What a step that makes u of the segments t owes, of a pass that was to retire some segments and is to retire others
-- now: a segment that is to leave is out, or is one of those now; or it was to leave before, and stays so.
abbrev pub Leaves : Segments → Segments → List ℕ → List ℕ → Type 0
Leaves t u before after =
    (s : ℕ) → u.counted s ≡ 32 → s < u.tail
    → (Has s u.outs ⊎ Has s after)
    ⊎ ((t.counted s ≡ 32) × (s < t.tail) × (Has s before → Has s u.outs ⊎ Has s after))

-- it is to retire the same
pub leaves-turned : (t u : Segments) (segments : List ℕ) → t.counted ≡ u.counted → t.tail ≡ u.tail
    → Leaves t u segments segments
leaves-turned t u segments counted tail s all low = inr (ap (λ f. f s) counted ∙ all, omega arith, λ h. inr h)

pub leaves-same : (t : Segments) (segments : List ℕ) → Leaves t t segments segments
leaves-same t segments = leaves-turned t t segments refl refl

-- or the segment q no more, which is out or the last
pub leaves-without : (t u : Segments) (segments : List ℕ) (q : ℕ) → t.counted ≡ u.counted → t.tail ≡ u.tail
    → (q < u.tail → Has q u.outs) → Leaves t u segments (without q segments)
leaves-without t u segments q counted tail out s all low = dite (ℕ_discrete s q)
    (λ (e : s ≡ q). inl (inl (subst (λ z. Has z u.outs) (sym e) (out (subst (λ z. z < u.tail) e low)))))
    (λ (a : s ≢ q). inr (
      ap (λ f. f s) counted ∙ all,
      omega arith,
      λ h. inr (without_has s q segments a h),
    ))

-- it is to retire the segment q too, if so
abbrev pub too : Bool → ℕ → List ℕ → List ℕ
too true q segments = segments ++ q ∷ []
too false q segments = segments

pub too-has : (b : Bool) (q : ℕ) (segments : List ℕ) (s : ℕ) → Has s segments → Has s (too b q segments)
too-has true q segments s h = has_left s segments (q ∷ []) h
too-has false q segments s h = h

module _ {E S : Type 0} where
  -- who is to retire a segment stays so, where another view is set
  abbrev stays-retirer : (views : List (View E S)) (id : ℕ) (w : View E S) (s : ℕ) (r : HasRetirer views s)
      → r.place ≢ id → HasRetirer (set views id w) s
  stays-retirer views id w s r apart = record {
    place = r.place;
    view = r.view;
    there = set_else views id r.place w apart ∙ r.there;
    has = r.has;
  }

  -- a view is set
  pub leave-set : (t u : Segments) (views : List (View E S)) (id : ℕ) (v w : View E S)
      → get_elem? views id ≡ some v → IsPrefix t.outs u.outs → Leaves t u v.facts.to_retire w.facts.to_retire
      → AreToLeave t views → AreToLeave u (set views id w)
  leave-set t u views id v w here outs step old = record {
    leave = λ s all low. ⊎_elim
        (λ now. ⊎_elim inl (λ h. inr (mine s h)) now)
        (λ (was : (t.counted s ≡ 32) × (s < t.tail)
        × (Has s v.facts.to_retire → Has s u.outs ⊎ Has s w.facts.to_retire)).
        ⊎_elim (λ out. inl (has_prefix s t.outs u.outs outs out))
        (λ (r : HasRetirer views s). dite (ℕ_discrete r.place id)
        (λ (at : r.place ≡ id).
        let is : r.view ≡ v = one_there views id r.view v
        (subst (λ j. get_elem? views j ≡ some r.view) at r.there) here in
        ⊎_elim inl (λ h. inr (mine s h)) (was.2 (subst (λ (x : View E S). Has s x.facts.to_retire) is r.has)))
        (λ (apart : r.place ≢ id). inr (stays-retirer views id w s r apart)))
        (old.leave s was.0 was.1))
        (step s all low);
  }
    where
      mine : (s : ℕ) → Has s w.facts.to_retire → HasRetirer (set views id w) s
      mine s h = record { place = id; view = w; there = set_there views id v w here; has = h }

  -- a view that is to retire the same is set
  pub leave-kept : (t : Segments) (views : List (View E S)) (id : ℕ) (v w : View E S)
      → get_elem? views id ≡ some v → w.facts.to_retire ≡ v.facts.to_retire → AreToLeave t views
      → AreToLeave t (set views id w)
  leave-kept t views id v w here same old = leave-set t t views id v w here
      ([], sym (append-none t.outs))
      (λ s all low. inr (all, low, λ h. inr (subst (Has s) (sym same) h))) old
    where
      append-none : (l : List ℕ) → l ++ [] ≡ l
      append-none [] = refl
      append-none (x ∷ l) = ap (λ m. x ∷ m) (append-none l)

  -- one is set behind the others
  pub leave-more : (t : Segments) (views more : List (View E S)) → AreToLeave t views → AreToLeave t (views ++ more)
  leave-more t views more old = record {
    leave = λ s all low. ⊎_elim inl
        (λ (r : HasRetirer views s). inr record {
          place = r.place;
          view = r.view;
          there = still views r.place r.view r.there;
          has = r.has;
        })
        (old.leave s all low);
  }
    where
      still : (l : List (View E S)) (i : ℕ) (x : View E S) → get_elem? l i ≡ some x → get_elem? (l ++ more) i ≡ some x
      still [] i x e = absurd (some-ne-none x (sym e))
      still (y ∷ l) zero x e = e
      still (y ∷ l) (suc i) x e = still l i x e

  -- one view takes what another is to retire
  pub leave-joined : (t : Segments) (views : List (View E S)) (id other : ℕ) (v u w gone : View E S)
      → get_elem? views id ≡ some v → get_elem? views other ≡ some u → id ≢ other
      → w.facts.to_retire ≡ v.facts.to_retire ++ u.facts.to_retire
      → AreToLeave t views → AreToLeave t (set (set views id w) other gone)
  leave-joined t views id other v u w gone here there apart both old = record {
    leave = λ s all low. ⊎_elim inl
        (λ (r : HasRetirer views s). inr (dite (ℕ_discrete r.place id)
        (λ (at : r.place ≡ id).
        let is : r.view ≡ v = one_there views id r.view v
        (subst (λ j. get_elem? views j ≡ some r.view) at r.there) here in
        mine s (has_left s v.facts.to_retire u.facts.to_retire
        (subst (λ (x : View E S). Has s x.facts.to_retire) is r.has)))
        (λ (away : r.place ≢ id). dite (ℕ_discrete r.place other)
        (λ (at : r.place ≡ other).
        let is : r.view ≡ u = one_there views other r.view u
        (subst (λ j. get_elem? views j ≡ some r.view) at r.there) there in
        mine s (has_right s v.facts.to_retire u.facts.to_retire
        (subst (λ (x : View E S). Has s x.facts.to_retire) is r.has)))
        (λ (else : r.place ≢ other).
        stays-retirer (set views id w) other gone s (stays-retirer views id w s r away) else))))
        (old.leave s all low);
  }
    where
      mine : (s : ℕ) → Has s (v.facts.to_retire ++ u.facts.to_retire) → HasRetirer (set (set views id w) other gone) s
      mine s h = record {
        place = id;
        view = w;
        there = set_else (set views id w) other id gone apart ∙ set_there views id v w here;
        has = subst (Has s) (sym both) h;
      }

  -- In other words: a segment that stands and whose cells are all counted is the last, or a pass is to retire it.
  pub standing-leave : (n : ℕ) (t : Segments) (views : List (View E S)) (x s : ℕ) → AreSound n t → x < n
      → AreToLeave t views → IsSegment (t.slots x) s → t.counted s ≡ 32 → s ≢ t.tail → HasRetirer views s
  standing-leave n t views x s sound inside old stands all apart =
      let home = (sound.each x inside).home s stands in
      let below = home-below t.homes s x home in
      let made = sound.made in
      ⊎_elim (λ out. absurd ((sound.each x inside).gone s stands out)) (λ r. r) (old.leave s all (omega arith))
    where
      home-below : (homes : List ℕ) (s x : ℕ) → IsHome homes s x → s < length homes
      home-below [] s x e = absurd (cc)
      home-below (y ∷ homes) zero x e = omega arith
      home-below (y ∷ homes) (suc s) x e = let below = home-below homes s x e in omega arith

  -- and that pass is live
  pub retirer-live : (views : List (View E S)) (s : ℕ) (r : HasRetirer views s) → (r.view.weight ≡ 0 → IsSpent r.view)
      → r.view.weight ≡ 0 → ⊥
  retirer-live views s r spent none = subst (Has s) (spent none).retireless r.has

-- Those of these segments whose home the slot x wasn't.
abbrev drops : Bool → ℕ → List ℕ → List ℕ
drops true q rest = rest
drops false q rest = q ∷ rest

abbrev is-slot : Option ℕ → ℕ → Bool
is-slot None x = false
is-slot (Some y) x = eqb y x

from-slot : (o : Option ℕ) (x : ℕ) → is-slot o x ≡ true → o ≡ Some x
from-slot None x e = absurd (cc)
from-slot (Some y) x e = ap Some (eqb-true y x e)

drops-has : (b : Bool) (q : ℕ) (rest : List ℕ) (s : ℕ) → Has s rest → Has s (drops b q rest)
drops-has true q rest s h = h
drops-has false q rest s h = inr h

drops-fewer : (b : Bool) (q : ℕ) (rest segments : List ℕ) (s : ℕ) → (Has s rest → Has s segments)
    → Has s (drops b q rest) → Has s (q ∷ segments)
drops-fewer true q rest segments s fewer h = inr (fewer h)
drops-fewer false q rest segments s fewer (inl e) = inl e
drops-fewer false q rest segments s fewer (inr h) = inr (fewer h)

drops-none : (b : Bool) (q : ℕ) (rest : List ℕ) (s : ℕ) → (s ≡ q → b ≡ true) → (Has s rest → ⊥)
    → Has s (drops b q rest) → ⊥
drops-none true q rest s this none h = none h
drops-none false q rest s this none (inl e) = let both : false ≡ true = this e in absurd (cc)
drops-none false q rest s this none (inr h) = none h

drops-this : (b : Bool) (homes : List ℕ) (x q : ℕ) (rest : List ℕ) (s : ℕ) → is-slot (slice_get homes q) x ≡ b → s ≡ q
    → Has s (drops b q rest) ⊎ IsHome homes s x
drops-this true homes x q rest s is e =
    inr (subst (λ z. IsHome homes z x) (sym e) (from-slot (slice_get homes q) x is))
drops-this false homes x q rest s is e = inl (inl e)

abbrev pub else-where : List ℕ → ℕ → List ℕ → List ℕ
else-where homes x [] = []
else-where homes x (q ∷ segments) = drops (is-slot (slice_get homes q) x) q (else-where homes x segments)

pub else-fewer : (homes : List ℕ) (x : ℕ) (segments : List ℕ) (s : ℕ) → Has s (else-where homes x segments)
    → Has s segments
else-fewer homes x [] s h = h
else-fewer homes x (q ∷ segments) s h = drops-fewer (is-slot (slice_get homes q) x) q (else-where homes x segments)
    segments s (else-fewer homes x segments s) h

pub else-none : (homes : List ℕ) (x : ℕ) (segments : List ℕ) (s : ℕ) → IsHome homes s x
    → Has s (else-where homes x segments) → ⊥
else-none homes x [] s home h = h
else-none homes x (q ∷ segments) s home h = drops-none (is-slot (slice_get homes q) x) q (else-where homes x segments) s
    (λ e. ap (λ o. is-slot o x) (ap (slice_get homes) (sym e) ∙ home) ∙ eq-eqb x x refl)
    (else-none homes x segments s home) h

pub else-still : (homes : List ℕ) (x : ℕ) (segments : List ℕ) (s : ℕ) → Has s segments
    → Has s (else-where homes x segments) ⊎ IsHome homes s x
else-still homes x [] s h = absurd h
else-still homes x (q ∷ segments) s (inl e) =
    drops-this (is-slot (slice_get homes q) x) homes x q (else-where homes x segments) s refl e
else-still homes x (q ∷ segments) s (inr h) = ⊎_elim
    (λ m. inl (drops-has (is-slot (slice_get homes q) x) q (else-where homes x segments) s m))
    inr (else-still homes x segments s h)
