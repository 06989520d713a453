-- Each step keeps the rule of the marks.
use Rattle.std.proofs.Common.{◌≡◌, ◌≢◌, ℕ, zero, suc, ⊎_elim, ◌+◌, ◌*◌, ◌<◌, eqb, List, [], ◌∷◌, Option, length, set, get_or, slice_index, sym, refl, ap, ◌∙◌, subst, arith, length-set, get_or-set_same, get_or-set_other, replicate, map, None}
use mathlib.Core.Logic.{dite}
use mathlib.Core.Option as maybe
use mathlib.Core.Option.{some, none, some-injective, some-ne-none}
use Rattle.std.proofs.lemmas.List.{length-map, length-replicate}
use native.Mathlib.Decide.{ℕ_discrete}
use lib.ListN.{get_elem?}
use prog.Atomic.{either}
use Rattle.atomic_table.specs.Table.{step, Act, keeps, takes, gives, Valid, Allows, Enters, stepped, carried_after, opening}
use Rattle.atomic_table.proofs.Lists.{exchanged, set_here, set_else, set_again, at_snoc}
use Rattle.cqs_c_numbers.specs.declared.primitive.Primitive.{Primitive}
use Rattle.cqs_c_numbers.specs.declared.caller.Caller.{Caller}
use Rattle.cqs_c_numbers.specs.Marks.{word_of, Suits, Table, Marks, Seated, StaysSeated, HasClaimed, HasLaid}

same_set : (l : List ℕ) (i : ℕ) → set l i (slice_index l i) ≡ l
same_set [] i = refl
same_set (x ∷ xs) zero = refl
same_set (x ∷ xs) (suc i) = ap (λ l. x ∷ l) (same_set xs i)

-- one mark is set, and its slot with it
after : (s : Primitive) (t : Table) (i m : ℕ) (y : maybe.Option (Option Caller)) (views : List Primitive) → Marks s t
    → i < length t.homes
    → (m ≢ 1 → (lying : Option Caller) × (y ≡ some lying) × Suits s i m lying)
    → ((j : ℕ) (v : Primitive) → get_elem? views j ≡ some v → v ≡ s)
    → Marks s (record { words = set t.words (word_of i) m; homes = set t.homes i y; views = views })
after s t i m y views h low here same = record {
  homes = λ j below not. dite (ℕ_discrete j i)
      (λ (q : j ≡ i). subst (λ k. slice_index words (word_of k) ≢ 1 → At k) (sym q) there not)
      (λ (apart : j ≢ i).
      let other : word_of j ≢ word_of i = λ q. apart (omega arith) in
      let mark : slice_index words (word_of j) ≡ slice_index t.words (word_of j) =
      get_or-set_other t.words (word_of i) (word_of j) m 0 other in
      let low' : j < length t.homes = subst (λ n. j < n) (length-set t.homes i y) below in
      let old = h.homes j low' (λ q. not (mark ∙ q)) in
      (old.0, set_else t.homes i j y apart ∙ old.1, subst (λ k. Suits s j k old.0) (sym mark) old.2));
  places = λ j below.
      subst (λ n. word_of j < n) (sym (length-set t.words (word_of i) m))
      (h.places j (subst (λ n. j < n) (length-set t.homes i y) below));
  views = same;
}
  where
    words : List ℕ
    words = set t.words (word_of i) m

    At : ℕ → Type 0
    At k = (lying : Option Caller) × (get_elem? (set t.homes i y) k ≡ some (some lying))
        × Suits s k (slice_index words (word_of k)) lying

    there : slice_index words (word_of i) ≢ 1 → At i
    there not =
        let is : slice_index words (word_of i) ≡ m = get_or-set_same t.words (word_of i) m 0 (h.places i low) in
        let t' = here (λ q. not (is ∙ q)) in
        (t'.0, set_here t.homes i y low ∙ ap some t'.1, subst (λ k. Suits s i k t'.0) (sym is) t'.2)

-- what those know who look at the table, after one of them made a step
abbrev Known : Primitive → List Primitive → Type 0
Known s views = (j : ℕ) (v : Primitive) → get_elem? views j ≡ some v → v ≡ s

pub sits : (s : Primitive) (slots : ℕ)
    → Enters (Marks s) slots 0 (λ n w. StaysSeated (step slots 0 0 0 none) (s, []) n (w, []))
sits s slots t h long fits = (
  s,
  record {
    homes = h.homes;
    places = h.places;
    views = λ j v at. ⊎_elim (λ old. h.views j v old) (λ new. sym new) (at_snoc t.views s v j at);
  },
  refl,
)

pub claims : (s : Primitive) (slots id : ℕ) (me : Seated) (i from : ℕ) → i < slots → from ≢ 1
    → Allows (Marks s) slots id me (word_of i) (λ n. either (eqb n from) 1 n)
    (HasClaimed (step slots (word_of i) from 1 none) me)
claims s slots id me i from below from-not t h long seen fits =
    let n : ℕ = slice_index t.words (word_of i) in
    let low : i < length t.homes = omega (arith, below, long) in
    let views : Known s (set t.views id me.0) = subst (Known s) (sym (set_again t.views id me.0 seen)) h.views in
    exchanged n from 1
    (λ m. (w : Primitive) × (a : Act (Option Caller)) × Valid t.homes me.1 a
    × Marks s (stepped t (word_of i) m id me.1 w a)
    × HasClaimed (step slots (word_of i) from 1 none) me n (w, carried_after me.1 a))
    (λ hit.
    let found = h.homes i low (λ q. from-not (sym hit ∙ q)) in
    let suits : Suits me.0 i from found.0 =
    subst (λ (p : Primitive × ℕ). Suits p.0 i p.1 found.0) (λ k. (sym (h.views id me.0 seen) k, hit k)) found.2 in (
      me.0,
      takes i found.0,
      found.1,
      after s t i 1 none _ h low (λ q. absurd (q refl)) views,
      (
        refl,
        (λ _ j at.
            subst (λ k. (lying : Option Caller) × ((i, found.0) ∷ me.1 ≡ (k, lying) ∷ me.1) × Suits me.0 k from lying)
            (let e : word_of i ≡ word_of j = at in omega (arith, e)) (found.0, refl, suits)),
        λ ne. absurd (ne hit),
      ),
    ))
    (λ miss. (
      me.0,
      keeps,
      tt,
      subst (λ (p : List ℕ × List Primitive). Marks s (record { words = p.0; homes = t.homes; views = p.1 }))
          (λ k. (sym (same_set t.words (word_of i)) k, sym (set_again t.views id me.0 seen) k)) h,
      (refl, (λ hit. absurd (miss hit)), λ _. refl),
    ))

pub lays : (s : Primitive) (slots id : ℕ) (me : Seated) (i m : ℕ) (lying : Option Caller) → i < slots
    → me.1 ≡ (i, lying) ∷ [] → Suits s i m lying
    → Allows (Marks s) slots id me (word_of i) (λ _. m) (λ _. HasLaid (step slots (word_of i) m 0 none) me m)
lays s slots id me i m lying below has suits t h long seen fits =
    let low : i < length t.homes = omega (arith, below, long) in
    let views : Known s (set t.views id me.0) = subst (Known s) (sym (set_again t.views id me.0 seen)) h.views in (
      me.0,
      gives,
      tt,
      subst (λ (c : List (ℕ × Option Caller)). Marks s (stepped t (word_of i) m id c me.0 gives)) (sym has)
          (after s t i m (some lying) _ h low (λ _. (lying, refl, suits)) views),
      (refl, refl),
    )

module _ {A : Type 0} where
  lying_in : A → List (ℕ × A) → A
  lying_in d [] = d
  lying_in d (x ∷ xs) = x.1

  -- what lies in the slot that comes first
  pub one_lying : (l xs ys : List (ℕ × A)) (i j : ℕ) (a b : A) → l ≡ (i, a) ∷ xs → l ≡ (j, b) ∷ ys → a ≡ b
  unfolding lying_in
  one_lying l xs ys i j a b p q = ap (lying_in a) (sym p ∙ q)

-- a table in which nobody has a number
at_two : (n k w : ℕ) → k < n → get_or (replicate n 2) k w ≡ 2
at_two zero k w low = absurd (omega arith)
at_two (suc n) zero w low = refl
at_two (suc n) (suc k) w low = at_two n k w (omega arith)

abbrev nothing : Option Caller
nothing = None

none_there : (n i : ℕ) → i < n
    → get_elem? (map some (replicate n nothing)) i ≡ some (some nothing)
none_there zero i low = absurd (omega arith)
none_there (suc n) zero low = refl
none_there (suc n) (suc i) low = none_there n i (omega arith)

pub opens : (s : Primitive) (n : ℕ) (words : List ℕ) → words ≡ replicate (16 * n + 16) 2
    → Marks s (opening words (replicate n None) s)
opens s n words are = record {
  homes = λ i below not.
      let low : i < n = subst (λ k. i < k) (length-map _ _ ∙ length-replicate n nothing) below in
      let in' : word_of i < 16 * n + 16 = omega (arith, low) in
      let mark : slice_index words (word_of i) ≡ 2 =
      ap (λ l. slice_index l (word_of i)) are ∙ at_two (16 * n + 16) (word_of i) 0 in' in
      (None, none_there n i low, record { rests = λ z. absurd (zero_two _ z mark); nobody = λ _. refl });
  places = λ i below.
      let low : i < n = subst (λ k. i < k) (length-map _ _ ∙ length-replicate n nothing) below in
      let long : length words ≡ 16 * n + 16 = ap length are ∙ length-replicate (16 * n + 16) 2 in
      omega (arith, low, long);
  views = λ j v at. only_there j v at;
}
  where
    zero_two : (k : ℕ) → k ≡ 0 → k ≡ 2 → ⊥
    zero_two k z e = omega arith

    only_there : (j : ℕ) (v : Primitive) → get_elem? (s ∷ []) j ≡ some v → v ≡ s
    only_there zero v at = sym (some-injective s v at)
    only_there (suc j) v at = absurd (some-ne-none v (sym at))
