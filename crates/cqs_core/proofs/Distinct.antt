-- Lists in which no key is there twice, and what placing and changing an element make of them.
use Rattle.std.proofs.Common.{◌≡◌, ◌≢◌, ◌⊎◌, inl, inr, ℕ, zero, suc, ◌==◌, nat_lt, Bool, true, false, List, [], ◌∷◌, Some, if◌then◌else◌, refl, ap, sym, ◌∙◌, eqb-true}
use Rattle.std.proofs.lemmas.Bool.{cases_Bool, eqb-false}
use Rattle.cqs_core.specs.Numbered.{IsIn}
use Rattle.cqs_core.specs.Keyed.{insert_by, without, change_by}
use Rattle.cqs_core.proofs.Rising.{in-behind, in-none, Lacks, lacks-in, lacks-placed, lacks-without}

module _ {Y : Type 0} (key : Y → ℕ) where
  pub lacks-from : (n : ℕ) (ys : List Y) → ((y : Y) → IsIn y ys → key y ≢ n) → Lacks key n ys
  lacks-from n [] none = tt
  lacks-from n (y ∷ ys) none = (
    none y (record { place = zero; there = refl }),
    lacks-from n ys (λ z stands. none z (record { place = suc stands.place; there = stands.there })),
  )

  -- no key is there twice
  abbrev pub AreDistinct : List Y → Type 0
  AreDistinct [] = Unit {0}
  AreDistinct (y ∷ ys) = Lacks key (key y) ys × AreDistinct ys

  pub distinct-placed : (y : Y) (ys : List Y) → Lacks key (key y) ys → AreDistinct ys
      → AreDistinct (insert_by key y ys)
  distinct-placed y [] lacks apart = (tt, tt)
  distinct-placed y (z ∷ zs) lacks apart = go (nat_lt (key y) (key z)) (distinct-placed y zs lacks.1 apart.1)
    where
      go : (b : Bool) → AreDistinct (insert_by key y zs)
          → AreDistinct (if b then y ∷ z ∷ zs else z ∷ insert_by key y zs)
      go true rest = (lacks, apart)
      go false rest = (lacks-placed key (key z) y zs (λ e. lacks.0 (sym e)) apart.0, rest)

  pub distinct-without : (n : ℕ) (ys : List Y) → AreDistinct ys → AreDistinct (without key n ys)
  distinct-without n [] apart = tt
  distinct-without n (z ∷ zs) apart = go (n == key z) (distinct-without n zs apart.1)
    where
      go : (b : Bool) → AreDistinct (without key n zs) → AreDistinct (if b then zs else z ∷ without key n zs)
      go true rest = apart.1
      go false rest = (lacks-without key (key z) n zs apart.0, rest)

  -- an element of the list with one more is that one, or was there
  pub in-placed : (x y : Y) (ys : List Y) → IsIn x (insert_by key y ys) → (x ≡ y) ⊎ IsIn x ys
  in-placed x y [] stands = in-behind x y [] stands
  in-placed x y (z ∷ zs) stands = go (nat_lt (key y) (key z)) (in-placed x y zs) stands
    where
      behind : IsIn x zs → IsIn x (z ∷ zs)
      behind later = record { place = suc later.place; there = later.there }

      go : (b : Bool) → (IsIn x (insert_by key y zs) → (x ≡ y) ⊎ IsIn x zs)
          → IsIn x (if b then y ∷ z ∷ zs else z ∷ insert_by key y zs) → (x ≡ y) ⊎ IsIn x (z ∷ zs)
      go true rest here = in-behind x y (z ∷ zs) here
      go false rest here = first (in-behind x z (insert_by key y zs) here)
        where
          first : (x ≡ z) ⊎ IsIn x (insert_by key y zs) → (x ≡ y) ⊎ IsIn x (z ∷ zs)
          first (inl same) = inr (record { place = zero; there = ap Some (sym same) })
          first (inr later) = second (rest later)
            where
              second : (x ≡ y) ⊎ IsIn x zs → (x ≡ y) ⊎ IsIn x (z ∷ zs)
              second (inl same) = inl same
              second (inr there) = inr (behind there)

  module _ (f : Y → Y) (same_key : (y : Y) → key (f y) ≡ key y) where
    pub lacks-changed : (n m : ℕ) (ys : List Y) → Lacks key n ys → Lacks key n (change_by key m f ys)
    lacks-changed n m [] lacks = tt
    lacks-changed n m (z ∷ zs) lacks = go (m == key z) (lacks-changed n m zs lacks.1)
      where
        go : (b : Bool) → Lacks key n (change_by key m f zs)
            → Lacks key n (if b then f z ∷ zs else z ∷ change_by key m f zs)
        go true rest = ((λ e. lacks.0 (sym (same_key z) ∙ e)), lacks.1)
        go false rest = (lacks.0, rest)

    pub distinct-changed : (n : ℕ) (ys : List Y) → AreDistinct ys → AreDistinct (change_by key n f ys)
    distinct-changed n [] apart = tt
    distinct-changed n (z ∷ zs) apart = go (n == key z) (distinct-changed n zs apart.1)
      where
        go : (b : Bool) → AreDistinct (change_by key n f zs)
            → AreDistinct (if b then f z ∷ zs else z ∷ change_by key n f zs)
        go true rest = (rw (same_key z) apart.0, apart.1)
        go false rest = (lacks-changed (key z) n zs apart.0, rest)

    -- an element of the changed list was there, or is what one that was there became
    pub record IsFrom (x : Y) (ys : List Y) : Type 0 where
      pub old : Y
      pub there : IsIn old ys
      pub is : (x ≡ old) ⊎ (x ≡ f old)

    pub from-later : (x z : Y) (zs : List Y) → IsFrom x zs → IsFrom x (z ∷ zs)
    from-later x z zs from =
        record {
          old = from.old;
          there = record { place = suc from.there.place; there = from.there.there };
          is = from.is;
        }

    pub in-changed : (n : ℕ) (x : Y) (ys : List Y) → IsIn x (change_by key n f ys) → IsFrom x ys
    in-changed n x [] stands = absurd (in-none x stands)
    in-changed n x (z ∷ zs) stands = go (n == key z) (in-changed n x zs) stands
      where
        first : (x ≡ z) ⊎ (x ≡ f z) → IsFrom x (z ∷ zs)
        first is = record { old = z; there = record { place = zero; there = refl }; is = is }

        kept : IsIn x zs → IsFrom x (z ∷ zs)
        kept later =
            record { old = x; there = record { place = suc later.place; there = later.there }; is = inl refl }

        go : (b : Bool) → (IsIn x (change_by key n f zs) → IsFrom x zs)
            → IsIn x (if b then f z ∷ zs else z ∷ change_by key n f zs) → IsFrom x (z ∷ zs)
        go true rest here = at (in-behind x (f z) zs here)
          where
            at : (x ≡ f z) ⊎ IsIn x zs → IsFrom x (z ∷ zs)
            at (inl same) = first (inr same)
            at (inr later) = kept later
        go false rest here = at (in-behind x z (change_by key n f zs) here)
          where
            at : (x ≡ z) ⊎ IsIn x (change_by key n f zs) → IsFrom x (z ∷ zs)
            at (inl same) = first (inl same)
            at (inr later) = from-later x z zs (rest later)

    -- an element with another key than the changed one was there
    pub in-changed_else : (n : ℕ) (x : Y) (ys : List Y) → key x ≢ n → IsIn x (change_by key n f ys) → IsIn x ys
    in-changed_else n x [] other stands = absurd (in-none x stands)
    in-changed_else n x (z ∷ zs) other stands =
        go (cases_Bool (n == key z)) (λ there. in-changed_else n x zs other there) stands
      where
        behind : IsIn x zs → IsIn x (z ∷ zs)
        behind later = record { place = suc later.place; there = later.there }

        at_same : n ≡ key z → (x ≡ f z) ⊎ IsIn x zs → IsIn x (z ∷ zs)
        at_same here (inl same) = absurd (other (ap key same ∙ same_key z ∙ sym here))
        at_same here (inr later) = behind later

        at_else : (IsIn x (change_by key n f zs) → IsIn x zs) → (x ≡ z) ⊎ IsIn x (change_by key n f zs)
            → IsIn x (z ∷ zs)
        at_else rest (inl same) = record { place = zero; there = ap Some (sym same) }
        at_else rest (inr later) = behind (rest later)

        go : ((n == key z) ≡ true) ⊎ ((n == key z) ≡ false) → (IsIn x (change_by key n f zs) → IsIn x zs)
            → IsIn x (change_by key n f (z ∷ zs)) → IsIn x (z ∷ zs)
        go (inl here) rest there =
            at_same (eqb-true n (key z) here) (in-behind x (f z) zs (rw here at there))
        go (inr away) rest there =
            at_else rest (in-behind x z (change_by key n f zs) (rw away at there))

    -- where no key is there twice, whatever has the key that was changed is what an element became
    pub changed-all : (n : ℕ) (x : Y) (ys : List Y) → AreDistinct ys → key x ≡ n → IsIn x (change_by key n f ys)
        → (y : Y) × (x ≡ f y)
    changed-all n x [] apart is stands = absurd (in-none x stands)
    changed-all n x (z ∷ zs) apart is stands =
        go (cases_Bool (n == key z)) (changed-all n x zs apart.1 is) stands
      where
        go : ((n == key z) ≡ true) ⊎ ((n == key z) ≡ false)
            → (IsIn x (change_by key n f zs) → (y : Y) × (x ≡ f y))
            → IsIn x (if n == key z then f z ∷ zs else z ∷ change_by key n f zs) → (y : Y) × (x ≡ f y)
        go (inl here) rest stands = at (in-behind x (f z) zs (rw here at stands))
          where
            at : (x ≡ f z) ⊎ IsIn x zs → (y : Y) × (x ≡ f y)
            at (inl same) = (z, same)
            at (inr later) =
                absurd (lacks-in key (key z) x zs (is ∙ eqb-true n (key z) here) later apart.0)
        go (inr other) rest stands = at (in-behind x z (change_by key n f zs) (rw other at stands))
          where
            at : (x ≡ z) ⊎ IsIn x (change_by key n f zs) → (y : Y) × (x ≡ f y)
            at (inl same) = absurd (eqb-false n (key z) other (sym is ∙ ap key same))
            at (inr later) = rest later
