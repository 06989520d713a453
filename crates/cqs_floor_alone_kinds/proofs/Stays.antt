-- What stays in a list when another element is left out, placed or changed.
use Rattle.std.proofs.Common.{◌≡◌, ◌≢◌, ◌⊎◌, inl, inr, ℕ, zero, suc, ◌==◌, nat_lt, Bool, true, false, List, [], ◌∷◌, ◌++◌, Some, refl, ap, sym, ◌∙◌, eqb-true}
use Rattle.cqs_core.specs.Keyed.{insert_by, without, change_by}
use Rattle.cqs_core.specs.Numbered.{IsIn}
use Rattle.cqs_core.proofs.Places.{get-append_left}
use Rattle.cqs_core.proofs.Rising.{in-behind, in-none}

module _ {Y : Type 0} where
  pub in-head : (x y : Y) (ys : List Y) → x ≡ y → IsIn x (y ∷ ys)
  in-head x y ys same = record { place = zero; there = ap Some (sym same) }

  pub in-tail : (x y : Y) (ys : List Y) → IsIn x ys → IsIn x (y ∷ ys)
  in-tail x y ys later = record { place = suc later.place; there = later.there }

  pub stays-append : (x : Y) (ys zs : List Y) → IsIn x ys → IsIn x (ys ++ zs)
  stays-append x ys zs stands =
      record { place = stands.place; there = get-append_left ys zs stands.place x stands.there }

  pub comes-last : (x : Y) (ys : List Y) → IsIn x (ys ++ x ∷ [])
  comes-last x [] = in-head x x [] refl
  comes-last x (y ∷ ys) = in-tail x y (ys ++ x ∷ []) (comes-last x ys)

  module _ (key : Y → ℕ) where
    pub stays-without : (x : Y) (n : ℕ) (ys : List Y) → key x ≢ n → IsIn x ys → IsIn x (without key n ys)
    stays-without x n [] other stands = absurd (in-none x stands)
    stays-without x n (y ∷ ys) other stands =
        go (n == key y) refl (stays-without x n ys other) (in-behind x y ys stands)
      where
        go : (b : Bool) → n == key y ≡ b → (IsIn x ys → IsIn x (without key n ys)) → (x ≡ y) ⊎ IsIn x ys
            → IsIn x (without key n (y ∷ ys))
        go true here later (inl same) = absurd (other (ap key same ∙ sym (eqb-true n (key y) here)))
        go true here later (inr behind) = rw here behind
        go false differs later (inl same) = rw differs (in-head x y (without key n ys) same)
        go false differs later (inr behind) = rw differs (in-tail x y (without key n ys) (later behind))

    pub stays-placed : (x y : Y) (ys : List Y) → IsIn x ys → IsIn x (insert_by key y ys)
    stays-placed x y [] stands = absurd (in-none x stands)
    stays-placed x y (z ∷ ys) stands = go (nat_lt (key y) (key z)) refl (stays-placed x y ys) (in-behind x z ys stands)
      where
        go : (b : Bool) → nat_lt (key y) (key z) ≡ b → (IsIn x ys → IsIn x (insert_by key y ys)) → (x ≡ z) ⊎ IsIn x ys
            → IsIn x (insert_by key y (z ∷ ys))
        go true before later is = rw before (in-tail x y (z ∷ ys) stands)
        go false after later (inl same) = rw after (in-head x z (insert_by key y ys) same)
        go false after later (inr behind) = rw after (in-tail x z (insert_by key y ys) (later behind))

    pub comes-placed : (x : Y) (ys : List Y) → IsIn x (insert_by key x ys)
    comes-placed x [] = in-head x x [] refl
    comes-placed x (y ∷ ys) = go (nat_lt (key x) (key y)) refl (comes-placed x ys)
      where
        go : (b : Bool) → nat_lt (key x) (key y) ≡ b → IsIn x (insert_by key x ys) → IsIn x (insert_by key x (y ∷ ys))
        go true before later = rw before (in-head x x (y ∷ ys) refl)
        go false after later = rw after (in-tail x y (insert_by key x ys) later)

    pub stays-changed : (x : Y) (n : ℕ) (f : Y → Y) (ys : List Y) → key x ≢ n → IsIn x ys
        → IsIn x (change_by key n f ys)
    stays-changed x n f [] other stands = absurd (in-none x stands)
    stays-changed x n f (y ∷ ys) other stands =
        go (n == key y) refl (stays-changed x n f ys other) (in-behind x y ys stands)
      where
        go : (b : Bool) → n == key y ≡ b → (IsIn x ys → IsIn x (change_by key n f ys)) → (x ≡ y) ⊎ IsIn x ys
            → IsIn x (change_by key n f (y ∷ ys))
        go true here later (inl same) = absurd (other (ap key same ∙ sym (eqb-true n (key y) here)))
        go true here later (inr behind) = rw here (in-tail x (f y) ys behind)
        go false differs later (inl same) = rw differs (in-head x y (change_by key n f ys) same)
        go false differs later (inr behind) = rw differs (in-tail x y (change_by key n f ys) (later behind))
