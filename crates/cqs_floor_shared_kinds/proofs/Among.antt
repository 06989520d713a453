-- Which keys a list has, after an element was placed, changed, pushed or left out; and what a picked list has.
use Rattle.std.proofs.Common.{◌≡◌, ◌≢◌, ◌⊎◌, inl, inr, ℕ, suc, ◌+◌, ◌==◌, nat_lt, Bool, true, false, List, [], ◌∷◌, ◌++◌, Option, Some, None, slice_get, if◌then◌else◌, refl, sym, ◌∙◌, subst, arith, eqb-true}
use Rattle.std.proofs.lemmas.Bool.{cases_Bool}
use Rattle.cqs_core.specs.Keyed.{insert_by, without, change_by}
use Rattle.cqs_core.specs.Numbered.{cons_option, pick_each}
use Rattle.cqs_core.proofs.Picked.{IsKeyed}

module _ {Y : Type 0} (key : Y → ℕ) where
  -- an element has the key
  abbrev pub Among : ℕ → List Y → Type 0
  Among k [] = ⊥
  Among k (y ∷ ys) = (key y ≡ k) ⊎ Among k ys

  pub placed-among : (y : Y) (ys : List Y) → Among (key y) (insert_by key y ys)
  placed-among y [] = inl refl
  placed-among y (z ∷ zs) = go (nat_lt (key y) (key z)) (placed-among y zs)
    where
      go : (b : Bool) → Among (key y) (insert_by key y zs)
          → Among (key y) (if b then y ∷ z ∷ zs else z ∷ insert_by key y zs)
      go true rest = inl refl
      go false rest = inr rest

  pub among-placed : (k : ℕ) (y : Y) (ys : List Y) → Among k ys → Among k (insert_by key y ys)
  among-placed k y [] among = absurd among
  among-placed k y (z ∷ zs) among = go (nat_lt (key y) (key z)) among (among-placed k y zs)
    where
      go : (b : Bool) → Among k (z ∷ zs) → (Among k zs → Among k (insert_by key y zs))
          → Among k (if b then y ∷ z ∷ zs else z ∷ insert_by key y zs)
      go true here rest = inr here
      go false (inl is) rest = inl is
      go false (inr later) rest = inr (rest later)

  pub among-changed : (f : Y → Y) → ((y : Y) → key (f y) ≡ key y) → (k n : ℕ) (ys : List Y) → Among k ys
      → Among k (change_by key n f ys)
  among-changed f same k n [] among = absurd among
  among-changed f same k n (z ∷ zs) among = go (n == key z) among (among-changed f same k n zs)
    where
      go : (b : Bool) → Among k (z ∷ zs) → (Among k zs → Among k (change_by key n f zs))
          → Among k (if b then f z ∷ zs else z ∷ change_by key n f zs)
      go true (inl is) rest = inl (same z ∙ is)
      go true (inr later) rest = inr later
      go false (inl is) rest = inl is
      go false (inr later) rest = inr (rest later)

  pub among-without : (k n : ℕ) (ys : List Y) → n ≢ k → Among k ys → Among k (without key n ys)
  among-without k n [] other among = absurd among
  among-without k n (z ∷ zs) other among = go (cases_Bool (n == key z)) among (among-without k n zs other)
    where
      go : ((n == key z) ≡ true) ⊎ ((n == key z) ≡ false) → Among k (z ∷ zs)
          → (Among k zs → Among k (without key n zs)) → Among k (if n == key z then zs else z ∷ without key n zs)
      go (inl here) (inl is) rest = absurd (other (eqb-true n (key z) here ∙ is))
      go (inl here) (inr later) rest = rw here later
      go (inr not) (inl is) rest = rw not (inl is)
      go (inr not) (inr later) rest = rw not (inr (rest later))

  pub among-push : (k : ℕ) (y : Y) (ys : List Y) → Among k ys → Among k (ys ++ y ∷ [])
  among-push k y [] among = absurd among
  among-push k y (z ∷ zs) (inl is) = inl is
  among-push k y (z ∷ zs) (inr later) = inr (among-push k y zs later)

  pub pushed-among : (y : Y) (ys : List Y) → Among (key y) (ys ++ y ∷ [])
  pushed-among y [] = inl refl
  pushed-among y (z ∷ zs) = inr (pushed-among y zs)

-- what has the key k in a list that was picked, by number, was picked of the element of number k
pub record IsPickedOf {X Y : Type 0} (f : ℕ → X → Option Y) (k n : ℕ) (xs : List X) : Type 0 where
  pub place : ℕ
  pub at : k ≡ n + place
  pub x : X
  pub there : slice_get xs place ≡ Some x
  pub y : Y
  pub picks : f k x ≡ Some y

module _ {X Y : Type 0} (f : ℕ → X → Option Y) (key : Y → ℕ) (keyed : IsKeyed f key) (k : ℕ) where
  pub picked-of : (n : ℕ) (xs : List X) → Among key k (pick_each f n xs) → IsPickedOf f k n xs
  picked-of n [] among = absurd among
  picked-of n (x ∷ xs) among = go (f n x) refl among (picked-of (suc n) xs)
    where
      behind : IsPickedOf f k (suc n) xs → IsPickedOf f k n (x ∷ xs)
      behind p = record {
        place = suc p.place;
        at = omega (arith, p.at);
        x = p.x;
        there = p.there;
        y = p.y;
        picks = p.picks;
      }

      go : (o : Option Y) → f n x ≡ o → Among key k (cons_option o (pick_each f (suc n) xs))
          → (Among key k (pick_each f (suc n) xs) → IsPickedOf f k (suc n) xs) → IsPickedOf f k n (x ∷ xs)
      go None is later rest = behind (rest later)
      go (Some y) is (inl same) rest =
          let here : k ≡ n = sym same ∙ keyed.at n x y is in
          record {
            place = 0;
            at = omega (arith, here);
            x = x;
            there = refl;
            y = y;
            picks = subst (λ m. f m x ≡ Some y) (sym here) is;
          }
      go (Some y) is (inr later) rest = behind (rest later)
