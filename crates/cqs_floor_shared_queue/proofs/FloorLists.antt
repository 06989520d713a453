-- Lists of what resources are kept as: what is read off each, and after one of them has made a call.
use Rattle.std.proofs.Common.{◌≡◌, ℕ, zero, suc, ◌+◌, Bool, List, [], ◌∷◌, Some, map, set, get_or, slice_get, refl, ap, sym, ◌∙◌}
use Rattle.std.specs.List.{count_by}
use Rattle.std.proofs.lemmas.List.Sums.{sum_by-set}
use Rattle.std.proofs.lemmas.Option.{get_or_from_slice_get}
use Rattle.cqs_core.proofs.Counts.{bit}
use Rattle.cqs_core.proofs.Places.{get-below}

module _ {X Y : Type 0} (f : X → Y) where
  pub get-mapped : (xs : List X) (i : ℕ) (x : X) → slice_get xs i ≡ Some x → slice_get (map f xs) i ≡ Some (f x)
  get-mapped [] i x got = absurd (cc)
  get-mapped (y ∷ ys) zero x got = let same : y ≡ x = cc in ap (λ z. Some (f z)) same
  get-mapped (y ∷ ys) (suc i) x got = get-mapped ys i x got

  pub index-mapped : (xs : List X) (i : ℕ) (x : X) (d : Y) → slice_get xs i ≡ Some x → get_or (map f xs) i d ≡ f x
  index-mapped [] i x d got = absurd (cc)
  index-mapped (y ∷ ys) zero x d got = let same : y ≡ x = cc in ap f same
  index-mapped (y ∷ ys) (suc i) x d got = index-mapped ys i x d got

  pub mapped-back : (xs : List X) (i : ℕ) (y : Y) → slice_get (map f xs) i ≡ Some y
      → (x : X) × (slice_get xs i ≡ Some x) × (f x ≡ y)
  mapped-back [] i y got = absurd (cc)
  mapped-back (x ∷ xs) zero y got = let same : f x ≡ y = cc in (x, refl, same)
  mapped-back (x ∷ xs) (suc i) y got = mapped-back xs i y got

  pub map-kept : (xs : List X) (i : ℕ) (x y : X) → slice_get xs i ≡ Some x → f y ≡ f x → map f (set xs i y) ≡ map f xs
  map-kept [] i x y got same = refl
  map-kept (z ∷ zs) zero x y got same =
      let is : z ≡ x = cc in ap (λ v. v ∷ map f zs) (same ∙ ap f (sym is))
  map-kept (z ∷ zs) (suc i) x y got same = ap (λ vs. f z ∷ vs) (map-kept zs i x y got same)

-- a count after a write
pub count-set : {X : Type 0} (p : X → Bool) (xs : List X) (i : ℕ) (old new : X) → slice_get xs i ≡ Some old
    → count_by p (set xs i new) + bit (p old) ≡ count_by p xs + bit (p new)
count-set p xs i old new was =
    rw (← get_or_from_slice_get xs i old new was)
    (sum_by-set (λ x. bit (p x)) xs i new new (get-below xs i old was))
