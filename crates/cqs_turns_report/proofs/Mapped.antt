-- What stands at a place of a list whose elements were all changed alike.
use Rattle.std.proofs.Common.{◌≡◌, ℕ, zero, suc, List, [], ◌∷◌, Some, map, slice_get, ap}

pub get-map : {X Y : Type 0} (h : X → Y) (xs : List X) (i : ℕ) (x : X) → slice_get xs i ≡ Some x
    → slice_get (map h xs) i ≡ Some (h x)
get-map h [] i x got = absurd (cc)
get-map h (y ∷ ys) zero x got = let same : y ≡ x = cc in ap (λ z. Some (h z)) same
get-map h (y ∷ ys) (suc i) x got = get-map h ys i x got
