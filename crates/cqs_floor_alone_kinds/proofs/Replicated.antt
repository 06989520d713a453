-- All elements of a list of one element are that one.
use Rattle.std.proofs.Common.{◌≡◌, ℕ, zero, suc, Some, replicate, slice_get}

module _ {X : Type 0} where
  pub replicate-all : (n : ℕ) (x y : X) (i : ℕ) → slice_get (replicate n x) i ≡ Some y → y ≡ x
  replicate-all zero x y i got = absurd (cc)
  replicate-all (suc n) x y zero got = cc
  replicate-all (suc n) x y (suc i) got = replicate-all n x y i got
