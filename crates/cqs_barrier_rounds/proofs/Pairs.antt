-- Two lists with as many elements, where a relation holds of those with the same number.
use Rattle.std.proofs.Common.{◌≡◌, ◌≢◌, ℕ, ◌+◌, ◌<◌, List, [], ◌∷◌, ◌++◌, Some, length, set, slice_get, sym, ap, ◌∙◌, arith}
use Rattle.std.proofs.lemmas.List.{length_push}
use Rattle.std.proofs.lemmas.Option.{same_Some}
use mathlib.Core.Logic.{dite}
use native.Mathlib.Decide.{ℕ_discrete}
use Rattle.cqs_core.proofs.Places.{get-set_here, get-set_else, get-below, get-append_below, get-push_at}

module _ {A B : Type 0} where
  -- none yet
  pub pairs-none : (R : A → B → Type 0) (xs : List A) (ys : List B) → xs ≡ []
      → (r : ℕ) (a : A) (b : B) → slice_get xs r ≡ Some a → slice_get ys r ≡ Some b → R a b
  pairs-none R xs ys none r a b got got' =
      let there = get-below xs r a got in
      absurd (omega (arith, ap length none))

  -- a relation of those below a number, where the next element of the second list was changed
  abbrev pub PairsBelow : (A → B → Type 0) → ℕ → List A → List B → Type 0
  PairsBelow R n xs ys =
      (r : ℕ) (a : A) (b : B) → r < n → slice_get xs r ≡ Some a → slice_get ys r ≡ Some b → R a b

  pub pairs-set : (R : A → B → Type 0) (n : ℕ) (xs : List A) (ys : List B) (x : A) (y z : B) → PairsBelow R n xs ys
      → slice_get xs n ≡ Some x → slice_get ys n ≡ Some y → R x z → PairsBelow R (n + 1) xs (set ys n z)
  pairs-set R n xs ys x y z below which there here r a b low got got' = dite (ℕ_discrete r n)
      (λ (e : r ≡ n).
      let one : a ≡ x = same_Some a x (sym got ∙ (ap (slice_get xs) e ∙ which)) in
      let two : b ≡ z = same_Some b z (sym got' ∙ (ap (slice_get (set ys n z)) e ∙ get-set_here ys n y z there)) in
      rw (one, two) here)
      (λ (other : r ≢ n).
      below r a b (omega arith) got (sym (get-set_else ys n r z (λ e. other (sym e))) ∙ got'))

  -- one more of each
  pub pairs-push : (R : A → B → Type 0) (xs : List A) (ys : List B) (x : A) (y : B) → length ys ≡ length xs
      → ((r : ℕ) (a : A) (b : B) → slice_get xs r ≡ Some a → slice_get ys r ≡ Some b → R a b) → R x y
      → (r : ℕ) (a : A) (b : B) → slice_get (xs ++ x ∷ []) r ≡ Some a → slice_get (ys ++ y ∷ []) r ≡ Some b
      → R a b
  pairs-push R xs ys x y many each here r a b got got' = dite (ℕ_discrete r (length xs))
      (λ (e : r ≡ length xs).
      let e' : r ≡ length ys = omega arith in
      let one : a ≡ x = same_Some a x (sym got ∙ get-push_at xs x r e) in
      let two : b ≡ y = same_Some b y (sym got' ∙ get-push_at ys y r e') in
      rw (one, two) here)
      (λ (other : r ≢ length xs).
      let high = get-below (xs ++ x ∷ []) r a got in
      let low : r < length xs = omega (arith, length_push xs x) in
      let low' : r < length ys = omega arith in
      each r a b (sym (get-append_below xs (x ∷ []) r low) ∙ got)
      (sym (get-append_below ys (y ∷ []) r low') ∙ got'))
