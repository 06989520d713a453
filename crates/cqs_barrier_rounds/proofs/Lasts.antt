-- What is left of a list whose last elements were taken away.
use Rattle.std.proofs.Common.{◌≡◌, ℕ, ◌+◌, ◌<◌, List, [], ◌∷◌, ◌++◌, Some, length, slice_get, refl, sym, ap, ◌∙◌, arith}
use Rattle.std.proofs.lemmas.List.{length_push}
use Rattle.cqs_core.proofs.Places.{get-append_below, get-push_at}

module _ {P : Type 0} where
  -- the elements of the one are the first of the other
  pub record AreFirst (left xs : List P) : Type 0 where
    pub few : length left < length xs + 1
    pub same : (r : ℕ) → r < length left → slice_get left r ≡ slice_get xs r

  pub first-all : (xs : List P) → AreFirst xs xs
  first-all xs = record { few = omega arith; same = λ r low. refl }

  -- one element was taken away, which is the last of them
  pub first-fewer : (left fewer xs : List P) (x : P) → AreFirst left xs → left ≡ fewer ++ x ∷ [] → AreFirst fewer xs
  first-fewer left fewer xs x first parts =
      let long : length left ≡ length fewer + 1 = ap length parts ∙ length_push fewer x in
      let few = first.few in
      record {
        few = omega arith;
        same = λ r low.
            sym (get-append_below fewer (x ∷ []) r low)
            ∙ (ap (λ ys. slice_get ys r) (sym parts) ∙ first.same r (omega arith));
      }

  pub first-last : (left fewer xs : List P) (x : P) → AreFirst left xs → left ≡ fewer ++ x ∷ []
      → slice_get xs (length fewer) ≡ Some x
  first-last left fewer xs x first parts =
      let long : length left ≡ length fewer + 1 = ap length parts ∙ length_push fewer x in
      sym (first.same (length fewer) (omega arith))
      ∙ (ap (λ ys. slice_get ys (length fewer)) parts ∙ get-push_at fewer x (length fewer) refl)
