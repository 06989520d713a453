-- A history of any plain object without the entries that change nothing: the object after it is the same, and it is
-- legal as well.
use Rattle.std.proofs.Common.{◌≡◌, ℕ, zero, suc, Bool, true, false, List, [], ◌∷◌, Some, take, slice_get, filter, refl, ap, sym, ◌∙◌, subst}
use Rattle.std.specs.List.{fold}
use Rattle.cqs_core.specs.Histories.{IsLegalFrom}

module _ {O E : Type 0} (allowed : O → E → Type 0) (after : O → E → O) (fresh : E → Bool)
    (idle : (o : O) (e : E) → fresh e ≡ false → after o e ≡ o) where
  pub fresh-object : (o : O) (es : List E) → fold after o (filter fresh es) ≡ fold after o es
  fresh-object o [] = refl
  fresh-object o (e ∷ es) = go (fresh e) refl (fresh-object (after o e) es) (fresh-object o es)
    where
      go : (b : Bool) → fresh e ≡ b
          → fold after (after o e) (filter fresh es) ≡ fold after (after o e) es
          → fold after o (filter fresh es) ≡ fold after o es
          → fold after o (filter fresh (e ∷ es)) ≡ fold after o (e ∷ es)
      go true new then here = rw new then
      go false old then here = rw old (here ∙ ap (λ x. fold after x es) (sym (idle o e old)))

  -- going along a legal history from its first entry on
  module _ (o : O) (e : E) (es : List E) where
    legal-head : IsLegalFrom allowed after o (e ∷ es) → allowed o e
    legal-head legal = legal.at zero e refl

    legal-tail : IsLegalFrom allowed after o (e ∷ es) → IsLegalFrom allowed after (after o e) es
    legal-tail legal = record { at = λ n d got. legal.at (suc n) d got }

    legal-cons : allowed o e → IsLegalFrom allowed after (after o e) es → IsLegalFrom allowed after o (e ∷ es)
    legal-cons may legal = record { at = go }
      where
        go : (n : ℕ) (d : E) → slice_get (e ∷ es) n ≡ Some d → allowed (fold after o (take n (e ∷ es))) d
        go zero d got = let same : e ≡ d = cc in subst (λ x. allowed o x) same may
        go (suc n) d got = legal.at n d got

  pub fresh-legal : (o : O) (es : List E) → IsLegalFrom allowed after o es
      → IsLegalFrom allowed after o (filter fresh es)
  fresh-legal o [] legal = legal
  fresh-legal o (e ∷ es) legal =
      go (fresh e) refl (fresh-legal (after o e) es (legal-tail o e es legal))
    where
      go : (b : Bool) → fresh e ≡ b → IsLegalFrom allowed after (after o e) (filter fresh es)
          → IsLegalFrom allowed after o (filter fresh (e ∷ es))
      go true new then = rw new (legal-cons o e (filter fresh es) (legal-head o e es legal) then)
      go false old then =
          rw old (subst (λ x. IsLegalFrom allowed after x (filter fresh es)) (idle o e old) then)
