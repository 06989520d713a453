-- What follows for any kind of word from the one law that a packed word is unpacked to itself.
use Rattle.std.proofs.Common.{◌≡◌, ℕ, Option, Some, None, IfNone, sym, ap, ◌∙◌}
use Rattle.std.proofs.lemmas.Option.{same_Some, none-some}
use Rattle.cqs_words.specs.Packing.{IsPacking, IsNoPacking}

module _ {W : Type 0} (Fits : W → Type 0) (number_of : W → ℕ) (word_of : ℕ → Option W)
    (back : (w : W) → Fits w → word_of (number_of w) ≡ Some w) where
  -- a number that packs a word is unpacked to it
  pub word_of-packing : (n : ℕ) (w : W) → IsPacking Fits number_of n w → word_of n ≡ Some w
  word_of-packing n w packing = ap word_of (sym packing.number) ∙ back w packing.fits

  -- words with one number are one word
  pub number_of-injective : (v w : W) → Fits v → Fits w → number_of v ≡ number_of w → v ≡ w
  number_of-injective v w v_fits w_fits same =
      same_Some v w (sym (back v v_fits) ∙ ap word_of same ∙ back w w_fits)

  -- a number that is unpacked to nothing packs no word
  pub no_packing : (n : ℕ) (r : Option W) → r ≡ word_of n → IfNone r (IsNoPacking Fits number_of n)
  no_packing n None none = λ w packing. none-some w (none ∙ word_of-packing n w packing)
  no_packing n (Some w) some = tt
