-- What it means that a number is the packing of a word, for any kind of word.
use Rattle.std.specs.Prelude.{◌≡◌, ℕ}

-- the word fits its layout, and the number is how it is written there
pub record IsPacking {W : Type 0} (Fits : W → Type 0) (number_of : W → ℕ)
    (n : ℕ) (w : W) : Type 0 where
  pub fits : Fits w
  pub number : number_of w ≡ n

-- the number is the packing of no word
abbrev pub IsNoPacking : {W : Type 0} → (W → Type 0) → (W → ℕ) → ℕ → Type 0
IsNoPacking {W} Fits number_of n = (w : W) → ¬ IsPacking Fits number_of n w
