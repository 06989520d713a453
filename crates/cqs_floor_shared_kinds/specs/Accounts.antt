-- How much some callers have of a history: what its entries count, summed over those that name
-- them.
use Rattle.std.specs.Prelude.{◌≡◌, ℕ, ◌==◌, Bool, List, sum_by, ◌⊎◌}
use Rattle.cqs_core.specs.Parts.{part}

module _ {E : Type 0} (names : ℕ → E → Bool) where
  abbrev pub over : (E → ℕ) → List ℕ → List E → ℕ
  over f own h = sum_by (λ n. sum_by f (part names n h)) own

  -- what counts names just one caller
  abbrev pub NamesOne : (E → ℕ) → Type 0
  NamesOne f = (e : E) → (f e ≡ 0) ⊎ ((c : ℕ) × ((n : ℕ) → names n e ≡ (c == n)))
