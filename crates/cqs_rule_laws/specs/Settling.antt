-- Which steps of the queue settle their cell, in both modes, and the segments of the cells that a
-- pass is to count.
use Rattle.std.specs.Prelude.{ℕ, ◌+◌, ◌/◌, ◌==◌, Bool, true, false, List, [], ◌∷◌, ◌++◌}
use Rattle.cqs_core.specs.QueueSteps.{CellRow}
use Rattle.cqs_slots.specs.Slots.{one_if, changed}
use Rattle.cqs_rule_laws.specs.Lists.{total}

-- whether a step at a cell settles it
abbrev pub settles_row : CellRow → Bool
settles_row row = row.settles

-- the segment of a cell that was settled is one of those that the pass is to count
abbrev pub duties_then : Bool → ℕ → List ℕ → List ℕ
duties_then false k duties = duties
duties_then true k duties = duties ++ (k / 32) ∷ []

-- which cells are settled after such a step at the number k
abbrev pub settled_then : Bool → (ℕ → Bool) → ℕ → ℕ → Bool
settled_then false settled k = settled
settled_then true settled k = changed settled k true

-- how often the segment is among these
abbrev pub times : ℕ → List ℕ → ℕ
times q [] = 0
times q (x ∷ xs) = one_if (x == q) + times q xs

module _ {V : Type 0} (duties : V → List ℕ) where
  -- in all views
  abbrev pub duties_in : List V → ℕ → ℕ
  duties_in views q = total (λ v. times q (duties v)) views
