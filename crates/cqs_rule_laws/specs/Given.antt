-- How the values that were handed in for a slot go with the entries that give the slot away: after
-- its first value there is one for each of them, in order.
use Rattle.std.specs.Prelude.{◌≡◌, ◌⊎◌, ℕ, ◌+◌, ◌-◌, ◌<◌, ◌==◌, List, [], ◌∷◌, length, slice_get, Option, Some, None, if◌then◌else◌}
use mathlib.Core.Option.{some}
use lib.ListN.{get_elem?}
use Rattle.cqs_rule_laws.specs.declared.view.Has.{Has}
use Rattle.cqs_rule_laws.specs.declared.view.View.{View}

-- the values that were handed in for the slot k, in order
abbrev pub values_for : {S : Type 0} → ℕ → List (ℕ × S) → List S
values_for k [] = []
values_for k (x ∷ xs) = if x.0 == k then x.1 ∷ values_for k xs else values_for k xs

-- one where this is the slot k, and else none
abbrev pub once_if : Option ℕ → ℕ → ℕ
once_if None k = 0
once_if (Some j) k = if j == k then 1 else 0

-- by which slot each entry gives away, if it gives one away
module _ {E : Type 0} (gives : E → Option ℕ) where
  -- how often these entries give the slot k away
  abbrev pub times_given : List E → ℕ → ℕ
  times_given [] k = 0
  times_given (x ∷ xs) k = once_if (gives x) k + times_given xs k

  -- The value is that which was handed in for the slot k by the last entry of this history that
  -- gives k away; or its first value, where none does. The values are counted with the entries.
  abbrev pub IsLastGiven : {S : Type 0} → ℕ → S → List E → List (ℕ × S) → Type 0
  IsLastGiven k value seen handed =
      slice_get (values_for k handed) (times_given seen k) ≡ Some value

  module _ {S : Type 0} where
    -- So many values were handed in for each slot as entries gave it away, beside its first one;
    -- and so many more ahead of the entries that are to follow.
    abbrev pub AreTied : ℕ → (ℕ → ℕ) → List E → List (ℕ × S) → Type 0
    AreTied slots ahead log handed = (k : ℕ) → k < slots
        → length (values_for k handed) - 1 ≡ times_given log k + ahead k

    -- A pass that may open a slot has seen each entry that gave it away; of two passes that are
    -- becoming one, one has.
    pub record IsAware (opens : Has → ℕ → Type 0) (slots : ℕ) (log : List E) (v : View E S)
        : Type 0 where
      pub mine : (k : ℕ) → k < slots → opens v.facts.has k
          → (times_given v.seen k ≡ times_given log k)
          ⊎ ((1 < v.weight) × (times_given v.other k ≡ times_given log k))
      pub second : 1 < v.weight → (k : ℕ) → k < slots → opens v.second.has k
          → times_given v.other k ≡ times_given log k

    abbrev pub AreAware : (Has → ℕ → Type 0) → ℕ → List E → List (View E S) → Type 0
    AreAware opens slots log views = (j : ℕ) (v : View E S) → get_elem? views j ≡ some v
        → 0 < v.weight → IsAware opens slots log v
