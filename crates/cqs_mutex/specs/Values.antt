-- How the value of a mutex moves between its slot and a guard.
use Rattle.std.specs.Prelude.{◌≡◌, ◌⊎◌, ℕ, List, ◌∷◌, ◌++◌, Some, None}
use Rattle.cqs_core.specs.declared.entries.Entry.{Entry}
use Rattle.cqs_rule_laws.specs.declared.carries.Kept.{Kept}
use Rattle.cqs_rule_laws.specs.declared.view.View.{View}
use Rattle.cqs_rule_laws.specs.Given.{IsLastGiven, times_given}
use Rattle.cqs_rule_laws.specs.Lists.{IsPrefix}
use Rattle.cqs_rule_laws.specs.Slots.{handed_in}
use Rattle.cqs_rule_laws.specs.SlotSteps.{Swapped}
use Rattle.cqs_semaphore_client.specs.Semaphore.{slot_given}

-- a value as it lies in the slot
abbrev pub in_slot : {T : Type 0} → T → Kept T
in_slot value = record { value = value }

module _ {T : Type 0} where
  -- The value is that of the last unlock in this history, or the opening one where there is none:
  -- of the values that were handed in, the one of that number.
  abbrev pub IsOfLastUnlock : T → List Entry → List (ℕ × Kept T) → Type 0
  IsOfLastUnlock value seen handed = IsLastGiven slot_given 0 (in_slot value) seen handed

  -- A guard got this value: it is the one that was handed in last, by the last unlock or at the
  -- opening. The pass has seen nothing else, and nothing lies in the slot now.
  pub record TookValue (value : T) (v w : View Entry (Kept T)) : Type 0 where
    pub handed : List (ℕ × Kept T)
    pub since : IsPrefix v.handed handed
    pub seen : IsPrefix handed w.handed
    pub last : handed_in handed 0 ≡ Some (in_slot value)
    pub unlocked : IsOfLastUnlock value w.seen w.handed
    pub swapped : Swapped ((0, None) ∷ v.laid) v w

  -- a guard laid its value into the slot
  abbrev pub LaidValue : T → View Entry (Kept T) → View Entry (Kept T) → Type 0
  LaidValue value v w = Swapped ((0, Some (in_slot value)) ∷ v.laid) v w

-- Of one history: the value of an unlock, and the one that a guard got after it, with no unlock
-- between, are one.
abbrev pub GuardsGetTheLastUnlocked : (T : Type 0) → Type 0
GuardsGetTheLastUnlocked T = (value other : T) (before since : List Entry)
    (handed all : List (ℕ × Kept T))
    → IsOfLastUnlock value before handed → IsOfLastUnlock other (before ++ since) all
    → times_given slot_given since 0 ≡ 0 → IsPrefix handed all ⊎ IsPrefix all handed
    → other ≡ value
