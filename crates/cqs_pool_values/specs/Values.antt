-- How the value of an element moves between its slot and an item.
use Rattle.std.specs.Prelude.{◌≡◌, ◌⊎◌, ℕ, List, ◌∷◌, ◌++◌, Some, None}
use Rattle.cqs_pool_object.specs.declared.entries.PoolEntry.{PoolEntry}
use Rattle.cqs_rule_laws.specs.declared.carries.Kept.{Kept}
use Rattle.cqs_rule_laws.specs.declared.view.View.{View}
use Rattle.cqs_rule_laws.specs.Given.{IsLastGiven, times_given}
use Rattle.cqs_rule_laws.specs.Lists.{IsPrefix}
use Rattle.cqs_rule_laws.specs.Slots.{handed_in}
use Rattle.cqs_rule_laws.specs.SlotSteps.{Swapped}
use Rattle.cqs_pool.specs.Pool.{slot_given}

-- a value as it lies in a slot
abbrev pub in_slot : {T : Type 0} → T → Kept T
in_slot value = record { value = value }

module _ {T : Type 0} where
  -- The value is that of the last put of the element e in this history, or the opening one where
  -- there is none: of the values that were handed in for e, the one of that number.
  abbrev pub IsOfLastPut : ℕ → T → List PoolEntry → List (ℕ × Kept T) → Type 0
  IsOfLastPut e value seen handed = IsLastGiven slot_given e (in_slot value) seen handed

  -- An item of the element e got this value: it is the one that was handed in last for e, by the
  -- last put or at the opening. The pass has seen nothing else, and nothing lies in the slot now.
  pub record TookValue (e : ℕ) (value : T) (v w : View PoolEntry (Kept T)) : Type 0 where
    pub handed : List (ℕ × Kept T)
    pub since : IsPrefix v.handed handed
    pub seen : IsPrefix handed w.handed
    pub last : handed_in handed e ≡ Some (in_slot value)
    pub put : IsOfLastPut e value w.seen w.handed
    pub swapped : Swapped ((e, None) ∷ v.laid) v w

  -- an item laid its value into the slot
  abbrev pub LaidValue : ℕ → T → View PoolEntry (Kept T) → View PoolEntry (Kept T) → Type 0
  LaidValue e value v w = Swapped ((e, Some (in_slot value)) ∷ v.laid) v w

-- Of one history: the value of a put, and the one that an item of the same number got after it,
-- with no put of that number between, are one.
abbrev pub ItemsGetTheLastPut : (T : Type 0) → Type 0
ItemsGetTheLastPut T = (e : ℕ) (value other : T) (before since : List PoolEntry)
    (handed all : List (ℕ × Kept T))
    → IsOfLastPut e value before handed → IsOfLastPut e other (before ++ since) all
    → times_given slot_given since e ≡ 0 → IsPrefix handed all ⊎ IsPrefix all handed
    → other ≡ value
