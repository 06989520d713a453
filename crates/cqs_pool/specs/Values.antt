-- The value slots of the elements: each element that carries a value has its own.
use Rattle.std.specs.Prelude.{◌≡◌, ℕ, Bool, true, false, Some}
use Rattle.cqs_pool_object.specs.declared.entries.PoolEntry.{PoolEntry}
use Rattle.cqs_rule_laws.specs.declared.view.View.{View}
use Rattle.cqs_rule_laws.specs.Slots.{laid_in}
use Rattle.cqs_rule_laws.specs.SlotSteps.{LaysValue, WasHandedBy}
use Rattle.cqs_pool.specs.Pool.{pool_object}

-- a value lies in the element's slot, and one was handed in for it before
abbrev pub IsFull : {E S : Type 0} → Bool → ℕ → View E S → Type 0
IsFull false e v = Unit {0}
IsFull true e v = LaysValue e v

-- and what it has laid there is handed in
abbrev pub GaveValue : {S : Type 0} → Bool → ℕ → View PoolEntry S → View PoolEntry S → Type 0
GaveValue false e v w = Unit {0}
GaveValue {S} true e v w = (value : S) → laid_in v.laid e ≡ Some (Some value)
    → WasHandedBy pool_object e value v w
