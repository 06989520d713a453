-- The value slot of a semaphore whose one permit carries a value.
use Rattle.std.specs.Prelude.{◌≡◌, Bool, true, false, Some}
use Rattle.cqs_core.specs.declared.entries.Entry.{Entry}
use Rattle.cqs_rule_laws.specs.declared.view.View.{View}
use Rattle.cqs_rule_laws.specs.Slots.{laid_in}
use Rattle.cqs_rule_laws.specs.SlotSteps.{LaysValue, HandedBy, WasHandedBy}
use Rattle.cqs_semaphore_client.specs.Semaphore.{semaphore_object}

-- the slot of the pass holds a value, where there is one, and one was handed in for it before
abbrev pub IsFull : {E S : Type 0} → Bool → View E S → Type 0
IsFull false v = Unit {0}
IsFull true v = LaysValue 0 v

-- and what lies there is handed in
abbrev pub GivesValue : {S : Type 0} → Bool → View Entry S → View Entry S → Type 0
GivesValue false v w = Unit {0}
GivesValue {S} true v w = (value : S) → laid_in v.laid 0 ≡ Some (Some value)
    → HandedBy semaphore_object 0 value v w

-- and maybe more after it
abbrev pub GaveValue : {S : Type 0} → Bool → View Entry S → View Entry S → Type 0
GaveValue false v w = Unit {0}
GaveValue {S} true v w = (value : S) → laid_in v.laid 0 ≡ Some (Some value)
    → WasHandedBy semaphore_object 0 value v w
