-- What the reading of a part of a plan answers.
use Rattle.std.specs.Prelude.{◌≡◌, ℕ, ◌||◌, List, [], Option, Some, option_map, Result, Ok, Err, String, slice_get}
use Rattle.std.specs.Borrow.{Bor}
use Rattle.std.specs.BTreeSet.{BTreeSet, contains_text}
use Rattle.std.specs.Str.{bytes_eq}
use Rattle.std.specs.declared.alloc.Global.{Global}
use Rattle.toml.specs.Data.{Data}
use Rattle.toml.specs.View.{view}
use Rattle.toml.specs.declared.value.Value.{Value}
use Rattle.cqs_plan.specs.declared.plans.error.PlanError.{PlanError}
use Rattle.cqs_plan.specs.declared.plans.error.PlanError.TheVariants as stop
use Rattle.cqs_plan_reader.specs.FaultRules.{Fault}

-- the error names the first of the faults, or memory ran out
abbrev pub StopsAt : List Fault → PlanError → Type 0
StopsAt faults stop.Memory = Unit {0}
StopsAt faults stop.NotToml = ⊥
StopsAt faults (stop.Fault place kind) =
    slice_get faults 0 ≡ Some (record { place = place; kind = kind })

-- there are no faults, or the error names the first of them
abbrev pub Reads : {T : Type 0} → Result T PlanError → List Fault → Type 0
Reads (Ok value) faults = faults ≡ []
Reads (Err error) faults = StopsAt faults error

-- the data of a value that may be absent
abbrev pub data_in : Option (Bor Value) → Option Data
data_in value = option_map (λ v. view v.now) value

-- the name is added to the set
abbrev pub AddsName : BTreeSet (String Global) → BTreeSet (String Global) → List ℕ → Type 0
AddsName old new name =
    (other : List ℕ) → contains_text new other ≡ (bytes_eq name other || contains_text old other)
