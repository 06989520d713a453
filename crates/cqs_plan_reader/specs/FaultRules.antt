-- Faults, and the rules of which the list of all faults is made. Nothing here stops at a fault.
use Rattle.std.specs.Prelude.{ℕ, Bool, true, false, List, [], ◌∷◌, Option, Some, None}
use Rattle.std.specs.List.{list_all, list_any, flat_map, enumerate_from}
use Rattle.std.specs.Str.{bytes_eq}
use Rattle.toml.specs.Data.{Data, Members}
use Rattle.cqs_plan.specs.declared.plans.fault_kind.FaultKind.{FaultKind}
use Rattle.cqs_plan.specs.declared.plans.fault_kind.FaultKind.TheVariants as fault
use Rattle.cqs_plan_reader.specs.Meaning.{members_list}

-- what is wrong, and where
pub record Fault : Type 0 where
  pub place : List ℕ
  pub kind : FaultKind

abbrev pub fault_at : List ℕ → FaultKind → List Fault
fault_at place kind = record { place = place; kind = kind } ∷ []

-- a fault where the test fails
abbrev pub unless : Bool → List ℕ → FaultKind → List Fault
unless true place kind = []
unless false place kind = fault_at place kind

-- `missing`, or the faults of what is there
abbrev pub require : List ℕ → Option Data → (Data → List Fault) → List Fault
require place None faults = fault_at place fault.Missing
require place (Some value) faults = faults value

abbrev pub optional : Option Data → (Data → List Fault) → List Fault
optional None faults = []
optional (Some value) faults = faults value

-- `shape`, or the faults of what the value is
abbrev pub expect_shape : {X : Type 0} → List ℕ → Option X → (X → List Fault) → List Fault
expect_shape place None faults = fault_at place fault.Shape
expect_shape place (Some value) faults = faults value

-- the faults of each element, at its place
abbrev pub each : {X : Type 0} → List X → (ℕ → X → List Fault) → List Fault
each values faults = flat_map (λ (i, value). faults i value) (enumerate_from 0 values)

-- the keys of the table are among these
abbrev pub has_only : List (List ℕ) → Members → Bool
has_only known members = list_all (λ m. list_any (bytes_eq m.0) known) (members_list members)
