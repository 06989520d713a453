-- Which bytes are a plan, and the first fault of a document that is none.
use Rattle.std.specs.Prelude.{◌≡◌, ℕ, List, [], Some, IsUtf8, slice_get, ◌⊎◌, Result, Err}
use Rattle.toml.specs.Data.{Members}
use Rattle.toml.specs.Parse.{parse_document}
use Rattle.cqs_plan.specs.declared.plans.plan.Plan.{Plan}
use Rattle.cqs_plan.specs.declared.plans.fault_kind.FaultKind.{FaultKind}
use Rattle.cqs_plan.specs.declared.plans.error.PlanError.{PlanError}
use Rattle.cqs_plan.specs.declared.plans.error.PlanError.TheVariants.{Memory}
use Rattle.cqs_plan_reader.specs.Faults.{faults_in}
use Rattle.cqs_plan_reader.specs.Meaning.{plan_in}

-- the bytes are a TOML document with this root
pub record IsToml (bytes : List ℕ) (root : Members) : Type 0 where
  pub text : IsUtf8 bytes
  pub document : parse_document bytes ≡ Some root

abbrev pub IsNoToml : List ℕ → Type 0
IsNoToml bytes = (root : Members) → ¬ IsToml bytes root

-- the bytes are a document without a fault, and say this plan
pub record IsPlanText (bytes : List ℕ) (plan : Plan) : Type 0 where
  pub root : Members
  pub toml : IsToml bytes root
  pub faultless : faults_in root ≡ []
  pub says : plan ≡ plan_in root

-- the bytes are a document, and this is its first fault
pub record IsFirstFault (bytes place : List ℕ) (kind : FaultKind) : Type 0 where
  pub root : Members
  pub toml : IsToml bytes root
  pub first : slice_get (faults_in root) 0 ≡ Some (record { place = place; kind = kind })

-- this is the answer, unless memory ran out
abbrev pub IsOrMemory : Result Plan PlanError → Result Plan PlanError → Type 0
IsOrMemory result answer = (result ≡ answer) ⊎ (result ≡ Err Memory)
