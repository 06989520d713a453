-- What is written for an input: the report of a plan, or the line that says what is wrong with it.
use Rattle.std.specs.Prelude.{◌≡◌, ℕ, ◌⊎◌, List, codes}
use Rattle.cqs_plan.specs.declared.plans.fault_kind.FaultKind.{FaultKind}
use Rattle.cqs_plan.specs.declared.plans.plan.Plan.{Plan}
use Rattle.cqs_plan.specs.FaultLine.{line_of}
use Rattle.cqs_plan.specs.Floor.{PlainFloor}
use Rattle.cqs_plan.specs.LegalFloor.{IsLegalFor}
use Rattle.cqs_plan_reader.specs.PlanText.{IsFirstFault, IsNoToml, IsPlanText}
use Rattle.cqs_turns_report.specs.Report.{report_of}
use Rattle.cqs_turns_report.specs.Turns.{machine_after}

-- the bytes are a plan
abbrev pub IsPlan : List ℕ → Type 0
IsPlan bytes = (plan : Plan) × IsPlanText bytes plan

-- the plain floor on which the turns of a plan end
abbrev pub floor_after : Plan → PlainFloor
floor_after plan = (machine_after plan plan.turns).scene.floor

-- The bytes are a plan, the text is the report of the turn machine on it, and what happened to each
-- of its resources is a legal history of it.
pub record IsReport (bytes text : List ℕ) : Type 0 where
  pub plan : Plan
  pub says : IsPlanText bytes plan
  pub reported : text ≡ report_of plan
  pub legal : IsLegalFor plan (floor_after plan)

-- the bytes are a document that is no plan, and the line names its first fault
pub record NamesFault (bytes line : List ℕ) : Type 0 where
  pub place : List ℕ
  pub kind : FaultKind
  pub first : IsFirstFault bytes place kind
  pub named : line ≡ line_of place kind

-- the bytes are no plan, and the line says why
abbrev pub IsFaultLine : List ℕ → List ℕ → Type 0
IsFaultLine bytes line =
    (IsNoToml bytes × (line ≡ codes "bad plan: not a TOML document\n")) ⊎ NamesFault bytes line
