-- What a call of the program keeps.
use Rattle.std.specs.Prelude.{◌≡◌, ℕ, ◌⊎◌, List, Option, Some, None}
use Rattle.cqs_plan.specs.declared.plans.plan.Plan.{Plan}
use Rattle.cqs_plan_reader.specs.PlanText.{IsPlanText}
use Rattle.cqs_cli_streams.specs.Input.{IsInput}
use Rattle.cqs_cli.specs.KeptRuns as alone
use Rattle.cqs_cli.specs.Plans.{IsFaultLine}
use Rattle.cqs_cli.specs.declared.kept.Kept.{Kept as KeptAlone}
use Rattle.cqs_cli.specs.declared.kept.Kept.TheVariants as alone_kept
use Rattle.cqs_cli_limits.specs.Contract.{Limited as LimitedOn}
use Rattle.cqs_floor_shared.specs.Shared.{Shared}
use Rattle.cqs_work.specs.declared.plans.Worked.{Worked as WorkedOn}
use Rattle.cqs_cli_top.specs.declared.kept.Kept.{Kept}
use Rattle.cqs_cli_top.specs.declared.kept.Kept.TheVariants.{Nothing, Ran, Worked, Limited}
use Rattle.cqs_cli_top.specs.Words.{IsSomeWork, IsWork}
use Rattle.cqs_cli_top.specs.Working.{HaveWorked}
use Rattle.cqs_cli_top.specs.WorkText.{work_text}

-- what is kept of a command that has no workers
abbrev pub alone_of : {F : Type 0} → Kept F → KeptAlone
alone_of Nothing = alone_kept.Nothing
alone_of (Ran floor) = alone_kept.Ran floor
alone_of (Worked worked) = alone_kept.Nothing
alone_of (Limited limited) = alone_kept.Nothing

-- what is kept of the command that replies to requests
abbrev pub kept_limited : {F : Type 0} → Option LimitedOn → Kept F
kept_limited (Some limited) = Limited limited
kept_limited None = Nothing

-- `Leaves` says what else holds of what workers left who began on these floors, as the type of a
-- floor and the gate tell it.
module _ {F : Type 0} (shared : F → Shared)
    (Leaves : Plan → List Shared → WorkedOn F → Type 0) where
  -- what is kept is what so many workers left of this plan, and the text is that of it
  pub record KeepsWork (plan : Plan) (workers : ℕ) (text : List ℕ) (kept : Kept F) : Type 0 where
    pub worked : WorkedOn F
    pub is : kept ≡ Worked worked
    pub done : HaveWorked plan workers worked.ends worked.waits (shared worked.floor)
    pub made : text ≡ work_text plan worked.ends worked.waits (shared worked.floor)
    pub leaves : Leaves plan done.floors worked

  -- the bytes are a plan, and what is kept is what the workers left of it, with this text
  pub record IsWorkKept (bytes : List ℕ) (workers : ℕ) (text : List ℕ) (kept : Kept F)
      : Type 0 where
    pub plan : Plan
    pub says : IsPlanText bytes plan
    pub keeps : KeepsWork plan workers text kept

  -- the input was a plan; what is kept is what so many workers left of it; and of its text this
  -- holds
  pub record KeptWork (workers : ℕ) (left after : Option (List ℕ)) (kept : Kept F)
      (Holds : List ℕ → Type 0) : Type 0 where
    pub bytes : List ℕ
    pub input : IsInput bytes left after
    pub text : List ℕ
    pub worked : IsWorkKept bytes workers text kept
    pub holds : Holds text

  -- what is kept is what the command worked on that the words ask for, and of its text this holds
  abbrev pub KeptText : List (List ℕ) → Option (List ℕ) → Option (List ℕ) → Kept F
      → (List ℕ → Type 0) → Type 0
  KeptText words left after kept Holds =
      alone.KeptText words left after (alone_of kept) Holds
      ⊎ ((workers : ℕ) × (IsWork workers words × KeptWork workers left after kept Holds))

-- the input is no plan
abbrev pub IsNoPlan : Option (List ℕ) → Option (List ℕ) → Type 0
IsNoPlan left after =
    (bytes : List ℕ) × IsInput bytes left after × ((line : List ℕ) × IsFaultLine bytes line)

-- the words are no command, or the input for which they ask is no plan
abbrev pub IsNoRun : List (List ℕ) → Option (List ℕ) → Option (List ℕ) → Type 0
IsNoRun words left after =
    ((¬ IsSomeWork words) × alone.IsNoRun words left after)
    ⊎ (IsSomeWork words × IsNoPlan left after)
