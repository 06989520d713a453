-- All commands of the program.
use Rattle.std.specs.Prelude.{ℕ, Bool, List}
use Rattle.cqs_cli.specs.Contract.{Commands}
use Rattle.cqs_plan.specs.declared.plans.plan.Plan.{Plan}
use Rattle.cqs_floor_shared.specs.Shared.{Shared}
use Rattle.cqs_floor_shared_any.specs.AnyShares.{share_any}
use Rattle.cqs_floor_shared_any.specs.declared.kinds.any.AnyShared.{AnyShared}
use Rattle.cqs_floor_shared_queue.specs.Ledgers.{Ledger, shared_in}
use Rattle.cqs_floor_shared_queue.specs.OnlyPasses.{HasOnlyPasses}
use Rattle.cqs_work.specs.Worked.{AreGated}
use Rattle.cqs_work.specs.declared.plans.Worked.{Worked as WorkedOn}
use Rattle.cqs_cli_top.specs.KeptWorks.{IsNoRun, KeptText}
use Rattle.cqs_cli_top.specs.Meanings.{BrokeOff, HasTold}
use Rattle.cqs_cli_top.specs.Words.{IsCommand, ReadsPlan}
use Rattle.cqs_cli_top.specs.declared.kept.Kept.{Kept}
use Rattle.cqs_cli_top.specs.declared.kept.Kept.TheVariants.{Nothing}

-- What else holds of what workers left. A gate was told of each of their calls, where `told` says
-- of which it was; and each resource of the floor has the one live pass of its tables.
pub record LeavesAll (told : ℕ → ℕ → Bool) (plan : Plan) (floors : List Shared)
    (worked : WorkedOn (Ledger AnyShared)) : Type 0 where
  pub gated :
      AreGated plan floors (shared_in share_any worked.floor) worked.ends worked.waits told
  pub only : HasOnlyPasses worked.floor

-- with workers on floors of any type, by what such a floor is and by what else they leave
abbrev pub commands_over : {F : Type 0} → (F → Shared)
    → (Plan → List Shared → WorkedOn F → Type 0) → Commands (Kept F)
commands_over shared Leaves = record {
  IsCommand = IsCommand;
  ReadsPlan = ReadsPlan;
  HasTold = HasTold;
  BrokeOff = BrokeOff;
  KeptText = KeptText shared Leaves;
  nothing = Nothing;
  IsNoRun = IsNoRun;
}

-- with workers on the floors that they are given, and a gate that was told of their calls so
abbrev pub commands : (ℕ → ℕ → Bool) → Commands (Kept (Ledger AnyShared))
commands told = commands_over (shared_in share_any) (LeavesAll told)
