-- What a call of the program keeps of a run.
use Rattle.std.specs.Prelude.{◌≡◌, ℕ, ◌<◌, ◌⊎◌, List, length, Option, Some, slice_get}
use Rattle.cqs_plan.specs.declared.plans.kind.Kind.{Kind}
use Rattle.cqs_plan.specs.declared.plans.plan.Plan.{Plan}
use Rattle.cqs_plan.specs.Floor.{history_at}
use Rattle.cqs_plan.specs.FloorHistory.{History}
use Rattle.cqs_plan_reader.specs.PlanText.{IsPlanText}
use Rattle.cqs_plan.specs.Runnable.{kinds_of}
use Rattle.cqs_plan_generator.specs.Generated.{plan_of_number}
use Rattle.cqs_turns_report.specs.Report.{report_of}
use Rattle.cqs_floor_alone_kinds.specs.declared.any_sole.AnySole.{AnySole}
use Rattle.cqs_floor_alone_kinds.specs.declared.running_sole.RunningSole.{RunningSole}
use Rattle.cqs_cli_streams.specs.Input.{IsInput}
use Rattle.cqs_floor_alone.specs.Ledger.{Ledger, plain_floor}
use Rattle.cqs_floor_alone_kinds.specs.SoleRunning.{IsAloneAt, store_running}
use Rattle.cqs_cli.specs.Plans.{IsFaultLine, floor_after}
use Rattle.cqs_cli.specs.Summaries.{summary_text}
use Rattle.cqs_cli.specs.Words.{IsCommand, IsGen, IsRun}
use Rattle.cqs_cli.specs.declared.kept.Kept.{Kept}
use Rattle.cqs_cli.specs.declared.kept.Kept.TheVariants.{Ran}
use Rattle.cqs_cli.specs.declared.verdict.Verdict.{Verdict}
use Rattle.cqs_cli.specs.declared.verdict.Verdict.TheVariants as verdict

-- What a resource of this kind is on the running queue has just one pass, which is its own, and
-- which has seen just this history, beside looks that found nothing new. A pass sees entries only
-- by calls on its queue.
pub record HasSeen (kind : Option Kind) (soles : List (AnySole RunningSole)) (at : ℕ)
    (history : History) : Type 0 where
  pub sole : AnySole RunningSole
  pub there : slice_get soles at ≡ Some sole
  pub alone : IsAloneAt kind sole
  pub seen : store_running.history sole ≡ history

-- the floor is the one on which the turns of this plan end, and its passes have seen just this run
pub record HasRun (plan : Plan) (floor : Ledger (AnySole RunningSole)) : Type 0 where
  pub plain : plain_floor store_running floor ≡ floor_after plan
  pub passes : (at : ℕ) → at < length plan.resources
      → HasSeen (slice_get (kinds_of plan.resources) at) floor.soles at
      (history_at (floor_after plan) at)

-- what is kept is a floor on which this plan has run
pub record KeepsRun (plan : Plan) (kept : Kept) : Type 0 where
  pub floor : Ledger (AnySole RunningSole)
  pub is : kept ≡ Ran floor
  pub ran : HasRun plan floor

-- the bytes are a plan, the text is its report, and what is kept is the floor on which it has run
pub record IsKeptFor (bytes text : List ℕ) (kept : Kept) : Type 0 where
  pub plan : Plan
  pub says : IsPlanText bytes plan
  pub made : text ≡ report_of plan
  pub run : KeepsRun plan kept

-- with the verdict on an input, the run of a report is kept, and else nothing more
abbrev pub KeepsWith : List ℕ → Verdict → Kept → Kept → Type 0
KeepsWith bytes (verdict.Report text) old new = IsKeptFor bytes text.items new
KeepsWith bytes (verdict.NoPlan line) old new = new ≡ old
KeepsWith bytes verdict.NoMemory old new = new ≡ old
KeepsWith bytes verdict.NoCommand old new = new ≡ old
KeepsWith bytes (verdict.Summary text) old new = new ≡ old
KeepsWith bytes (verdict.Studied found) old new = new ≡ old
KeepsWith bytes verdict.SourceFailed old new = new ≡ old
KeepsWith bytes verdict.TooLong old new = new ≡ old

-- the input was a plan; what is kept is the floor on which it has run; and of its report this holds
pub record KeptRun (left after : Option (List ℕ)) (kept : Kept) (Holds : List ℕ → Type 0)
    : Type 0 where
  pub bytes : List ℕ
  pub input : IsInput bytes left after
  pub text : List ℕ
  pub run : IsKeptFor bytes text kept
  pub holds : Holds text

-- with the verdict on the plan of a number, the run of a summary is kept, and else nothing more
abbrev pub KeepsFor : ℕ → ℕ → Verdict → Kept → Kept → Type 0
KeepsFor number jobs (verdict.Summary text) old new = KeepsRun (plan_of_number number jobs) new
KeepsFor number jobs (verdict.Report text) old new = new ≡ old
KeepsFor number jobs (verdict.NoPlan line) old new = new ≡ old
KeepsFor number jobs (verdict.Studied found) old new = new ≡ old
KeepsFor number jobs verdict.NoMemory old new = new ≡ old
KeepsFor number jobs verdict.NoCommand old new = new ≡ old
KeepsFor number jobs verdict.SourceFailed old new = new ≡ old
KeepsFor number jobs verdict.TooLong old new = new ≡ old

-- the words ask for the plan of a number; what is kept is the floor on which it has run; and of
-- what is written for it this holds
pub record KeptSummary (words : List (List ℕ)) (kept : Kept) (Holds : List ℕ → Type 0)
    : Type 0 where
  pub number : ℕ
  pub jobs : ℕ
  pub asked : IsGen number jobs words
  pub run : KeepsRun (plan_of_number number jobs) kept
  pub holds : Holds (summary_text number jobs)

-- what is kept is the floor on which the plan has run that was read or made, and of the text for it
-- this holds
abbrev pub KeptText : List (List ℕ) → Option (List ℕ) → Option (List ℕ) → Kept
    → (List ℕ → Type 0) → Type 0
KeptText words left after kept Holds =
    (IsRun words × KeptRun left after kept Holds) ⊎ KeptSummary words kept Holds

-- with the verdict on the words and on what was left of a source
abbrev pub Keeps : List (List ℕ) → Verdict → Option (List ℕ) → Option (List ℕ) → Kept → Kept
    → Type 0
Keeps words (verdict.Report text) left after old new =
    KeptRun left after new (λ made. made ≡ text.items)
Keeps words (verdict.Summary text) left after old new =
    KeptSummary words new (λ made. made ≡ text.items)
Keeps words (verdict.NoPlan line) left after old new = new ≡ old
Keeps words (verdict.Studied found) left after old new = new ≡ old
Keeps words verdict.NoMemory left after old new = new ≡ old
Keeps words verdict.NoCommand left after old new = new ≡ old
Keeps words verdict.SourceFailed left after old new = new ≡ old
Keeps words verdict.TooLong left after old new = new ≡ old

-- the words are no command, or the input for which they ask is no plan
abbrev pub IsNoRun : List (List ℕ) → Option (List ℕ) → Option (List ℕ) → Type 0
IsNoRun words left after =
    (¬ IsCommand words)
    ⊎ (IsRun words
    × ((bytes : List ℕ) × IsInput bytes left after × ((line : List ℕ) × IsFaultLine bytes line)))
