-- Which verdict is right on what workers did with an input.
use Rattle.std.specs.Prelude.{◌≡◌, ℕ, ◌+◌, List, Option}
use Rattle.cqs_cli_streams.specs.Counts.{Rises}
use Rattle.cqs_cli_streams.specs.Stream.{GivesCount}
use Rattle.cqs_cli_streams.specs.declared.streams.reading.TheConstants.{LONGEST_INPUT}
use Rattle.cqs_cli_streams.specs.Input.{IsInput}
use Rattle.cqs_cli.specs.Plans.{IsFaultLine}
use Rattle.cqs_cli.specs.declared.verdict.Verdict.{Verdict}
use Rattle.cqs_cli.specs.declared.verdict.Verdict.TheVariants as verdict
use Rattle.cqs_floor_shared.specs.Shared.{Shared}
use Rattle.cqs_plan.specs.declared.plans.plan.Plan.{Plan}
use Rattle.cqs_work.specs.declared.plans.Worked.{Worked as WorkedOn}
use Rattle.cqs_cli_top.specs.declared.kept.Kept.{Kept}
use Rattle.cqs_cli_top.specs.KeptWorks.{IsWorkKept}

module _ {F : Type 0} (shared : F → Shared)
    (Leaves : Plan → List Shared → WorkedOn F → Type 0) where
  -- the verdict on the bytes of an input, and what is kept with it
  abbrev pub IsVerdictOn : List ℕ → ℕ → Verdict → Kept F → Kept F → Type 0
  IsVerdictOn bytes workers (verdict.Report text) old new =
      IsWorkKept shared Leaves bytes workers text.items new
  IsVerdictOn bytes workers (verdict.NoPlan line) old new =
      IsFaultLine bytes line.items × (new ≡ old)
  IsVerdictOn bytes workers verdict.NoMemory old new = new ≡ old
  IsVerdictOn bytes workers verdict.NoCommand old new = ⊥
  IsVerdictOn bytes workers (verdict.Summary text) old new = ⊥
  IsVerdictOn bytes workers (verdict.Studied found) old new = ⊥
  IsVerdictOn bytes workers verdict.SourceFailed old new = ⊥
  IsVerdictOn bytes workers verdict.TooLong old new = ⊥

  -- an input was read, and the verdict is right for it
  pub record IsJudged (given : Verdict) (workers : ℕ) (left after : Option (List ℕ))
      (old new : Kept F) : Type 0 where
    pub bytes : List ℕ
    pub input : IsInput bytes left after
    pub right : IsVerdictOn bytes workers given old new

  -- The verdict on what was left of the source, which was read from old to new; and what is kept
  -- with it.
  abbrev pub IsVerdict : {S : Type 0} → (S → Option (List ℕ)) → (S → ℕ) → ℕ → Verdict → S → S
      → Kept F → Kept F → Type 0
  IsVerdict left faults workers verdict.SourceFailed source after old new =
      Rises (faults source) (faults after) × (new ≡ old)
  IsVerdict left faults workers verdict.TooLong source after old new =
      (faults after ≡ faults source)
      × GivesCount (LONGEST_INPUT + 1) (left source) (left after) × (new ≡ old)
  IsVerdict left faults workers verdict.NoMemory source after old new =
      (faults after ≡ faults source) × (new ≡ old)
  IsVerdict left faults workers (verdict.Report text) source after old new =
      (faults after ≡ faults source)
      × IsJudged (verdict.Report text) workers (left source) (left after) old new
  IsVerdict left faults workers (verdict.NoPlan line) source after old new =
      (faults after ≡ faults source)
      × IsJudged (verdict.NoPlan line) workers (left source) (left after) old new
  IsVerdict left faults workers verdict.NoCommand source after old new = ⊥
  IsVerdict left faults workers (verdict.Summary text) source after old new = ⊥
  IsVerdict left faults workers (verdict.Studied found) source after old new = ⊥
