-- Which verdict is right for words and an input or a number.
use Rattle.std.specs.Prelude.{◌≡◌, ℕ, ◌+◌, ◌≤◌, List, Option}
use Rattle.cqs_cli_streams.specs.Counts.{raise, Rises}
use Rattle.cqs_cli_streams.specs.Stream.{GivesCount}
use Rattle.cqs_cli_streams.specs.declared.streams.reading.TheConstants.{LONGEST_INPUT}
use Rattle.cqs_cli_streams.specs.declared.streams.tally.Tally.{Tally}
use Rattle.cqs_cli_streams.specs.Tally.{StopsWithin}
use Rattle.cqs_cli_streams.specs.Input.{IsInput}
use Rattle.cqs_cli.specs.Plans.{IsFaultLine, IsReport}
use Rattle.cqs_cli.specs.Summaries.{IsSummary, IsSummaryOf}
use Rattle.cqs_cli.specs.Words.{IsCommand, IsRun, IsStudy, Reads}
use Rattle.cqs_cli.specs.declared.verdict.Verdict.{Verdict}
use Rattle.cqs_cli.specs.declared.verdict.Verdict.TheVariants as verdict
use Rattle.cqs_cli_histories.specs.Studies.{IsStudied}
use Rattle.cqs_cli_histories.specs.declared.studies.Studied.{Studied}
use Rattle.cqs_cli_histories.specs.declared.studies.Study.{Study}

-- the verdict on the bytes of an input
abbrev pub IsVerdictOn : List ℕ → Verdict → Type 0
IsVerdictOn bytes (verdict.Report text) = IsReport bytes text.items
IsVerdictOn bytes (verdict.NoPlan line) = IsFaultLine bytes line.items
IsVerdictOn bytes verdict.NoMemory = Unit {0}
IsVerdictOn bytes verdict.NoCommand = ⊥
IsVerdictOn bytes (verdict.Summary text) = ⊥
IsVerdictOn bytes (verdict.Studied found) = ⊥
IsVerdictOn bytes verdict.SourceFailed = ⊥
IsVerdictOn bytes verdict.TooLong = ⊥

-- an input was read, and the verdict is right for it
pub record IsJudged (given : Verdict) (left after : Option (List ℕ)) : Type 0 where
  pub bytes : List ℕ
  pub input : IsInput bytes left after
  pub right : IsVerdictOn bytes given

-- the verdict on the plan of a number, with so many jobs
abbrev pub IsVerdictFor : ℕ → ℕ → Verdict → Type 0
IsVerdictFor number jobs (verdict.Summary text) = IsSummaryOf number jobs text.items
IsVerdictFor number jobs verdict.NoMemory = Unit {0}
IsVerdictFor number jobs (verdict.Report text) = ⊥
IsVerdictFor number jobs (verdict.NoPlan line) = ⊥
IsVerdictFor number jobs (verdict.Studied found) = ⊥
IsVerdictFor number jobs verdict.NoCommand = ⊥
IsVerdictFor number jobs verdict.SourceFailed = ⊥
IsVerdictFor number jobs verdict.TooLong = ⊥

-- the words ask for a study, an input was read, and what that came to is right
pub record HasStudied (words : List (List ℕ)) (found : Studied) (left after : Option (List ℕ))
    : Type 0 where
  pub study : Study
  pub asked : IsStudy study words
  pub bytes : List ℕ
  pub input : IsInput bytes left after
  pub right : IsStudied study bytes found

-- The verdict on the words and on what was left of the source, which was read from old to new. It
-- is read for words alone that ask for it.
abbrev pub IsVerdict : {S : Type 0} → (S → Option (List ℕ)) → (S → ℕ) → List (List ℕ) → Verdict → S
    → S → Type 0
IsVerdict left faults words verdict.NoCommand old new = (¬ IsCommand words) × (new ≡ old)
IsVerdict left faults words verdict.SourceFailed old new =
    Reads words × Rises (faults old) (faults new)
IsVerdict left faults words verdict.TooLong old new =
    Reads words × (faults new ≡ faults old) × GivesCount (LONGEST_INPUT + 1) (left old) (left new)
IsVerdict left faults words verdict.NoMemory old new =
    IsCommand words × (faults new ≡ faults old) × ((¬ Reads words) → new ≡ old)
IsVerdict left faults words (verdict.Summary text) old new =
    IsSummary words text.items × (new ≡ old)
IsVerdict left faults words (verdict.Report text) old new =
    IsRun words × (faults new ≡ faults old) × IsJudged (verdict.Report text) (left old) (left new)
IsVerdict left faults words (verdict.NoPlan line) old new =
    IsRun words × (faults new ≡ faults old) × IsJudged (verdict.NoPlan line) (left old) (left new)
IsVerdict left faults words (verdict.Studied found) old new =
    (faults new ≡ faults old) × HasStudied words found (left old) (left new)

-- what the reads for a verdict gave, and whether the last of them stopped
abbrev pub HasTaken : Verdict → Tally → Tally → Type 0
HasTaken verdict.NoCommand old new = new ≡ old
HasTaken (verdict.Summary text) old new = new ≡ old
HasTaken (verdict.Report text) old new = StopsWithin LONGEST_INPUT old new
HasTaken (verdict.NoPlan line) old new = StopsWithin LONGEST_INPUT old new
HasTaken (verdict.Studied found) old new = StopsWithin LONGEST_INPUT old new
HasTaken verdict.SourceFailed old new = StopsWithin LONGEST_INPUT old new
HasTaken verdict.NoMemory old new =
    (new.given ≤ old.given + LONGEST_INPUT) × (old.stops ≡ 0 → new.stops ≤ 1)
HasTaken verdict.TooLong old new =
    (new.given ≡ raise old.given (LONGEST_INPUT + 1)) × (old.stops ≡ 0 → new.stops ≡ 0)
