-- Which verdict is right for an input of requests, and what telling it does to the sink.
use Rattle.std.specs.Prelude.{◌≡◌, ℕ, ◌+◌, ◌≤◌, Bool, List, Option, Some, None}
use Rattle.cqs_limiter.specs.declared.limits.Limited.{Limited}
use Rattle.cqs_cli_streams.specs.Counts.{raise, Rises}
use Rattle.cqs_cli_streams.specs.Input.{IsInput}
use Rattle.cqs_cli_streams.specs.Sayings.{Says}
use Rattle.cqs_cli_streams.specs.Stream.{GivesCount}
use Rattle.cqs_cli_streams.specs.Tally.{StopsWithin}
use Rattle.cqs_cli_streams.specs.declared.statuses.TheConstants.{BAD_TEXT, DONE, NO_MEMORY, SOURCE_FAILED, TOO_LONG}
use Rattle.cqs_cli_streams.specs.declared.streams.reading.TheConstants.{LONGEST_INPUT}
use Rattle.cqs_cli_streams.specs.declared.streams.sink.Sink.{Ghosts as Sink}
use Rattle.cqs_cli_streams.specs.declared.streams.tally.Tally.{Tally}
use Rattle.cqs_cli_limits.specs.declared.verdict.Verdict.{Verdict}
use Rattle.cqs_cli_limits.specs.declared.verdict.Verdict.TheVariants as verdict
use Rattle.cqs_cli_limits.specs.Replies.{AreReplies, IsBadText}

-- what is kept with a verdict
abbrev pub kept_of : Verdict → Option Limited
kept_of (verdict.Replied limited) = Some limited
kept_of (verdict.BadText line) = None
kept_of verdict.SourceFailed = None
kept_of verdict.NoMemory = None
kept_of verdict.TooLong = None

module _ (told : ℕ → ℕ → Bool) where
  -- the verdict on the bytes of an input
  abbrev pub IsVerdictOn : List ℕ → Verdict → Type 0
  IsVerdictOn bytes (verdict.Replied limited) = AreReplies told bytes limited
  IsVerdictOn bytes (verdict.BadText line) = IsBadText bytes line.items
  IsVerdictOn bytes verdict.NoMemory = Unit {0}
  IsVerdictOn bytes verdict.SourceFailed = ⊥
  IsVerdictOn bytes verdict.TooLong = ⊥

  -- an input was read, and the verdict is right for it
  pub record IsJudged (given : Verdict) (left after : Option (List ℕ)) : Type 0 where
    pub bytes : List ℕ
    pub input : IsInput bytes left after
    pub right : IsVerdictOn bytes given

  -- the verdict on what was left of the source, which was read from old to new
  abbrev pub IsVerdict : {S : Type 0} → (S → Option (List ℕ)) → (S → ℕ) → Verdict → S → S → Type 0
  IsVerdict left faults (verdict.Replied limited) old new =
      (faults new ≡ faults old) × IsJudged (verdict.Replied limited) (left old) (left new)
  IsVerdict left faults (verdict.BadText line) old new =
      (faults new ≡ faults old) × IsJudged (verdict.BadText line) (left old) (left new)
  IsVerdict left faults verdict.SourceFailed old new = Rises (faults old) (faults new)
  IsVerdict left faults verdict.NoMemory old new = faults new ≡ faults old
  IsVerdict left faults verdict.TooLong old new =
      (faults new ≡ faults old) × GivesCount (LONGEST_INPUT + 1) (left old) (left new)

-- what the reads for a verdict gave, and whether the last of them stopped
abbrev pub HasTaken : Verdict → Tally → Tally → Type 0
HasTaken (verdict.Replied limited) old new = StopsWithin LONGEST_INPUT old new
HasTaken (verdict.BadText line) old new = StopsWithin LONGEST_INPUT old new
HasTaken verdict.SourceFailed old new = StopsWithin LONGEST_INPUT old new
HasTaken verdict.NoMemory old new =
    (new.given ≤ old.given + LONGEST_INPUT) × (old.stops ≡ 0 → new.stops ≤ 1)
HasTaken verdict.TooLong old new =
    (new.given ≡ raise old.given (LONGEST_INPUT + 1)) × (old.stops ≡ 0 → new.stops ≡ 0)

-- a verdict with a text says it, the others leave the sink alone
abbrev pub Tells : {K : Type 0} → Sink K → Verdict → ℕ → K → K → Type 0
Tells sink (verdict.Replied limited) result old new =
    Says sink limited.text.items DONE result old new
Tells sink (verdict.BadText line) result old new = Says sink line.items BAD_TEXT result old new
Tells sink verdict.SourceFailed result old new = (result ≡ SOURCE_FAILED) × (new ≡ old)
Tells sink verdict.NoMemory result old new = (result ≡ NO_MEMORY) × (new ≡ old)
Tells sink verdict.TooLong result old new = (result ≡ TOO_LONG) × (new ≡ old)
