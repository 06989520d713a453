-- What telling a verdict does to the sink, and the status that it gives.
use Rattle.std.specs.Prelude.{◌≡◌, ℕ, List}
use Rattle.cqs_cli_streams.specs.Sayings.{Says}
use Rattle.cqs_cli_streams.specs.declared.streams.sink.Sink.{Ghosts as Sink}
use Rattle.cqs_cli.specs.Words.{usage}
use Rattle.cqs_cli_streams.specs.declared.statuses.TheConstants.{BAD_TEXT, DONE, NO_COMMAND, NO_MEMORY, NO_PLAN, NOT_LEGAL, SOURCE_FAILED, TOO_LONG}
use Rattle.cqs_cli.specs.declared.verdict.Verdict.{Verdict}
use Rattle.cqs_cli.specs.declared.verdict.Verdict.TheVariants as verdict
use Rattle.cqs_cli_histories.specs.declared.studies.Studied.{Studied}
use Rattle.cqs_cli_histories.specs.declared.studies.Studied.TheVariants as studied

-- what is written of what a study came to, and the status after it
abbrev pub studied_text : Studied → List ℕ
studied_text (studied.Text text) = text.items
studied_text (studied.BadText line) = line.items
studied_text (studied.NotLegal line) = line.items

abbrev pub studied_status : Studied → ℕ
studied_status (studied.Text text) = DONE
studied_status (studied.BadText line) = BAD_TEXT
studied_status (studied.NotLegal line) = NOT_LEGAL

module _ {K : Type 0} (sink : Sink K) where
  -- a verdict with a text says it; the others leave the sink alone
  abbrev pub Tells : Verdict → ℕ → K → K → Type 0
  Tells verdict.NoCommand result old new = Says sink usage NO_COMMAND result old new
  Tells (verdict.Report text) result old new = Says sink text.items DONE result old new
  Tells (verdict.Summary text) result old new = Says sink text.items DONE result old new
  Tells (verdict.NoPlan line) result old new = Says sink line.items NO_PLAN result old new
  Tells (verdict.Studied found) result old new =
      Says sink (studied_text found) (studied_status found) result old new
  Tells verdict.SourceFailed result old new = (result ≡ SOURCE_FAILED) × (new ≡ old)
  Tells verdict.NoMemory result old new = (result ≡ NO_MEMORY) × (new ≡ old)
  Tells verdict.TooLong result old new = (result ≡ TOO_LONG) × (new ≡ old)
