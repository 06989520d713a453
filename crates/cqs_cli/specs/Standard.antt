-- What is known of the standard streams.
use Rattle.std.specs.Prelude.{◌≡◌, ℕ, Bool, false, ◌&&◌, ◌==◌, List, Option, Some, None, Result, Ok, Err}
use Rattle.cqs_cli.specs.declared.standard.counting.Flushed.{Flushed}
use Rattle.cqs_cli_streams.specs.Counts.{Rises}
use Rattle.cqs_cli_streams.specs.declared.streams.failed.Failed.{Failed}
use Rattle.cqs_cli_streams.specs.declared.streams.tally.Tally.{Tally}

-- what standard input counted: its reads, and how often it failed
pub record StandardInput : Type 0 where
  pub tally : Tally
  pub faults : ℕ

-- what was counted of a writer's calls when it was flushed
abbrev pub counted_then : Flushed → Tally
counted_then flushed = flushed.counted

-- the flush that is shown was the last of the calls that were counted
abbrev pub shows_flush : Option Flushed → Tally → Bool
shows_flush None tally = false
shows_flush (Some flushed) tally =
    (counted_then flushed).given == tally.given && (counted_then flushed).stops == tally.stops

-- whether the last call of standard output was a flush that went well, what it counted of its
-- calls, and how often it failed
pub record StandardOutput : Type 0 where
  pub is_flushed : Bool
  pub tally : Tally
  pub faults : ℕ

-- after a write there may be something to flush on, and after a flush where it failed
abbrev pub WritesAhead : StandardOutput → List ℕ → Result ℕ Failed → StandardOutput → Type 0
WritesAhead old piece answer new = new.is_flushed ≡ false

abbrev pub FlushesOn : StandardOutput → Bool → StandardOutput → Type 0
FlushesOn old went new = new.is_flushed ≡ went

-- the answer of a call is handed on as it is, and the count of faults rose
-- exactly where it is a failure
abbrev pub IsCounted : {T E F : Type 0} → Result T E → Result T F → ℕ → ℕ → Type 0
IsCounted (Ok value) (Ok given) before after = (given ≡ value) × (after ≡ before)
IsCounted (Ok value) (Err failed) before after = ⊥
IsCounted (Err error) (Ok given) before after = ⊥
IsCounted (Err error) (Err failed) before after = Rises before after
