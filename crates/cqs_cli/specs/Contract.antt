-- The contract of the program: what one call of it does, whatever its commands, its source and its
-- sink.
use Rattle.std.specs.Prelude.{◌≡◌, ◌≢◌, ℕ, ◌+◌, ◌<◌, ◌≤◌, ◌⊎◌, List, length, Option, Some, IsTrue}
use Rattle.cqs_cli_streams.specs.Counts.{raise, Rises}
use Rattle.cqs_cli_streams.specs.Stream.{GivesAtMost, GivesCount}
use Rattle.cqs_cli_streams.specs.declared.streams.reading.TheConstants.{LONGEST_INPUT}
use Rattle.cqs_cli_streams.specs.declared.streams.sink.Sink.{Ghosts as Sink}
use Rattle.cqs_cli_streams.specs.declared.streams.source.Source.{Ghosts as Source}
use Rattle.cqs_cli_streams.specs.declared.streams.tally.Tally.{Tally}
use Rattle.cqs_cli.specs.Meanings.{IsStatus, NamedFault, StudyTold}
use Rattle.cqs_cli.specs.Plans.{IsPlan}
use Rattle.cqs_cli.specs.Words.{IsSomeGen, IsSomeStudy, IsStudy, usage}
use Rattle.cqs_cli_streams.specs.declared.statuses.TheConstants.{BAD_TEXT, DONE, NO_COMMAND, NO_MEMORY, NO_PLAN, NOT_LEGAL, SINK_FAILED, SOURCE_FAILED, TOO_LONG}
use Rattle.cqs_cli_streams.specs.Sayings.{Broke, MustEnd, Wrote}
use Rattle.cqs_cli_histories.specs.Studies.{HasForm, IsBadText, IsIllegalInput, IsLegalInput, IsNotLegal, IsStudyText}
use Rattle.cqs_cli_histories.specs.declared.studies.Study.{Study}

-- Some commands, and what they tell and keep. Of the source that is by what it had left before and
-- after the call, of the sink by what it held and holds now.
pub record Commands (Kept : Type 0) : Type 1 where
  -- the words are a command, and one that reads a plan
  pub IsCommand : List (List ℕ) → Type 0
  pub ReadsPlan : List (List ℕ) → Type 0
  -- the sink took the whole text that the words and the input call for
  pub HasTold : List (List ℕ) → (left after held now : Option (List ℕ)) → Type 0
  -- the sink took a prefix of the text that the words and the input call for, and counted it
  pub BrokeOff : List (List ℕ) → (left after held now : Option (List ℕ)) → (old new : Tally)
      → Type 0
  -- what is kept is what the text was made of, and of that text this holds
  pub KeptText : List (List ℕ) → (left after : Option (List ℕ)) → Kept → (List ℕ → Type 0)
      → Type 0
  -- nothing is kept, and nothing could be: the words are no command, or the input is no plan
  pub nothing : Kept
  pub IsNoRun : List (List ℕ) → (left after : Option (List ℕ)) → Type 0

module _ {Kept S K : Type 0} (commands : Commands Kept) (source : Source S) (sink : Sink K) where
  open commands use {IsCommand, ReadsPlan, HasTold, BrokeOff, KeptText, IsNoRun, nothing}
  open source use {left, faults as source_faults, tally as read}
  open sink use {held, is_flushed, faults as sink_faults, tally as written}

  -- the words are those of a command that reads
  abbrev pub Reads : List (List ℕ) → Type 0
  Reads words = ReadsPlan words ⊎ IsSomeStudy words

  -- One call on these words, from one source to the next and from one sink to the next; what it
  -- keeps, and the status that it gives.
  pub record IsCallOf (words : List (List ℕ)) (before after : S) (old new : K) (kept : Kept)
      (status : ℕ) : Type 0 where
    -- Status 0 means: the text that the words and the input call for was written, whole, and
    -- flushed.
    pub headline : status ≡ DONE
        → HasTold words (left before) (left after) (held old) (held new) × IsTrue (is_flushed new)
    -- The words are no command, nothing was read, and the usage text was written and flushed.
    pub no_command : status ≡ NO_COMMAND
        → (¬ IsCommand words) × (after ≡ before) × Wrote sink usage old new
    -- The input was no plan, and the line that says why was written and flushed.
    pub no_plan : status ≡ NO_PLAN
        → ReadsPlan words
        × NamedFault (left before) (left after) (held old) (held new) (written old) (written new)
        × IsTrue (is_flushed new)
    -- The source failed, and nothing was written.
    pub source_failed : status ≡ SOURCE_FAILED
        → Reads words × Rises (source_faults before) (source_faults after) × (new ≡ old)
    -- The sink failed, after a prefix of the text that was to be written.
    pub sink_failed : status ≡ SINK_FAILED
        → Rises (sink_faults old) (sink_faults new)
        × BrokeOff words (left before) (left after) (held old) (held new) (written old)
        (written new)
    -- Memory ran out, and nothing was written.
    pub no_memory : status ≡ NO_MEMORY → IsCommand words × (new ≡ old)
    -- One byte more than an input may have was read, and nothing was written.
    pub too_long : status ≡ TOO_LONG
        → Reads words × GivesCount (LONGEST_INPUT + 1) (left before) (left after)
        × (new ≡ old)
    -- Of a schedule or a history status 0 means also that the sink counted just the whole text.
    pub studied : status ≡ DONE → IsSomeStudy words
        → StudyTold IsStudyText words (left before) (left after)
        (λ text. Wrote sink text old new)
    -- The input was no schedule, or no history, and the line that names its first bad line was
    -- written and flushed.
    pub bad_text : status ≡ BAD_TEXT
        → StudyTold IsBadText words (left before) (left after) (λ line. Wrote sink line old new)
    -- The input was a history that isn't legal, and the line that names its first bad entry was
    -- written and flushed.
    pub not_legal : status ≡ NOT_LEGAL
        → StudyTold IsNotLegal words (left before) (left after) (λ line. Wrote sink line old new)
    -- There is no other status.
    pub statuses : IsStatus status
    -- Nothing is read for other words than those that ask for it.
    pub unread : ¬ Reads words → after ≡ before
    -- Never are more bytes taken, and nothing is read after the end of the source or a fault of it.
    pub taken : GivesAtMost (LONGEST_INPUT + 1) (left before) (left after)
    pub given : (read after).given ≤ (read before).given + (LONGEST_INPUT + 1)
    pub stops : (read before).stops ≡ 0 → (read after).stops ≤ 1
    -- Unless memory ran out or it was too long, an input was read until a read stopped: at its end,
    -- or where the source failed.
    pub ended : Reads words → status ≢ NO_MEMORY → status ≢ TOO_LONG
        → (read before).stops ≡ 0 → (read after).stops ≡ 1
    -- By the source's tally an input is too long exactly where so many bytes were read.
    pub too_many : status ≡ TOO_LONG
        → (read after).given ≡ raise (read before).given (LONGEST_INPUT + 1)
    pub many_bytes : (read before).given + LONGEST_INPUT < (read after).given → status ≡ TOO_LONG
    -- A fault is never hidden, and nothing is written after a fault of the sink or a flush.
    pub source_calm : status ≢ SOURCE_FAILED → source_faults after ≡ source_faults before
    pub sink_calm : status ≢ SINK_FAILED → sink_faults new ≡ sink_faults old
    pub sink_stops : (written old).stops ≡ 0 → (written new).stops ≤ 1
    -- Words that are no command are always answered by the usage text.
    pub wrong_words : ¬ IsCommand words → ¬ Rises (sink_faults old) (sink_faults new)
        → status ≡ NO_COMMAND
    -- An input that is no plan is always answered by the line that says why.
    pub wrong_input : ReadsPlan words → (bytes : List ℕ) → left before ≡ Some bytes
        → length bytes ≤ LONGEST_INPUT → ¬ IsPlan bytes
        → ¬ Rises (source_faults before) (source_faults after)
        → ¬ Rises (sink_faults old) (sink_faults new)
        → MustEnd NO_PLAN status
    -- An input that is too long is always refused.
    pub long_input : Reads words → (bytes : List ℕ) → left before ≡ Some bytes
        → LONGEST_INPUT < length bytes
        → ¬ Rises (source_faults before) (source_faults after)
        → MustEnd TOO_LONG status
    -- An input that is a plan is always answered by the whole text of the command.
    pub complete : ReadsPlan words → (bytes : List ℕ) → left before ≡ Some bytes
        → length bytes ≤ LONGEST_INPUT → IsPlan bytes
        → ¬ Rises (source_faults before) (source_faults after)
        → ¬ Rises (sink_faults old) (sink_faults new)
        → MustEnd DONE status
    -- Words that ask for the plan of a number are always answered by its whole summary.
    pub complete_gen : IsSomeGen words → ¬ Rises (sink_faults old) (sink_faults new)
        → MustEnd DONE status
    -- A schedule is always answered by the whole text of the command, and so is a legal history.
    pub complete_study : (study : Study) → IsStudy study words → (bytes : List ℕ)
        → left before ≡ Some bytes → length bytes ≤ LONGEST_INPUT → IsLegalInput study bytes
        → ¬ Rises (source_faults before) (source_faults after)
        → ¬ Rises (sink_faults old) (sink_faults new)
        → MustEnd DONE status
    -- An input that is none is always answered by the line that says where.
    pub wrong_text : (study : Study) → IsStudy study words → (bytes : List ℕ)
        → left before ≡ Some bytes → length bytes ≤ LONGEST_INPUT → ¬ HasForm study bytes
        → ¬ Rises (source_faults before) (source_faults after)
        → ¬ Rises (sink_faults old) (sink_faults new)
        → MustEnd BAD_TEXT status
    -- A history that isn't legal is always answered by the line that says where.
    pub illegal_input : (study : Study) → IsStudy study words → (bytes : List ℕ)
        → left before ≡ Some bytes → length bytes ≤ LONGEST_INPUT → IsIllegalInput study bytes
        → ¬ Rises (source_faults before) (source_faults after)
        → ¬ Rises (sink_faults old) (sink_faults new)
        → MustEnd NOT_LEGAL status
    -- Of a schedule or a history nothing is kept.
    pub kept_study : IsSomeStudy words → kept ≡ nothing
    -- With status 0 that is kept whose text was written.
    pub kept_done : status ≡ DONE → ¬ IsSomeStudy words
        → KeptText words (left before) (left after) kept (λ text. Wrote sink text old new)
    -- Where the sink failed, that is kept whose text broke off, and nothing where no plan was run.
    pub kept_broken : status ≡ SINK_FAILED → ¬ IsSomeStudy words
        → KeptText words (left before) (left after) kept (λ text. Broke sink text old new)
        ⊎ ((kept ≡ nothing) × IsNoRun words (left before) (left after))
    -- With every other status nothing is kept.
    pub kept_nothing : status ≢ DONE → status ≢ SINK_FAILED → kept ≡ nothing
