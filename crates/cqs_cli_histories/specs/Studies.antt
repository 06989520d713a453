-- What the commands on schedules and histories write for an input.
use Rattle.std.specs.Prelude.{◌≡◌, ℕ, ◌+◌, List, ◌++◌, length, codes}
use Rattle.std.specs.Fmt.{decimal}
use Rattle.cqs_core.specs.declared.entries.Entry.{Entry}
use Rattle.cqs_core.specs.SemaphoreEntries.{IsLegal, object_after}
use Rattle.cqs_core.specs.SemaphoreObject.{Semaphore}
use Rattle.cqs_check.specs.declared.texts.History.{History}
use Rattle.cqs_check.specs.Histories.{IsHistory, history_text}
use Rattle.cqs_check.specs.Histories as histories
use Rattle.cqs_check.specs.Verdicts.{IsFirstBad}
use Rattle.cqs_replay.specs.declared.schedules.Schedule.{Schedule}
use Rattle.cqs_replay.specs.Runs.{after_run, history_written, replayed}
use Rattle.cqs_replay.specs.Schedules.{IsSchedule, schedule_text}
use Rattle.cqs_replay.specs.Schedules as schedules
use Rattle.cqs_cli_histories.specs.declared.studies.Studied.{Studied}
use Rattle.cqs_cli_histories.specs.declared.studies.Studied.TheVariants.{Text, BadText, NotLegal}
use Rattle.cqs_cli_histories.specs.declared.studies.Study.{Study}
use Rattle.cqs_cli_histories.specs.declared.studies.Study.TheVariants.{Replay, History as ItsHistory, Check}

-- the bytes are this schedule, and this history
pub record SaysSchedule (bytes : List ℕ) (s : Schedule) : Type 0 where
  pub fits : IsSchedule s
  pub written : bytes ≡ schedule_text s

pub record SaysHistory (bytes : List ℕ) (h : History) : Type 0 where
  pub fits : IsHistory h
  pub written : bytes ≡ history_text h

-- The bytes are a schedule, and the text has a line for each of its events with the outcome, up to
-- the first that isn't enabled, and then how the core stands.
pub record IsReplayed (bytes text : List ℕ) : Type 0 where
  pub schedule : Schedule
  pub says : SaysSchedule bytes schedule
  pub made : text ≡ replayed schedule

-- the bytes are a schedule, and the text is the history of its run, which is legal
pub record IsHistoryOf (bytes text : List ℕ) : Type 0 where
  pub schedule : Schedule
  pub says : SaysSchedule bytes schedule
  pub made : text ≡ history_written schedule
  pub legal : IsLegal schedule.permits (after_run schedule).history

-- that a history is legal, and how the semaphore stands after it
abbrev pub legal_text : Semaphore → List ℕ
legal_text o =
    codes "legal\nfree " ++ decimal o.free ++ codes " way " ++ decimal o.way ++ codes " door "
    ++ decimal (length o.door) ++ codes " line " ++ decimal (length o.line) ++ codes " next "
    ++ decimal o.next ++ codes " held " ++ decimal o.held ++ codes "\n"

-- the entries are a legal history of a semaphore with so many permits, and the text says so
pub record IsFoundLegal (permits : ℕ) (entries : List Entry) (text : List ℕ) : Type 0 where
  pub legal : IsLegal permits entries
  pub made : text ≡ legal_text (object_after permits entries)

-- what is wrong, and in which line
abbrev pub wrong_line : List ℕ → ℕ → List ℕ
wrong_line fault number = fault ++ decimal number ++ codes "\n"

-- The line names the first entry that may not come after those before it. The first entry stands in
-- the second line.
pub record IsFoundBad (permits : ℕ) (entries : List Entry) (line : List ℕ) : Type 0 where
  pub place : ℕ
  pub first : IsFirstBad permits entries place
  pub made : line ≡ wrong_line (codes "not legal at line ") (place + 2)

-- the bytes are a legal history, and the text says so
pub record IsCheckedLegal (bytes text : List ℕ) : Type 0 where
  pub history : History
  pub says : SaysHistory bytes history
  pub found : IsFoundLegal history.permits history.entries.items text

-- the bytes are a history that isn't legal, and the line names its first bad entry
pub record IsCheckedBad (bytes line : List ℕ) : Type 0 where
  pub history : History
  pub says : SaysHistory bytes history
  pub found : IsFoundBad history.permits history.entries.items line

-- the bytes are no schedule, and no history, and the line names the first line of them that breaks
-- the form
pub record IsBadSchedule (bytes line : List ℕ) : Type 0 where
  pub number : ℕ
  pub first : schedules.IsFirstBadLine bytes number
  pub made : line ≡ wrong_line (codes "bad schedule: line ") number

pub record IsBadHistory (bytes line : List ℕ) : Type 0 where
  pub number : ℕ
  pub first : histories.IsFirstBadLine bytes number
  pub made : line ≡ wrong_line (codes "bad history: line ") number

-- the bytes have the form of what is read
abbrev pub HasForm : Study → List ℕ → Type 0
HasForm Replay bytes = (s : Schedule) × SaysSchedule bytes s
HasForm ItsHistory bytes = (s : Schedule) × SaysSchedule bytes s
HasForm Check bytes = (h : History) × SaysHistory bytes h

-- and of a history also that it is legal
abbrev pub IsLegalInput : Study → List ℕ → Type 0
IsLegalInput Replay bytes = HasForm Replay bytes
IsLegalInput ItsHistory bytes = HasForm ItsHistory bytes
IsLegalInput Check bytes =
    (h : History) × (SaysHistory bytes h × IsLegal h.permits h.entries.items)

-- the bytes are a history that isn't legal
abbrev pub IsIllegalInput : Study → List ℕ → Type 0
IsIllegalInput Replay bytes = ⊥
IsIllegalInput ItsHistory bytes = ⊥
IsIllegalInput Check bytes =
    (h : History) × (SaysHistory bytes h × (¬ IsLegal h.permits h.entries.items))

-- what is written for an input that has the form, and of a history is legal
abbrev pub IsStudyText : Study → List ℕ → List ℕ → Type 0
IsStudyText Replay bytes text = IsReplayed bytes text
IsStudyText ItsHistory bytes text = IsHistoryOf bytes text
IsStudyText Check bytes text = IsCheckedLegal bytes text

-- what is written for an input that breaks the form
abbrev pub IsBadText : Study → List ℕ → List ℕ → Type 0
IsBadText Replay bytes line = IsBadSchedule bytes line
IsBadText ItsHistory bytes line = IsBadSchedule bytes line
IsBadText Check bytes line = IsBadHistory bytes line

-- what is written for a history that isn't legal
abbrev pub IsNotLegal : Study → List ℕ → List ℕ → Type 0
IsNotLegal Replay bytes line = ⊥
IsNotLegal ItsHistory bytes line = ⊥
IsNotLegal Check bytes line = IsCheckedBad bytes line

-- what a history that was read came to is right
abbrev pub IsJudged : ℕ → List Entry → Studied → Type 0
IsJudged permits entries (Text text) = IsFoundLegal permits entries text.items
IsJudged permits entries (BadText line) = ⊥
IsJudged permits entries (NotLegal line) = IsFoundBad permits entries line.items

-- what the study of an input came to is right
abbrev pub IsStudied : Study → List ℕ → Studied → Type 0
IsStudied study bytes (Text text) = IsStudyText study bytes text.items
IsStudied study bytes (BadText line) = IsBadText study bytes line.items
IsStudied study bytes (NotLegal line) = IsNotLegal study bytes line.items
