-- Which texts are histories: a head that says how many permits there are, and a line for each
-- entry.
use Rattle.std.specs.Prelude.{◌≡◌, ◌≢◌, ℕ, ◌<◌, ◌≤◌, List, [], Option, Some, None, Result, Ok, Err}
use Rattle.cqs_lines.specs.Said.{said, line_text}
use Rattle.cqs_lines.specs.Forms.{lines_text, AllFit}
use Rattle.cqs_lines.specs.Headed.{IsFirstBadHeaded}
use Rattle.cqs_replay.specs.Runs.{permits_say}
use Rattle.cqs_replay.specs.EntryLines.{entry_says, IsEntry}
use Rattle.cqs_check.specs.declared.texts.History.{History}
use Rattle.cqs_check.specs.declared.texts.HistoryError.{HistoryError}
use Rattle.cqs_check.specs.declared.texts.HistoryError.TheVariants.{Memory, BadLine}

-- 1 to 1,048,576 permits
abbrev pub IsPermits : ℕ → Type 0
IsPermits p = (0 < p) × (p ≤ 1048576)

-- the words are those of these permits, or of none
abbrev pub IsPermitsOf : List ℕ → List ℕ → Option ℕ → Type 0
IsPermitsOf verb numbers (Some p) = IsPermits p × (permits_say p ≡ said verb numbers)
IsPermitsOf verb numbers None = (p : ℕ) → IsPermits p → permits_say p ≢ said verb numbers

-- the numbers of a history are in their ranges
pub record IsHistory (h : History) : Type 0 where
  pub permits : IsPermits h.permits
  pub entries : AllFit entry_says IsEntry h.entries.items

abbrev pub history_text : History → List ℕ
history_text h = line_text (permits_say h.permits) (lines_text entry_says h.entries.items [])

-- line n is the first that breaks the form of a history
abbrev pub IsFirstBadLine : List ℕ → ℕ → Type 0
IsFirstBadLine text n = IsFirstBadHeaded permits_say IsPermits entry_says IsEntry text n

-- two histories are the same, wherever their entries lie
pub record IsSame (g h : History) : Type 0 where
  pub permits : g.permits ≡ h.permits
  pub entries : g.entries.items ≡ h.entries.items

-- this history was read, unless memory ran out
abbrev pub IsRead : Result History HistoryError → History → Type 0
IsRead (Ok g) h = IsSame g h
IsRead (Err Memory) h = Unit {0}
IsRead (Err (BadLine n)) h = ⊥
