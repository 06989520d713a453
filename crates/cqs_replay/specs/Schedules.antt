-- Which texts are schedules: a head that says how many permits and passes there are, and whether
-- the core is synchronous; and a line for each event.
use Rattle.std.specs.Prelude.{◌≡◌, ◌≢◌, ◌⊎◌, ℕ, ◌<◌, ◌≤◌, Bool, true, false, List, [], ◌∷◌, ◌++◌, Option, Some, None, Result, Ok, Err, codes}
use Rattle.cqs_lines.specs.Said.{Said, said, said_text}
use Rattle.cqs_lines.specs.Forms.{lines_text, AllFit, IsFirstBad}
use Rattle.cqs_replay.specs.declared.heads.Head.{Head}
use Rattle.cqs_replay.specs.declared.schedules.Schedule.{Schedule}
use Rattle.cqs_replay.specs.declared.schedules.ScheduleError.{ScheduleError}
use Rattle.cqs_replay.specs.declared.schedules.ScheduleError.TheVariants.{Memory, BadLine}
use Rattle.cqs_replay.specs.EventLines.{event_says, IsEvent}

-- the numbers of a head
abbrev pub head_says : Head → Said
head_says head = said (codes "core") (head.permits ∷ head.passes ∷ [])

-- the word behind them, of a synchronous core
abbrev pub kind_text : Bool → List ℕ
kind_text true = codes " sync"
kind_text false = []

-- the line of a head, without its line feed
abbrev pub head_line : Head → List ℕ
head_line head = said_text (head_says head) ++ kind_text head.sync

-- the line of a head, and more behind it
abbrev pub head_text : Head → List ℕ → List ℕ
head_text head more = head_line head ++ 10 ∷ more

-- 1 to 1,048,576 permits, and 1 to 32 passes
pub record IsHead (head : Head) : Type 0 where
  pub some : 0 < head.permits
  pub most : head.permits ≤ 1048576
  pub one : 0 < head.passes
  pub few : head.passes ≤ 32

-- the words are those of this head of such a core, or of none
abbrev pub IsHeadOf : List ℕ → List ℕ → Bool → Option Head → Type 0
IsHeadOf verb numbers sync (Some head) =
    IsHead head × (head_says head ≡ said verb numbers) × (head.sync ≡ sync)
IsHeadOf verb numbers sync None = (head : Head) → IsHead head → head_says head ≢ said verb numbers

-- the line says the numbers of this head of such a core, or of none
abbrev pub IsSized : List ℕ → Bool → Option Head → Type 0
IsSized line sync (Some head) =
    IsHead head × (line ≡ said_text (head_says head)) × (head.sync ≡ sync)
IsSized line sync None = (head : Head) → IsHead head → line ≢ said_text (head_says head)

-- the line is that of this head, or of none
abbrev pub IsHeard : List ℕ → Option Head → Type 0
IsHeard line (Some head) = IsHead head × (line ≡ head_line head)
IsHeard line None = (head : Head) → IsHead head → line ≢ head_line head

abbrev pub head_of : Schedule → Head
head_of s = record { permits = s.permits; passes = s.passes; sync = s.sync }

-- the numbers of a schedule are in their ranges
pub record IsSchedule (s : Schedule) : Type 0 where
  pub head : IsHead (head_of s)
  pub events : AllFit event_says IsEvent s.events.items

abbrev pub schedule_text : Schedule → List ℕ
schedule_text s = head_text (head_of s) (lines_text event_says s.events.items [])

-- the text begins with no head
abbrev pub IsHeadless : List ℕ → Type 0
IsHeadless text = (head : Head) (more : List ℕ) → IsHead head → text ≢ head_text head more

-- behind a head line n is the first that says no event
pub record IsBadBehind (text : List ℕ) (n : ℕ) : Type 0 where
  pub head : Head
  pub rest : List ℕ
  pub head_fit : IsHead head
  pub text_is : text ≡ head_text head rest
  pub bad : IsFirstBad event_says IsEvent rest 2 n

-- line n is the first that breaks the form of a schedule
abbrev pub IsFirstBadLine : List ℕ → ℕ → Type 0
IsFirstBadLine text n = ((n ≡ 1) × IsHeadless text) ⊎ IsBadBehind text n

-- two schedules are the same, wherever their events lie
pub record IsSame (r s : Schedule) : Type 0 where
  pub permits : r.permits ≡ s.permits
  pub passes : r.passes ≡ s.passes
  pub sync : r.sync ≡ s.sync
  pub events : r.events.items ≡ s.events.items

-- this schedule was read, unless memory ran out
abbrev pub IsRead : Result Schedule ScheduleError → Schedule → Type 0
IsRead (Ok r) s = IsSame r s
IsRead (Err Memory) s = Unit {0}
IsRead (Err (BadLine n)) s = ⊥
