-- What each answer appends to the history: the entries of the caller, in order; and of a wait,
-- apart from them, the one that may come after them, by which it is served.
use Rattle.std.specs.Prelude.{ℕ, List, [], ◌∷◌, Option, Some, None, Result, Ok, Err}
use Rattle.cqs_latch_object.specs.declared.entries.LatchEntry.{LatchEntry}
use Rattle.cqs_latch_object.specs.declared.entries.LatchEntry.TheVariants as entry
use Rattle.cqs_rule_laws.specs.declared.config.AcquireError.{AcquireError}
use Rattle.cqs_rule.specs.Waits.{place_of}
use Rattle.cqs_latch.specs.declared.answers.Down.{Down}
use Rattle.cqs_latch.specs.declared.answers.Down.TheVariants.{Left, Last, LastOwing, Already}
use Rattle.cqs_latch.specs.declared.answers.LatchLeft.{LatchLeft}
use Rattle.cqs_latch.specs.declared.answers.LatchLeft.TheVariants.{Gone, GoneOwing, TooLate}
use Rattle.cqs_latch.specs.declared.answers.LatchWait.{LatchWait}
use Rattle.cqs_latch.specs.declared.answers.LatchWait.TheVariants.{Passed, Later}
use Rattle.cqs_latch.specs.declared.answers.LatchPolled.{LatchPolled}
use Rattle.cqs_latch.specs.declared.answers.LatchPolled.TheVariants.{Through, Pending}

-- the caller p passed, or came to the line under this number
abbrev pub came_entries : ℕ → Option ℕ → List LatchEntry
came_entries p None = entry.Passed p ∷ []
came_entries p (Some k) = entry.AwaitDoor p ∷ entry.Enter p k ∷ []

-- the wait that it came under was served
abbrev pub served_by : Option ℕ → List LatchEntry
served_by None = []
served_by (Some k) = entry.Deliver k ∷ []

-- A wait: who passed may have drawn a number, whose resume was first.
abbrev pub waited_entries : ℕ → Option ℕ → Result LatchWait AcquireError → List LatchEntry
waited_entries p drew (Ok Passed) = came_entries p drew
waited_entries p drew (Ok (Later wait)) = came_entries p (Some (place_of wait).index)
waited_entries p drew (Err e) = []

abbrev pub waited_further : Option ℕ → Result LatchWait AcquireError → List LatchEntry
waited_further drew (Ok Passed) = served_by drew
waited_further drew (Ok (Later wait)) = []
waited_further drew (Err e) = []

-- the caller of the wait k looked at it
abbrev pub polled_entries : ℕ → ℕ → LatchPolled → List LatchEntry
polled_entries p k Through = entry.LookGranted p k ∷ []
polled_entries p k (Pending wait) = entry.LookPending p k ∷ []

-- the caller counted down; who took the last one opened the latch
abbrev pub counted_entries : ℕ → Down → List LatchEntry
counted_entries p Already = entry.DownAlready p ∷ []
counted_entries p (Left left) = entry.DownLeft p left ∷ []
counted_entries p Last = entry.DownLast p ∷ entry.Open p ∷ []
counted_entries p (LastOwing owed) = entry.DownLast p ∷ entry.Open p ∷ []

-- the caller of the wait k left, or was too late
abbrev pub left_entries : ℕ → ℕ → LatchLeft → List LatchEntry
left_entries p k Gone = entry.Leave p k ∷ []
left_entries p k (GoneOwing owed) = entry.Leave p k ∷ []
left_entries p k TooLate = entry.Late p k ∷ []
