-- Whom an entry of the count-down latch names.
use Rattle.std.specs.Prelude.{ℕ, ◌==◌, Bool, false}
use Rattle.cqs_latch_object.specs.declared.entries.LatchEntry.{LatchEntry}
use Rattle.cqs_latch_object.specs.declared.entries.LatchEntry.TheVariants as entry

-- does the entry name this caller? A resumption that reaches a number names none
abbrev pub entry_names : ℕ → LatchEntry → Bool
entry_names n (entry.DownLeft c k) = c == n
entry_names n (entry.DownLast c) = c == n
entry_names n (entry.DownAlready c) = c == n
entry_names n (entry.Open c) = c == n
entry_names n (entry.Passed c) = c == n
entry_names n (entry.AwaitDoor c) = c == n
entry_names n (entry.Enter c k) = c == n
entry_names n (entry.Deliver k) = false
entry_names n (entry.Leave c k) = c == n
entry_names n (entry.Miss k) = false
entry_names n (entry.Late c k) = c == n
entry_names n (entry.LookGranted c k) = c == n
entry_names n (entry.LookPending c k) = c == n
