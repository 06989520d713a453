-- Whom an entry of the barrier names.
use Rattle.std.specs.Prelude.{ℕ, ◌==◌, Bool, false}
use Rattle.cqs_barrier_object.specs.declared.entries.BarrierEntry.{BarrierEntry}
use Rattle.cqs_barrier_object.specs.declared.entries.BarrierEntry.TheVariants as entry

-- does the entry name this caller? A resumption that reaches its wait names none
abbrev pub entry_names : ℕ → BarrierEntry → Bool
entry_names n (entry.ArriveLast c) = c == n
entry_names n (entry.ArriveDoor c) = c == n
entry_names n (entry.Enter c k) = c == n
entry_names n (entry.Deliver k) = false
entry_names n (entry.Withdraw c k) = c == n
entry_names n (entry.Stay c k) = c == n
entry_names n (entry.Late c k) = c == n
entry_names n (entry.LookGranted c k) = c == n
entry_names n (entry.LookPending c k) = c == n
