-- Whom an entry of the pool names.
use Rattle.std.specs.Prelude.{ℕ, ◌==◌, Bool, false}
use Rattle.cqs_pool_object.specs.declared.entries.PoolEntry.{PoolEntry}
use Rattle.cqs_pool_object.specs.declared.entries.PoolEntry.TheVariants as entry

-- does the entry name this caller? An element that is delivered names none
abbrev pub entry_names : ℕ → PoolEntry → Bool
entry_names n (entry.Put c e) = c == n
entry_names n (entry.Enter c k) = c == n
entry_names n (entry.Deliver k e) = false
entry_names n (entry.Leave c k) = c == n
entry_names n (entry.Late c k e) = c == n
entry_names n (entry.LookGranted c k e) = c == n
entry_names n (entry.LookPending c k) = c == n
