-- What the callers of a pool came to, and what they have no more.
use Rattle.std.specs.Prelude.{◌≡◌, ℕ, ◌+◌, List}
use Rattle.cqs_pool_object.specs.PoolNames.{entry_names}
use Rattle.cqs_pool_object.specs.declared.entries.PoolEntry.{PoolEntry}
use Rattle.cqs_pool_object.specs.declared.entries.PoolEntry.TheVariants as entry
use Rattle.cqs_floor_shared_kinds.specs.Accounts.{over}

-- a caller came to an element, or to a wait for one
abbrev pub gains : PoolEntry → ℕ
gains (entry.Put c e) = 0
gains (entry.Enter c k) = 1
gains (entry.Deliver k e) = 0
gains (entry.Leave c k) = 0
gains (entry.Late c k e) = 0
gains (entry.LookGranted c k e) = 0
gains (entry.LookPending c k) = 0

-- a caller put an element back, or gave its wait up
abbrev pub losses : PoolEntry → ℕ
losses (entry.Put c e) = 1
losses (entry.Enter c k) = 0
losses (entry.Deliver k e) = 0
losses (entry.Leave c k) = 1
losses (entry.Late c k e) = 0
losses (entry.LookGranted c k e) = 0
losses (entry.LookPending c k) = 0

-- what these callers came to they have put back or given up, but for so many elements and waits
abbrev pub IsAccounted : List ℕ → List PoolEntry → ℕ → Type 0
IsAccounted own h has =
    over entry_names gains own h ≡ over entry_names losses own h + has
