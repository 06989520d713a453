-- The entries of the barrier: where each may come, and what it changes. A history is legal where
-- each of its entries may come after those before it.
use Rattle.std.specs.Prelude.{◌≡◌, ℕ, ◌+◌, ◌-◌, ◌<◌, List, take}
use Rattle.std.specs.List.{fold}
use Rattle.cqs_core.specs.Histories.{IsLegalFrom}
use Rattle.cqs_core.specs.Keyed.{insert_by}
use Rattle.cqs_core.specs.Numbered.{IsIn}
use Rattle.cqs_core.specs.QueueLine.{Waiting}
use Rattle.cqs_core.specs.QueueWaiters.{Waits, IsServed, due_of, comes, enters, is_reached, goes, closes}
use Rattle.cqs_barrier_object.specs.declared.entries.BarrierEntry.{BarrierEntry}
use Rattle.cqs_barrier_object.specs.declared.entries.BarrierEntry.TheVariants as entry
use Rattle.cqs_barrier_object.specs.BarrierObject.{Barrier, opening}

-- where an entry may come
abbrev pub IsAllowed : Barrier → BarrierEntry → Type 0
IsAllowed o (entry.ArriveLast c) = o.remaining ≡ 1
IsAllowed o (entry.ArriveDoor c) = 1 < o.remaining
IsAllowed o (entry.Enter c k) = IsIn c o.waiters.door × (k ≡ o.waiters.next)
IsAllowed o (entry.Deliver k) =
    (o.remaining ≡ 0) × ((c : ℕ) × Waits k c (take o.way o.waiters.line))
IsAllowed o (entry.Withdraw c k) = (0 < o.remaining) × Waits k c o.waiters.line
IsAllowed o (entry.Stay c k) = (o.remaining ≡ 0) × Waits k c o.waiters.line
IsAllowed o (entry.Late c k) = IsServed k c o.waiters.served
IsAllowed o (entry.LookGranted c k) = IsServed k c o.waiters.served
IsAllowed o (entry.LookPending c k) = Waits k c o.waiters.line

-- the last party arrives: as many resumptions are on their way as wait
abbrev pub complete : Barrier → Barrier
complete o = record o { remaining = 0; way = due_of o.waiters }

-- c arrives and waits for those that are still to come
abbrev pub after_arrival : Barrier → ℕ → Barrier
after_arrival o c = record o { remaining = o.remaining - 1; waiters = comes o.waiters c }

-- a resumption on its way reaches wait k
abbrev pub after_delivery : Barrier → ℕ → Barrier
after_delivery o k = record o { way = o.way - 1; waiters = is_reached o.waiters k }

-- wait k leaves, and its party is still to arrive
abbrev pub after_withdrawal : Barrier → ℕ → Barrier
after_withdrawal o k = record o { remaining = o.remaining + 1; waiters = goes o.waiters k }

abbrev pub stays : List Waiting → ℕ → ℕ → List Waiting
stays waits k c = insert_by (λ w. w.wait) (record { wait = k; pass = c }) waits

-- wait k of c is over without its resumption, which goes nowhere
abbrev pub after_stay : Barrier → ℕ → ℕ → Barrier
after_stay o c k =
    record o { way = o.way - 1; waiters = goes o.waiters k; stayed = stays o.stayed k c }

-- what came for wait k was looked at
abbrev pub after_close : Barrier → ℕ → Barrier
after_close o k = record o { waiters = closes o.waiters k }

-- what an entry changes
abbrev pub after_entry : Barrier → BarrierEntry → Barrier
after_entry o (entry.ArriveLast c) = complete o
after_entry o (entry.ArriveDoor c) = after_arrival o c
after_entry o (entry.Enter c k) = record o { waiters = enters o.waiters c k }
after_entry o (entry.Deliver k) = after_delivery o k
after_entry o (entry.Withdraw c k) = after_withdrawal o k
after_entry o (entry.Stay c k) = after_stay o c k
after_entry o (entry.Late c k) = after_close o k
after_entry o (entry.LookGranted c k) = after_close o k
after_entry o (entry.LookPending c k) = o

-- the barrier after a history
abbrev pub object_after : ℕ → List BarrierEntry → Barrier
object_after parties history = fold after_entry (opening parties) history

-- each entry may come after those before it
abbrev pub IsLegal : ℕ → List BarrierEntry → Type 0
IsLegal parties history = IsLegalFrom IsAllowed after_entry (opening parties) history
