-- The entries of the count-down latch: where each may come, and what it changes. A history is
-- legal where each of its entries may come after those before it.
use Rattle.std.specs.Prelude.{◌≡◌, ℕ, ◌+◌, ◌-◌, ◌<◌, Bool, true, false, List}
use Rattle.std.specs.List.{fold}
use Rattle.cqs_core.specs.Histories.{IsLegalFrom}
use Rattle.cqs_core.specs.Numbered.{IsIn}
use Rattle.cqs_core.specs.Keyed.{insert_by, without}
use Rattle.cqs_core.specs.QueueWaiters.{Waits, IsServed, comes, enters, is_reached, goes, closes}
use Rattle.cqs_latch_object.specs.declared.entries.LatchEntry.{LatchEntry}
use Rattle.cqs_latch_object.specs.declared.entries.LatchEntry.TheVariants as entry
use Rattle.cqs_latch_object.specs.LatchObject.{Latch, opening, due}

-- where an entry may come
abbrev pub IsAllowed : Latch → LatchEntry → Type 0
IsAllowed o (entry.DownLeft c n) = (o.count ≡ n + 1) × (0 < n)
IsAllowed o (entry.DownLast c) = o.count ≡ 1
IsAllowed o (entry.DownAlready c) = o.count ≡ 0
IsAllowed o (entry.Open c) = (o.count ≡ 0) × (o.opened ≡ false)
IsAllowed o (entry.Passed c) = o.count ≡ 0
IsAllowed o (entry.AwaitDoor c) = o.opened ≡ false
IsAllowed o (entry.Enter c k) = IsIn c o.waiters.door × (k ≡ o.waiters.next)
IsAllowed o (entry.Deliver k) = (o.opened ≡ true) × ((c : ℕ) × Waits k c o.waiters.line)
IsAllowed o (entry.Leave c k) = Waits k c o.waiters.line
IsAllowed o (entry.Miss k) = (o.simple ≡ true) × (o.opened ≡ true) × IsIn k o.holes
IsAllowed o (entry.Late c k) = IsServed k c o.waiters.served
IsAllowed o (entry.LookGranted c k) = IsServed k c o.waiters.served
IsAllowed o (entry.LookPending c k) = Waits k c o.waiters.line

-- who leaves an open latch takes his resumption with him, unless it is to end at his number
abbrev pub way_left : Bool → Bool → ℕ → ℕ
way_left false true way = way - 1
way_left false false way = way
way_left true opened way = way

abbrev pub holes_left : Bool → ℕ → List ℕ → List ℕ
holes_left true k holes = insert_by (λ h. h) k holes
holes_left false k holes = holes

-- wait k leaves the line
abbrev pub after_leave : Latch → ℕ → Latch
after_leave o k =
    record o {
      way = way_left o.simple o.opened o.way;
      waiters = goes o.waiters k;
      holes = holes_left o.simple k o.holes;
    }

-- what an entry changes
abbrev pub after_entry : Latch → LatchEntry → Latch
after_entry o (entry.DownLeft c n) = record o { count = n }
after_entry o (entry.DownLast c) = record o { count = 0 }
after_entry o (entry.DownAlready c) = o
after_entry o (entry.Open c) = record o { opened = true; way = due o }
after_entry o (entry.Passed c) = o
after_entry o (entry.AwaitDoor c) = record o { waiters = comes o.waiters c }
after_entry o (entry.Enter c k) = record o { waiters = enters o.waiters c k }
after_entry o (entry.Deliver k) =
    record o { way = o.way - 1; waiters = is_reached o.waiters k }
after_entry o (entry.Leave c k) = after_leave o k
after_entry o (entry.Miss k) =
    record o { way = o.way - 1; holes = without (λ h. h) k o.holes }
after_entry o (entry.Late c k) = record o { waiters = closes o.waiters k }
after_entry o (entry.LookGranted c k) = record o { waiters = closes o.waiters k }
after_entry o (entry.LookPending c k) = o

-- the latch after a history
abbrev pub object_after : Bool → ℕ → List LatchEntry → Latch
object_after simple count history = fold after_entry (opening simple count) history

-- each entry may come after those before it
abbrev pub IsLegal : Bool → ℕ → List LatchEntry → Type 0
IsLegal simple count history = IsLegalFrom IsAllowed after_entry (opening simple count) history
