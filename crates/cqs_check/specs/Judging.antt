-- A judge stands for the plain semaphore, and admits just the entries that may come.
use Rattle.std.specs.Prelude.{◌≡◌, ℕ, ◌+◌, ◌≤◌, Bool, true, false, Some, None, slice_get, length}
use Rattle.cqs_core.specs.declared.entries.Entry.{Entry}
use Rattle.cqs_core.specs.SemaphoreObject.{Semaphore}
use Rattle.cqs_core.specs.SemaphoreEntries.{IsAllowed, after_entry, turned_back}
use Rattle.cqs_core.specs.QueueWaiters.{Waits}
use Rattle.cqs_core.specs.Keyed.{without}
use Rattle.cqs_check.specs.declared.judge.Judge.{Judge}
use Rattle.cqs_check.specs.Lines.{IsTable, served_of}
pub use Rattle.cqs_check.specs.Lines.{HasRoom, line_of}
use Rattle.cqs_check.specs.declared.waits.WaitState.TheVariants as wait
pub use Rattle.cqs_check.specs.BrokenNumbers.{AreBroken, HasBroken, early_in, owner_in}
pub use Rattle.cqs_check.specs.Doors.{IsDoor, HasDoor, total_of}

-- the judge stands for this semaphore
pub record Stands (j : Judge) (o : Semaphore) : Type 0 where
  pub free : o.free ≡ j.free
  pub way : o.way ≡ j.way
  pub held : o.held ≡ j.held
  pub next : o.next ≡ length j.table.waits.items
  pub line : o.line ≡ line_of j.table
  pub served : o.served ≡ served_of j.table
  pub door : IsDoor j.door o.door
  pub broken : AreBroken j.broken o.next o.spoiled

-- what holds of every judge
pub record IsJudge (j : Judge) : Type 0 where
  pub table : IsTable j.table
  pub door : HasDoor j.door
  pub in_line : j.in_line ≡ length (line_of j.table)
  pub broken : HasBroken j.broken (length j.table.waits.items)
  -- who waits in the line waits under a number that isn't broken
  pub apart :
      (k c : ℕ) → slice_get j.table.waits.items k ≡ Some (wait.Waiting c)
      → owner_in j.broken k ≡ None
  pub few : j.free + j.way + j.held ≤ 1048576

-- an entry is admitted where it may come, and the judge then stands for the semaphore after it
abbrev pub Judged : Judge → Entry → Bool → Judge → Type 0
Judged old e true new = IsJudge new × ((o : Semaphore) → Stands old o → IsAllowed o e
    × Stands new (after_entry o e))
Judged old e false new = (o : Semaphore) → Stands old o → ¬ IsAllowed o e

-- wait k of caller c is in the line no longer, and nothing else changed
pub record DropsOut (old : Judge) (c k : ℕ) (new : Judge) : Type 0 where
  pub judge : IsJudge new
  pub stands : (o : Semaphore) → Stands old o
      → Waits k c o.line × Stands new (record o { line = without (λ w. w.wait) k o.line })

-- a permit on its way is free again, where more are on their way than wait
pub record TurnsBack (old new : Judge) : Type 0 where
  pub judge : IsJudge new
  pub stands : (o : Semaphore) → Stands old o → Stands new (turned_back o)
