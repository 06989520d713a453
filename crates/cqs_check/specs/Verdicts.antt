-- What a check says of a history.
use Rattle.std.specs.Prelude.{◌≡◌, ℕ, List, length, take, Some, slice_get}
use Rattle.cqs_core.specs.declared.entries.Entry.{Entry}
use Rattle.cqs_core.specs.SemaphoreObject.{Semaphore}
use Rattle.cqs_core.specs.SemaphoreEntries.{IsAllowed, IsLegal, object_after}
use Rattle.cqs_check.specs.declared.histories.Checked.{Checked}
use Rattle.cqs_check.specs.declared.histories.Checked.TheVariants.{Legal, Bad}

-- the semaphore stands so
pub record IsSo (o : Semaphore) (free way door line next held : ℕ) : Type 0 where
  pub free_is : o.free ≡ free
  pub way_is : o.way ≡ way
  pub door_is : length o.door ≡ door
  pub line_is : length o.line ≡ line
  pub next_is : o.next ≡ next
  pub held_is : o.held ≡ held

-- the entry at this place is the first that may not come after those before it
pub record IsFirstBad (permits : ℕ) (history : List Entry) (place : ℕ) : Type 0 where
  pub bad : Entry
  pub there : slice_get history place ≡ Some bad
  pub legal : IsLegal permits (take place history)
  pub refused : ¬ IsAllowed (object_after permits (take place history)) bad

abbrev pub Checks : ℕ → List Entry → Checked → Type 0
Checks permits history (Legal free way door line next held) =
    IsLegal permits history × IsSo (object_after permits history) free way door line next held
Checks permits history (Bad place) = IsFirstBad permits history place
