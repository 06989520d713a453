-- The histories of a semaphore of either kind.
use Rattle.std.specs.Prelude.{◌≡◌, ℕ, Bool, false, List}
use Rattle.cqs_core.specs.declared.entries.Entry.{Entry}
use Rattle.cqs_core.specs.SemaphoreEntries.{IsLegal}
use Rattle.cqs_semaphore_client.specs.PlainHistories.{IsUnbroken}

-- a legal history, in which no number is broken unless the semaphore is synchronous
pub record IsLawful (sync : Bool) (permits : ℕ) (history : List Entry) : Type 0 where
  pub legal : IsLegal permits history
  pub unbroken : sync ≡ false → IsUnbroken history
