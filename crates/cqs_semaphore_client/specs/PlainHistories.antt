-- The histories of a semaphore that isn't synchronous: legal ones, in which no number is broken.
use Rattle.std.specs.Prelude.{ℕ, List}
use Rattle.cqs_core.specs.declared.entries.Entry.{Entry}
use Rattle.cqs_core.specs.declared.entries.Entry.TheVariants as entry
use Rattle.cqs_core.specs.Numbered.{EachAt}
use Rattle.cqs_core.specs.SemaphoreEntries.{IsLegal}

-- the entry neither breaks a number nor comes to a broken one
abbrev pub BreaksNone : Entry → Type 0
BreaksNone (entry.TakeNow c) = Unit {0}
BreaksNone (entry.TakeDoor c) = Unit {0}
BreaksNone (entry.Enter c k) = Unit {0}
BreaksNone (entry.TryGot c) = Unit {0}
BreaksNone (entry.TryBusy c) = Unit {0}
BreaksNone (entry.GiveFreed c) = Unit {0}
BreaksNone (entry.GiveSent c) = Unit {0}
BreaksNone (entry.Deliver k) = Unit {0}
BreaksNone (entry.Spoil c k) = ⊥
BreaksNone (entry.Undo c k) = ⊥
BreaksNone (entry.Leave c k) = Unit {0}
BreaksNone (entry.Late c k) = Unit {0}
BreaksNone (entry.LookGranted c k) = Unit {0}
BreaksNone (entry.LookPending c k) = Unit {0}

-- no number is broken in the history
abbrev pub IsUnbroken : List Entry → Type 0
IsUnbroken history = EachAt (λ n e. BreaksNone e) history

-- a legal history in which no number is broken
pub record IsPlainHistory (permits : ℕ) (history : List Entry) : Type 0 where
  pub legal : IsLegal permits history
  pub unbroken : IsUnbroken history
