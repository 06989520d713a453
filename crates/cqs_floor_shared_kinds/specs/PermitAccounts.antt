-- What the callers of a semaphore came to, and what they have no more.
use Rattle.std.specs.Prelude.{◌≡◌, ℕ, ◌+◌, List}
use Rattle.cqs_core.specs.SemaphoreNames.{entry_names}
use Rattle.cqs_core.specs.declared.entries.Entry.{Entry}
use Rattle.cqs_core.specs.declared.entries.Entry.TheVariants as entry
use Rattle.cqs_floor_shared_kinds.specs.Accounts.{over}

-- a caller came to a permit, or to a wait for one; or took one back that was on its way
abbrev pub gains : Entry → ℕ
gains (entry.TakeNow c) = 1
gains (entry.TakeDoor c) = 0
gains (entry.Enter c k) = 1
gains (entry.TryGot c) = 1
gains (entry.TryBusy c) = 0
gains (entry.GiveFreed c) = 0
gains (entry.GiveSent c) = 0
gains (entry.Deliver k) = 0
gains (entry.Spoil c k) = 1
gains (entry.Undo c k) = 0
gains (entry.Leave c k) = 0
gains (entry.Late c k) = 0
gains (entry.LookGranted c k) = 0
gains (entry.LookPending c k) = 0

-- a caller gave a permit back, or its wait up; or found its number broken
abbrev pub losses : Entry → ℕ
losses (entry.TakeNow c) = 0
losses (entry.TakeDoor c) = 0
losses (entry.Enter c k) = 0
losses (entry.TryGot c) = 0
losses (entry.TryBusy c) = 0
losses (entry.GiveFreed c) = 1
losses (entry.GiveSent c) = 1
losses (entry.Deliver k) = 0
losses (entry.Spoil c k) = 0
losses (entry.Undo c k) = 1
losses (entry.Leave c k) = 1
losses (entry.Late c k) = 0
losses (entry.LookGranted c k) = 0
losses (entry.LookPending c k) = 0

-- a caller came to the door
abbrev pub doors : Entry → ℕ
doors (entry.TakeNow c) = 0
doors (entry.TakeDoor c) = 1
doors (entry.Enter c k) = 0
doors (entry.TryGot c) = 0
doors (entry.TryBusy c) = 0
doors (entry.GiveFreed c) = 0
doors (entry.GiveSent c) = 0
doors (entry.Deliver k) = 0
doors (entry.Spoil c k) = 0
doors (entry.Undo c k) = 0
doors (entry.Leave c k) = 0
doors (entry.Late c k) = 0
doors (entry.LookGranted c k) = 0
doors (entry.LookPending c k) = 0

-- a caller came from the door to the line
abbrev pub enters : Entry → ℕ
enters (entry.TakeNow c) = 0
enters (entry.TakeDoor c) = 0
enters (entry.Enter c k) = 1
enters (entry.TryGot c) = 0
enters (entry.TryBusy c) = 0
enters (entry.GiveFreed c) = 0
enters (entry.GiveSent c) = 0
enters (entry.Deliver k) = 0
enters (entry.Spoil c k) = 0
enters (entry.Undo c k) = 0
enters (entry.Leave c k) = 0
enters (entry.Late c k) = 0
enters (entry.LookGranted c k) = 0
enters (entry.LookPending c k) = 0

-- What these callers came to they have given back, but for so many permits and waits; and nobody of
-- them is at the door.
pub record IsAccounted (own : List ℕ) (h : List Entry) (has : ℕ) : Type 0 where
  pub even : over entry_names gains own h ≡ over entry_names losses own h + has
  pub entered : over entry_names enters own h ≡ over entry_names doors own h
