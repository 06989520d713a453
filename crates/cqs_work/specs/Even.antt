-- What the entries of callers add up to. A caller is even where all that it came to is behind it.
use Rattle.std.specs.Prelude.{◌≡◌, ℕ, ◌<◌, Bool, true, List, [], Some, slice_get, sum_by}
use Rattle.cqs_core.specs.Parts.{part}
use Rattle.cqs_core.specs.declared.entries.Entry.{Entry}
use Rattle.cqs_core.specs.declared.entries.Entry.TheVariants as permit
use Rattle.cqs_core.specs.SemaphoreNames.{entry_names as permit_names}
use Rattle.cqs_core.specs.SemaphoreObject.{Semaphore}
use Rattle.cqs_core.specs.SemaphoreEntries.{IsLegal, object_after}
use Rattle.cqs_pool_object.specs.declared.entries.PoolEntry.{PoolEntry}
use Rattle.cqs_pool_object.specs.declared.entries.PoolEntry.TheVariants as element
use Rattle.cqs_pool_object.specs.PoolNames.{entry_names as element_names}
use Rattle.cqs_pool_object.specs.PoolObject.{Pool}
use Rattle.cqs_pool_object.specs.PoolEntries.{IsLegal as IsLegalPool, object_after as pool_after}

-- the entries by which a caller comes to something: a permit, which it may have taken back, or a
-- number
abbrev pub permit_gains : Entry → ℕ
permit_gains (permit.TakeNow c) = 1
permit_gains (permit.TryGot c) = 1
permit_gains (permit.Enter c k) = 1
permit_gains (permit.Spoil c k) = 1
permit_gains entry = 0

-- and those by which it has it no more
abbrev pub permit_losses : Entry → ℕ
permit_losses (permit.GiveFreed c) = 1
permit_losses (permit.GiveSent c) = 1
permit_losses (permit.Leave c k) = 1
permit_losses (permit.Undo c k) = 1
permit_losses entry = 0

-- those by which it comes to the door, and those by which it goes on from there
abbrev pub permit_doors : Entry → ℕ
permit_doors (permit.TakeDoor c) = 1
permit_doors entry = 0

abbrev pub permit_enters : Entry → ℕ
permit_enters (permit.Enter c k) = 1
permit_enters entry = 0

-- the same of a pool, whose takers have no door
abbrev pub element_gains : PoolEntry → ℕ
element_gains (element.Enter c k) = 1
element_gains entry = 0

abbrev pub element_losses : PoolEntry → ℕ
element_losses (element.Put c e) = 1
element_losses (element.Leave c k) = 1
element_losses entry = 0

-- all permits and numbers that a caller came to are behind it, and so is the door
pub record IsEven (entries : List Entry) : Type 0 where
  pub given : sum_by permit_losses entries ≡ sum_by permit_gains entries
  pub entered : sum_by permit_enters entries ≡ sum_by permit_doors entries

pub record IsEvenAtPool (entries : List PoolEntry) : Type 0 where
  pub given : sum_by element_losses entries ≡ sum_by element_gains entries

-- every entry that names a caller names one of the first so many
pub record NamesBelow {E : Type 0} (names : ℕ → E → Bool) (callers : ℕ) (history : List E)
    : Type 0 where
  pub at : (n c : ℕ) (e : E) → slice_get history n ≡ Some e → names c e ≡ true → c < callers

-- nothing is held, on its way, at the door, in the line or broken
pub record IsQuiet (o : Semaphore) : Type 0 where
  pub held : o.held ≡ 0
  pub way : o.way ≡ 0
  pub door : o.door ≡ []
  pub line : o.line ≡ []
  pub spoiled : o.spoiled ≡ []

-- nothing is held or in the line
pub record IsQuietPool (o : Pool) : Type 0 where
  pub held : o.held ≡ []
  pub line : o.line ≡ []

-- a semaphore is quiet after a legal history in which every caller is even
abbrev pub EveryEvenSemaphoreIsQuiet : Type 0
EveryEvenSemaphoreIsQuiet =
    (permits callers : ℕ) (history : List Entry) → IsLegal permits history
    → NamesBelow permit_names callers history
    → ((c : ℕ) → c < callers → IsEven (part permit_names c history))
    → IsQuiet (object_after permits history)

-- and so is a pool
abbrev pub EveryEvenPoolIsQuiet : Type 0
EveryEvenPoolIsQuiet =
    (elements callers : ℕ) (history : List PoolEntry) → IsLegalPool elements history
    → NamesBelow element_names callers history
    → ((c : ℕ) → c < callers → IsEvenAtPool (part element_names c history))
    → IsQuietPool (pool_after elements history)
