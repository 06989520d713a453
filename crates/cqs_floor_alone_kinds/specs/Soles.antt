-- A semaphore with one caller, who makes one whole call after the other, as a floor sees it; and
-- what its calls answer and leave, in the words of the plain semaphore.
use Rattle.std.specs.Prelude.{◌≡◌, ◌≢◌, ℕ, ◌+◌, ◌-◌, ◌<◌, ◌==◌, nat_lt, Bool, true, false, List, [], ◌∷◌, ◌++◌, length, Option, Some, None}
use Rattle.std.specs.List.{list_any}
use Rattle.cqs_core.specs.declared.entries.Entry.{Entry}
use Rattle.cqs_core.specs.declared.entries.Entry.TheVariants as entry
use Rattle.cqs_core.specs.QueueLine.{Waiting}
use Rattle.cqs_core.specs.SemaphoreEntries.{IsFirst, object_after}
use Rattle.cqs_core.specs.SemaphoreObject.{Semaphore}
use Rattle.cqs_plan.specs.declared.plans.kind.Kind.{Kind}
use Rattle.cqs_plan.specs.declared.plans.kind.Kind.TheVariants as kind
use Rattle.cqs_plan.specs.Floor.{size_of}
use Rattle.cqs_plan.specs.LegalFloor.{IsOfSemaphore}
use Rattle.cqs_rule_laws.specs.declared.config.Place.{Place}
use Rattle.cqs_floor_alone_kinds.specs.declared.sole.Stand.{Stand}

-- a resource of this kind is a semaphore, or is one of one permit
abbrev pub IsOfPermits : Option Kind → Type 0
IsOfPermits (Some (kind.Semaphore permits)) = Unit {0}
IsOfPermits (Some kind.Mutex) = Unit {0}
IsOfPermits (Some (kind.Pool elements)) = ⊥
IsOfPermits (Some (kind.Latch count)) = ⊥
IsOfPermits (Some (kind.Rounds parties rounds)) = ⊥
IsOfPermits None = ⊥

-- What a floor sees of it. A wait is named by the place of its cell, whose number is the wait's.
pub record Sole (X : Type 0) : Type 1 where
  -- its entries, without looks that found nothing new
  pub entries : X → List Entry
  -- It stands for a resource of this kind, and has room for so many takes, for the end of so many
  -- waits and for so many gives.
  pub funded : X → Option Kind → ℕ → ℕ → ℕ → Type 0
  -- its caller has the wait of this place
  pub has : X → Place → Type 0

-- whether the wait of this number stands in the line
abbrev pub is_in_line : ℕ → List Waiting → Bool
is_in_line k line = list_any (λ w. w.wait == k) line

module _ {X : Type 0} (s : Sole X) where
  -- the plain semaphore after its entries
  abbrev pub object : Option Kind → X → Semaphore
  object kind x = object_after (size_of kind) (s.entries x)

  -- What every such semaphore keeps to: its entries are legal, and break no number; and a wait that
  -- its caller has was numbered before.
  pub record IsLawful : Type 0 where
    pub some : (x : X) (kind : Option Kind) (room waiting held : ℕ)
        → s.funded x kind room waiting held → 0 < size_of kind
    pub legal : (x : X) (kind : Option Kind) (room waiting held : ℕ)
        → s.funded x kind room waiting held → IsOfSemaphore (size_of kind) (s.entries x)
    pub numbered : (x : X) (wait : Place) (kind : Option Kind) (room waiting held : ℕ)
        → s.funded x kind room waiting held → s.has x wait → wait.index < (object kind x).next

  -- all its permits are free, and it has room for so many takes
  pub record IsOpened (kind : Option Kind) (takes : ℕ) (x : X) : Type 0 where
    pub fresh : s.entries x ≡ []
    pub funded : s.funded x kind takes 0 0

  -- these entries came, and it is funded so
  pub record Goes (x : X) (entries : List Entry) (kind : Option Kind) (room waiting held : ℕ)
      (y : X) : Type 0 where
    pub appended : s.entries y ≡ s.entries x ++ entries
    pub funded : s.funded y kind room waiting held

  -- its caller has all waits on; or all but that of this number
  abbrev pub KeepsAll : X → X → Type 0
  KeepsAll x y = (wait : Place) → s.has x wait → s.has y wait

  abbrev pub KeepsOthers : X → ℕ → X → Type 0
  KeepsOthers x k y = (wait : Place) → wait.index ≢ k → s.has x wait → s.has y wait

  -- where its state may be asked, and where one may take, give back, or end a wait
  pub record IsFundedFor (kind : Option Kind) (x : X) : Type 0 where
    pub room : ℕ
    pub waiting : ℕ
    pub held : ℕ
    pub funded : s.funded x kind room waiting held

  abbrev pub CanStand : X → Type 0
  CanStand x = (kind : Option Kind) × IsFundedFor kind x

  pub record CanAcquire (x : X) : Type 0 where
    pub kind : Option Kind
    pub room : ℕ
    pub waiting : ℕ
    pub held : ℕ
    pub funded : s.funded x kind room waiting held
    pub some : 0 < room

  pub record CanRelease (x : X) : Type 0 where
    pub kind : Option Kind
    pub room : ℕ
    pub waiting : ℕ
    pub held : ℕ
    pub funded : s.funded x kind room waiting held
    pub some : 0 < held

  pub record CanEnd (wait : Place) (x : X) : Type 0 where
    pub kind : Option Kind
    pub room : ℕ
    pub waiting : ℕ
    pub held : ℕ
    pub funded : s.funded x kind room waiting held
    pub some : 0 < waiting
    pub has : s.has x wait

  -- one is free, and the caller takes it
  pub record TakesFree (kind : Option Kind) (room waiting held : ℕ) (x y : X) : Type 0 where
    pub free : nat_lt 0 (object kind x).free ≡ true
    pub goes : Goes x (entry.TakeNow 0 ∷ []) kind (room - 1) waiting (held + 1) y
    pub keeps : KeepsAll x y

  -- none is free, and the caller goes by the door to the end of the line, under the next number
  pub record TakesWait (wait : Place) (kind : Option Kind) (room waiting held : ℕ) (x y : X)
      : Type 0 where
    pub none : nat_lt 0 (object kind x).free ≡ false
    pub number : wait.index ≡ (object kind x).next
    pub goes : Goes x (entry.TakeDoor 0 ∷ entry.Enter 0 (object kind x).next ∷ [])
        kind (room - 1) (waiting + 1) held y
    pub has : s.has y wait
    pub keeps : KeepsAll x y

  abbrev pub Acquires : X → Option Place → X → Type 0
  Acquires x None y =
      (kind : Option Kind) (room waiting held : ℕ) → s.funded x kind room waiting held → 0 < room
      → TakesFree kind room waiting held x y
  Acquires x (Some wait) y =
      (kind : Option Kind) (room waiting held : ℕ) → s.funded x kind room waiting held → 0 < room
      → TakesWait wait kind room waiting held x y

  -- nobody waits, and the permit that comes back is free
  pub record Frees (kind : Option Kind) (room waiting held : ℕ) (x y : X) : Type 0 where
    pub empty : (object kind x).line ≡ []
    pub goes : Goes x (entry.GiveFreed 0 ∷ []) kind room waiting (held - 1) y
    pub keeps : KeepsAll x y

  -- the permit that comes back goes to the first of the line
  pub record Sends (k : ℕ) (kind : Option Kind) (room waiting held : ℕ) (x y : X) : Type 0 where
    pub first : IsFirst k (object kind x).line
    pub goes : Goes x (entry.GiveSent 0 ∷ entry.Deliver k ∷ []) kind room waiting (held - 1) y
    pub keeps : KeepsAll x y

  abbrev pub Releases : X → Option ℕ → X → Type 0
  Releases x None y =
      (kind : Option Kind) (room waiting held : ℕ) → s.funded x kind room waiting held → 0 < held
      → Frees kind room waiting held x y
  Releases x (Some k) y =
      (kind : Option Kind) (room waiting held : ℕ) → s.funded x kind room waiting held → 0 < held
      → Sends k kind room waiting held x y

  -- the wait stands in the line, and nothing changes
  pub record StaysInLine (wait : Place) (kind : Option Kind) (room waiting held : ℕ) (x y : X)
      : Type 0 where
    pub found : is_in_line (wait.index) (object kind x).line ≡ true
    pub goes : Goes x [] kind room waiting held y
    pub keeps : KeepsAll x y

  -- The wait, which stood in the line or didn't, is over by this entry, and the caller then holds
  -- so many permits.
  pub record EndsWait (wait : Place) (in_line : Bool) (e : Entry) (then : ℕ) (kind : Option Kind)
      (room waiting : ℕ) (x y : X) : Type 0 where
    pub found : is_in_line (wait.index) (object kind x).line ≡ in_line
    pub goes : Goes x (e ∷ []) kind room (waiting - 1) then y
    pub keeps : KeepsOthers x (wait.index) y

  -- a look: a wait that was served is over, and the caller has the permit; else it stands in the
  -- line, and goes on
  abbrev pub Polls : X → Place → Bool → X → Type 0
  Polls x wait true y =
      (kind : Option Kind) (room waiting held : ℕ) → s.funded x kind room waiting held → 0 < waiting
      → EndsWait wait false (entry.LookGranted 0 wait.index) (held + 1) kind room waiting x y
  Polls x wait false y =
      (kind : Option Kind) (room waiting held : ℕ) → s.funded x kind room waiting held → 0 < waiting
      → StaysInLine wait kind room waiting held x y

  -- a cancel: a wait that stands in the line is gone, and of one that was served the caller has
  -- the permit
  abbrev pub Cancels : X → Place → Bool → X → Type 0
  Cancels x wait true y =
      (kind : Option Kind) (room waiting held : ℕ) → s.funded x kind room waiting held → 0 < waiting
      → EndsWait wait true (entry.Leave 0 (wait.index)) held kind room waiting x y
  Cancels x wait false y =
      (kind : Option Kind) (room waiting held : ℕ) → s.funded x kind room waiting held → 0 < waiting
      → EndsWait wait false (entry.Late 0 (wait.index)) (held + 1) kind room waiting x y

  -- so many permits are free, and so many waits stand in the line; all other permits are held
  pub record Stands (kind : Option Kind) (room waiting held : ℕ) (x : X) (stand : Stand) (y : X)
      : Type 0 where
    pub free : stand.free ≡ (object kind x).free
    pub line : stand.line ≡ length (object kind x).line
    pub all : (object kind x).held + (object kind x).free ≡ size_of kind
    pub goes : Goes x [] kind room waiting held y
    pub keeps : KeepsAll x y

  abbrev pub Tells : X → Stand → X → Type 0
  Tells x stand y =
      (kind : Option Kind) (room waiting held : ℕ) → s.funded x kind room waiting held
      → Stands kind room waiting held x stand y
