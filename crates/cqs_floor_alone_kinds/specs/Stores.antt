-- A resource with one caller, who makes one whole call after the other for the jobs of a plan, as a
-- floor sees it; and what its calls answer and leave, in the words of the plain floor.
use Rattle.std.specs.Prelude.{◌≡◌, ◌≢◌, ℕ, ◌+◌, ◌-◌, ◌<◌, ◌==◌, nat_lt, Bool, true, false, List, [], length, replicate, Option, Some, None, slice_get}
use Rattle.std.specs.List.{list_any}
use Rattle.std.specs.Option.{option_map_or}
use Rattle.cqs_core.specs.QueueLine.{Waiting}
use Rattle.cqs_core.specs.SemaphoreEntries.{IsFirst}
use Rattle.cqs_plan.specs.declared.floors.answers.FloorEnd.{FloorEnd}
use Rattle.cqs_plan.specs.declared.floors.answers.FloorDown.{FloorDown}
use Rattle.cqs_plan.specs.declared.floors.answers.FloorDown.TheVariants as down
use Rattle.cqs_plan.specs.declared.floors.answers.FloorGive.{FloorGive}
use Rattle.cqs_plan.specs.declared.floors.answers.FloorGive.TheVariants.{Free, Sent}
use Rattle.cqs_plan.specs.declared.plans.kind.Kind.{Kind}
use Rattle.cqs_plan.specs.Floor.{HasRound, IsHoldable, IsLatch, size_of}
use Rattle.cqs_plan.specs.FloorCalls.{down_of}
use Rattle.cqs_plan.specs.FloorHistory.{History, Deed, Standing, takes, joins, frees, sends, gets, leaves, is_late, passes, counts, opens, is_open, completes, with_deed_in, standing_in, to_come, ending, first_free, came_for, no_history}
use Rattle.cqs_plan.specs.Language.{can_hold}
use Rattle.cqs_plan.specs.LegalFloor.{IsHistory}
use Rattle.cqs_rule_laws.specs.declared.config.Place.{Place}
use Rattle.cqs_floor_common.specs.HeldElements.{held_by, with_less, with_more}
use Rattle.cqs_floor_alone_kinds.specs.declared.sole_resource.Left.{Left}
use Rattle.cqs_floor_alone_kinds.specs.declared.sole_resource.Left.TheVariants as left
use Rattle.cqs_floor_alone_kinds.specs.declared.sole_resource.Looked.{Looked}
use Rattle.cqs_floor_alone_kinds.specs.declared.sole_resource.Looked.TheVariants as looked
use Rattle.cqs_floor_alone_kinds.specs.declared.sole_resource.Taken.{Taken}
use Rattle.cqs_floor_alone_kinds.specs.declared.sole_resource.Taken.TheVariants.{Now, Waits}

-- What a floor sees of it. A wait is named by the place of its cell, whose number is the wait's,
-- and at a barrier by its round; what isn't a barrier has the round 0.
pub record Store (X : Type 0) : Type 1 where
  -- what happened to it, without looks that found nothing new
  pub history : X → History
  -- It stands for a resource of this kind, has room for so many takes, waits and arrivals and for
  -- the end of so many waits, and each job holds these elements of it, oldest first. Permits have
  -- the number 0.
  pub funded : X → Option Kind → ℕ → ℕ → List (List ℕ) → Type 0
  -- its caller has the wait of this round and this place
  pub has : X → ℕ → Place → Type 0

-- whether the wait of this number stands in the line
abbrev pub is_in_line : ℕ → List Waiting → Bool
is_in_line k line = list_any (λ w. w.wait == k) line

-- something of it can be held
abbrev pub is_holdable : Option Kind → Bool
is_holdable kind = option_map_or can_hold kind false

-- what a count down that answers so does
abbrev pub deed_of : FloorDown → Deed
deed_of (down.Left n) = counts n
deed_of down.Last = opens
deed_of down.Already = is_open

module _ {X : Type 0} (s : Store X) where
  -- how it stands, a barrier in this round
  abbrev pub stands_in : Option Kind → X → ℕ → Standing
  stands_in kind x round = standing_in (size_of kind) (s.history x) round

  abbrev pub stands : Option Kind → X → Standing
  stands kind x = stands_in kind x 0

  -- how often it is still to be counted down, or how many are still to arrive in this round
  abbrev pub comes_in : Option Kind → X → ℕ → ℕ
  comes_in kind x round = to_come (size_of kind) (s.history x) round

  -- What every such resource keeps to: what happened to it is a legal history of its kind, and a
  -- wait that its caller has was numbered before.
  pub record IsLawful : Type 0 where
    pub legal : (x : X) (kind : Kind) (room waiting : ℕ) (held : List (List ℕ))
        → s.funded x (Some kind) room waiting held → IsHistory kind (s.history x)
    pub numbered : (x : X) (round : ℕ) (wait : Place) (kind : Option Kind) (room waiting : ℕ)
        (held : List (List ℕ)) → s.funded x kind room waiting held → s.has x round wait
        → wait.index < (stands_in kind x round).next

  -- nothing has happened, and it has room for so many takes, waits and arrivals
  pub record IsOpened (kind : Kind) (room : ℕ) (x : X) : Type 0 where
    pub fresh : s.history x ≡ no_history kind
    pub funded : (jobs : ℕ) → s.funded x (Some kind) room 0 (replicate jobs [])

  -- this happened to it, at a barrier in this round, and it is funded so
  pub record Goes (x : X) (round : ℕ) (deed : Deed) (kind : Option Kind) (room waiting : ℕ)
      (held : List (List ℕ)) (y : X) : Type 0 where
    pub done : s.history y ≡ with_deed_in (size_of kind) (s.history x) round deed
    pub funded : s.funded y kind room waiting held

  -- its caller has all waits on; or all but that of this round and this number
  abbrev pub KeepsAll : X → X → Type 0
  KeepsAll x y = (round : ℕ) (wait : Place) → s.has x round wait → s.has y round wait

  abbrev pub KeepsOthers : X → ℕ → ℕ → X → Type 0
  KeepsOthers x round k y =
      (r : ℕ) (wait : Place) → (r ≡ round → wait.index ≢ k) → s.has x r wait → s.has y r wait

  -- nothing happened to it, and its caller has all waits on
  pub record Rests (x : X) (kind : Option Kind) (room waiting : ℕ) (held : List (List ℕ)) (y : X)
      : Type 0 where
    pub same : s.history y ≡ s.history x
    pub funded : s.funded y kind room waiting held
    pub keeps : KeepsAll x y

  -- where a job may take, give back, count down, wait at a latch, arrive at a barrier, or end a
  -- wait
  pub record CanAcquire (job : ℕ) (x : X) : Type 0 where
    pub kind : Option Kind
    pub room : ℕ
    pub waiting : ℕ
    pub held : List (List ℕ)
    pub holdable : IsHoldable kind
    pub funded : s.funded x kind room waiting held
    pub some : 0 < room
    pub there : job < length held

  pub record CanRelease (job : ℕ) (x : X) : Type 0 where
    pub kind : Option Kind
    pub room : ℕ
    pub waiting : ℕ
    pub held : List (List ℕ)
    pub holdable : IsHoldable kind
    pub funded : s.funded x kind room waiting held
    pub some : 0 < length (held_by held job)

  pub record CanCount (x : X) : Type 0 where
    pub kind : Option Kind
    pub room : ℕ
    pub waiting : ℕ
    pub held : List (List ℕ)
    pub latch : IsLatch kind
    pub funded : s.funded x kind room waiting held

  pub record CanWait (job : ℕ) (x : X) : Type 0 where
    pub kind : Option Kind
    pub room : ℕ
    pub waiting : ℕ
    pub held : List (List ℕ)
    pub latch : IsLatch kind
    pub funded : s.funded x kind room waiting held
    pub some : 0 < room
    pub there : job < length held

  pub record CanArrive (job round : ℕ) (x : X) : Type 0 where
    pub kind : Option Kind
    pub room : ℕ
    pub waiting : ℕ
    pub held : List (List ℕ)
    pub barrier : HasRound kind round
    pub funded : s.funded x kind room waiting held
    pub some : 0 < room
    pub there : job < length held
    pub to_come : 0 < comes_in kind x round

  pub record CanEnd (job round : ℕ) (wait : Place) (x : X) : Type 0 where
    pub kind : Option Kind
    pub room : ℕ
    pub waiting : ℕ
    pub held : List (List ℕ)
    pub funded : s.funded x kind room waiting held
    pub some : 0 < waiting
    pub there : job < length held
    pub has : s.has x round wait

  -- where it may be asked how it stands
  pub record CanTell (kind : Kind) (x : X) : Type 0 where
    pub room : ℕ
    pub waiting : ℕ
    pub held : List (List ℕ)
    pub funded : s.funded x (Some kind) room waiting held

  -- one is free, and the job takes the first
  pub record TakesFree (job element : ℕ) (kind : Option Kind) (room waiting : ℕ)
      (held : List (List ℕ)) (x y : X) : Type 0 where
    pub free : nat_lt 0 (stands kind x).free ≡ true
    pub first : element ≡ first_free (size_of kind) (s.history x)
    pub goes : Goes x 0 (takes element) kind (room - 1) waiting (with_more held job element) y
    pub keeps : KeepsAll x y

  -- the job goes to the end of the line, in this round, under the next number
  pub record Joins (round : ℕ) (wait : Place) (kind : Option Kind) (room waiting : ℕ)
      (held : List (List ℕ)) (x y : X) : Type 0 where
    pub number : wait.index ≡ (stands_in kind x round).next
    pub goes : Goes x round (joins (stands_in kind x round).next) kind (room - 1) (waiting + 1)
        held y
    pub has : s.has y round wait
    pub keeps : KeepsAll x y

  -- none is free, and the job waits
  pub record TakesWait (wait : Place) (kind : Option Kind) (room waiting : ℕ)
      (held : List (List ℕ)) (x y : X) : Type 0 where
    pub none : nat_lt 0 (stands kind x).free ≡ false
    pub joins : Joins 0 wait kind room waiting held x y

  abbrev pub Acquires : ℕ → X → Taken → X → Type 0
  Acquires job x (Now element) y =
      (kind : Option Kind) (room waiting : ℕ) (held : List (List ℕ))
      → s.funded x kind room waiting held → 0 < room → job < length held
      → TakesFree job element kind room waiting held x y
  Acquires job x (Waits wait) y =
      (kind : Option Kind) (room waiting : ℕ) (held : List (List ℕ))
      → s.funded x kind room waiting held → 0 < room → job < length held
      → TakesWait wait kind room waiting held x y

  -- the oldest that the job holds comes back, and by this deed
  pub record ComesBack (job element : ℕ) (deed : Deed) (kind : Option Kind) (room waiting : ℕ)
      (held : List (List ℕ)) (x y : X) : Type 0 where
    pub oldest : slice_get (held_by held job) 0 ≡ Some element
    pub goes : Goes x 0 deed kind room waiting (with_less held job) y
    pub keeps : KeepsAll x y

  -- nobody waits, and it is free; or it goes to the first of the line
  abbrev pub Releases : ℕ → X → FloorGive → X → Type 0
  Releases job x (Free element) y =
      (kind : Option Kind) (room waiting : ℕ) (held : List (List ℕ))
      → s.funded x kind room waiting held → 0 < length (held_by held job)
      → ((stands kind x).line ≡ [])
      × ComesBack job element (frees element) kind room waiting held x y
  Releases job x (Sent element k) y =
      (kind : Option Kind) (room waiting : ℕ) (held : List (List ℕ))
      → s.funded x kind room waiting held → 0 < length (held_by held job)
      → IsFirst k (stands kind x).line
      × ComesBack job element (sends element k) kind room waiting held x y

  -- a deed by which nobody gets, gives back or waits, with so much room less
  pub record Passes (round : ℕ) (deed : Deed) (less : ℕ) (kind : Option Kind) (room waiting : ℕ)
      (held : List (List ℕ)) (x y : X) : Type 0 where
    pub goes : Goes x round deed kind (room - less) waiting held y
    pub keeps : KeepsAll x y

  -- a latch is counted down
  abbrev pub Counts : X → FloorDown → X → Type 0
  Counts x answer y =
      (kind : Option Kind) (room waiting : ℕ) (held : List (List ℕ))
      → s.funded x kind room waiting held
      → (answer ≡ down_of (comes_in kind x 0))
      × Passes 0 (deed_of answer) 0 kind room waiting held x y

  -- a latch is open, and the job passes it; or it waits there
  abbrev pub Awaits : ℕ → X → Option Place → X → Type 0
  Awaits job x None y =
      (kind : Option Kind) (room waiting : ℕ) (held : List (List ℕ))
      → s.funded x kind room waiting held → 0 < room
      → (nat_lt 0 (comes_in kind x 0) ≡ false) × Passes 0 passes 1 kind room waiting held x y
  Awaits job x (Some wait) y =
      (kind : Option Kind) (room waiting : ℕ) (held : List (List ℕ))
      → s.funded x kind room waiting held → 0 < room
      → (nat_lt 0 (comes_in kind x 0) ≡ true) × Joins 0 wait kind room waiting held x y

  -- the job is the last to arrive in this round of a barrier; or it waits there
  abbrev pub Arrives : ℕ → ℕ → X → Option Place → X → Type 0
  Arrives job round x None y =
      (kind : Option Kind) (room waiting : ℕ) (held : List (List ℕ))
      → s.funded x kind room waiting held → 0 < room
      → (nat_lt 1 (comes_in kind x round) ≡ false)
      × Passes round completes 1 kind room waiting held x y
  Arrives job round x (Some wait) y =
      (kind : Option Kind) (room waiting : ℕ) (held : List (List ℕ))
      → s.funded x kind room waiting held → 0 < room
      → (nat_lt 1 (comes_in kind x round) ≡ true) × Joins round wait kind room waiting held x y

  -- the wait, which stood in the line or didn't, is over by this deed, and the jobs then hold so
  pub record EndsWait (round : ℕ) (wait : Place) (in_line : Bool) (deed : Deed)
      (after : List (List ℕ)) (kind : Option Kind) (room waiting : ℕ) (x y : X) : Type 0 where
    pub found : is_in_line wait.index (stands_in kind x round).line ≡ in_line
    pub goes : Goes x round deed kind room (waiting - 1) after y
    pub keeps : KeepsOthers x round wait.index y

  -- the element is the one that came for the wait
  abbrev pub Came : Place → ℕ → Option Kind → X → Type 0
  Came wait element kind x = element ≡ came_for (size_of kind) (s.history x) wait.index

  -- a wait that was served is over: of what can be held the job has what came, and else it goes on
  pub record Brings (job round : ℕ) (wait : Place) (element : ℕ) (deed : Deed)
      (kind : Option Kind) (room waiting : ℕ) (held : List (List ℕ)) (x y : X) : Type 0 where
    pub holdable : is_holdable kind ≡ true
    pub came : Came wait element kind x
    pub ends : EndsWait round wait false deed (with_more held job element) kind room waiting x y

  pub record GoesOn (round : ℕ) (wait : Place) (deed : Deed) (kind : Option Kind)
      (room waiting : ℕ) (held : List (List ℕ)) (x y : X) : Type 0 where
    pub holds_nothing : is_holdable kind ≡ false
    pub came : Came wait 0 kind x
    pub ends : EndsWait round wait false deed held kind room waiting x y

  -- a look: a wait that stands in the line goes on, and one that was served is over
  abbrev pub Polls : ℕ → X → ℕ → Place → Looked → X → Type 0
  Polls job x round wait looked.Pending y =
      (kind : Option Kind) (room waiting : ℕ) (held : List (List ℕ))
      → s.funded x kind room waiting held → 0 < waiting → job < length held
      → (is_in_line wait.index (stands_in kind x round).line ≡ true)
      × Rests x kind room waiting held y
  Polls job x round wait (looked.Got element) y =
      (kind : Option Kind) (room waiting : ℕ) (held : List (List ℕ))
      → s.funded x kind room waiting held → 0 < waiting → job < length held
      → Brings job round wait element (gets wait.index element) kind room waiting held x y
  Polls job x round wait looked.Through y =
      (kind : Option Kind) (room waiting : ℕ) (held : List (List ℕ))
      → s.funded x kind room waiting held → 0 < waiting → job < length held
      → GoesOn round wait (gets wait.index 0) kind room waiting held x y

  -- a cancel: a wait that stands in the line is gone, and one that was served is over
  abbrev pub Cancels : ℕ → X → ℕ → Place → Left → X → Type 0
  Cancels job x round wait left.Gone y =
      (kind : Option Kind) (room waiting : ℕ) (held : List (List ℕ))
      → s.funded x kind room waiting held → 0 < waiting → job < length held
      → EndsWait round wait true (leaves wait.index) held kind room waiting x y
  Cancels job x round wait (left.Late element) y =
      (kind : Option Kind) (room waiting : ℕ) (held : List (List ℕ))
      → s.funded x kind room waiting held → 0 < waiting → job < length held
      → Brings job round wait element (is_late wait.index element) kind room waiting held x y
  Cancels job x round wait left.Through y =
      (kind : Option Kind) (room waiting : ℕ) (held : List (List ℕ))
      → s.funded x kind room waiting held → 0 < waiting → job < length held
      → GoesOn round wait (is_late wait.index 0) kind room waiting held x y

  -- the answer tells how it stands
  abbrev pub Tells : Kind → X → FloorEnd → X → Type 0
  Tells kind x answer y =
      (room waiting : ℕ) (held : List (List ℕ)) → s.funded x (Some kind) room waiting held
      → (answer ≡ ending (size_of (Some kind)) (s.history x))
      × Rests x (Some kind) room waiting held y
