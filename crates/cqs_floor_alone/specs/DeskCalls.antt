-- The calls of a floor in the words of its ledger.
use Rattle.std.specs.Prelude.{◌≡◌, ◌⊎◌, ℕ, List, Some, None, slice_get, slice_set}
use Rattle.cqs_plan.specs.declared.floors.answers.FloorTake.{FloorTake}
use Rattle.cqs_plan.specs.declared.floors.answers.FloorTake.TheVariants.{Now, Waits}
use Rattle.cqs_plan.specs.declared.floors.answers.FloorGive.{FloorGive}
use Rattle.cqs_plan.specs.declared.floors.answers.FloorLook.{FloorLook}
use Rattle.cqs_plan.specs.declared.floors.answers.FloorLook.TheVariants.{Pending, Granted}
use Rattle.cqs_plan.specs.declared.floors.answers.FloorLeave.{FloorLeave}
use Rattle.cqs_plan.specs.declared.floors.answers.FloorLeave.TheVariants.{Gone, Late}
use Rattle.cqs_plan.specs.declared.floors.answers.FloorDown.{FloorDown}
use Rattle.cqs_plan.specs.declared.floors.answers.FloorEnd.{FloorEnd}
use Rattle.cqs_plan.specs.declared.plans.kind.Kind.{Kind}
use Rattle.cqs_rule_laws.specs.declared.config.Place.{Place}
use Rattle.cqs_floor_alone.specs.declared.transfers.Transfer.TheVariants.{GaveBack}
use Rattle.cqs_floor_alone_kinds.specs.declared.sole_resource.Left.{Left}
use Rattle.cqs_floor_alone_kinds.specs.declared.sole_resource.Left.TheVariants as left
use Rattle.cqs_floor_alone_kinds.specs.declared.sole_resource.Looked.{Looked}
use Rattle.cqs_floor_alone_kinds.specs.declared.sole_resource.Looked.TheVariants as looked
use Rattle.cqs_floor_alone_kinds.specs.declared.sole_resource.Taken.TheVariants as taken
use Rattle.cqs_floor_alone_kinds.specs.declared.waits.Wait.{Wait}
use Rattle.cqs_floor_alone.specs.Ledger.{Ledger, round_in, wait_at, with_arrived, with_back, with_grant, with_less_room, with_soles, with_taken, with_transfer, with_wait, with_waiting}
use Rattle.cqs_floor_alone_kinds.specs.Stores.{Store, Acquires, Arrives, CanEnd, CanTell, Cancels, Counts, Polls, Releases, Tells}
use Rattle.cqs_floor_alone_kinds.specs.Stores as store
use Rattle.cqs_floor_alone_kinds.specs.Waits.{place_in}

module _ {X : Type 0} where
  -- of what is kept at a place this holds
  pub record HasAt (soles : List X) (at : ℕ) (Can : X → Type 0) : Type 0 where
    pub sole : X
    pub there : slice_get soles at ≡ Some sole
    pub can : Can sole

  -- what is kept at a place has made a call, and the others are as they were
  pub record Calls (old : List X) (at : ℕ) (Makes : X → X → Type 0) (new : List X) : Type 0 where
    pub sole : X
    pub there : slice_get old at ≡ Some sole
    pub after : X
    pub made : Makes sole after
    pub soles : new ≡ slice_set old at after

module _ {X : Type 0} (s : Store X) where
  -- a take: the job has an element or a permit, or has the wait
  abbrev pub Takes : Ledger X → ℕ → ℕ → FloorTake → Ledger X → Type 0
  Takes old at job (Now element) new =
      Calls old.soles at (λ x y. Acquires s job x (taken.Now element) y) new.soles
      × (new ≡ with_soles (with_taken old at job element) new.soles)
  Takes old at job (Waits number) new =
      (place : Place) × (number ≡ place.index)
      × Calls old.soles at (λ x y. Acquires s job x (taken.Waits place) y) new.soles
      × (new ≡ with_soles (with_waiting old at job 0 place) new.soles)

  -- a give
  abbrev pub Gives : Ledger X → ℕ → ℕ → FloorGive → Ledger X → Type 0
  Gives old at job answer new =
      Calls old.soles at (λ x y. Releases s job x answer y) new.soles
      × (new ≡ with_soles (with_transfer old (GaveBack job at)) new.soles)

  -- a count down
  abbrev pub Downs : Ledger X → ℕ → FloorDown → Ledger X → Type 0
  Downs old at answer new =
      Calls old.soles at (λ x y. Counts s x answer y) new.soles
      × (new ≡ with_soles old new.soles)

  -- a wait at a latch: the job passes, or has the wait
  abbrev pub Awaits : Ledger X → ℕ → ℕ → FloorTake → Ledger X → Type 0
  Awaits old at job (Now element) new =
      (element ≡ 0)
      × Calls old.soles at (λ x y. store.Awaits s job x None y) new.soles
      × (new ≡ with_soles (with_less_room old at) new.soles)
  Awaits old at job (Waits number) new =
      (place : Place) × (number ≡ place.index)
      × Calls old.soles at (λ x y. store.Awaits s job x (Some place) y) new.soles
      × (new ≡ with_soles (with_waiting old at job 0 place) new.soles)

  -- an arrival at a barrier, in the job's next round there: it is the last, or has the wait
  abbrev pub Comes : Ledger X → ℕ → ℕ → FloorTake → Ledger X → Type 0
  Comes old at job (Now element) new =
      (element ≡ 0)
      × Calls old.soles at (λ x y. Arrives s job (round_in old job at) x None y) new.soles
      × (new ≡ with_soles (with_arrived (with_less_room old at) job at) new.soles)
  Comes old at job (Waits number) new =
      (place : Place) × (number ≡ place.index)
      × Calls old.soles at (λ x y. Arrives s job (round_in old job at) x (Some place) y) new.soles
      × (new ≡ with_soles (with_arrived (with_waiting old at job (round_in old job at) place) job
      at) new.soles)

  -- the job has a wait, and its resource is one where it may end that
  pub record CanEndWait (l : Ledger X) (job : ℕ) : Type 0 where
    pub wait : Wait
    pub is : wait_at l job ≡ Some wait
    pub sole : HasAt l.soles wait.at (CanEnd s job wait.round (place_in wait))

  -- the job's wait, and what its resource answered when the wait was looked at, or left
  abbrev pub Asked : Ledger X → ℕ → Looked → Ledger X → (Wait → Ledger X) → Type 0
  Asked old job answer new written =
      (wait : Wait) × (wait_at old job ≡ Some wait)
      × Calls old.soles wait.at (λ x y. Polls s job x wait.round (place_in wait) answer y)
      new.soles
      × (new ≡ with_soles (written wait) new.soles)

  abbrev pub AskedToLeave : Ledger X → ℕ → Left → Ledger X → (Wait → Ledger X) → Type 0
  AskedToLeave old job answer new written =
      (wait : Wait) × (wait_at old job ≡ Some wait)
      × Calls old.soles wait.at (λ x y. Cancels s job x wait.round (place_in wait) answer y)
      new.soles
      × (new ≡ with_soles (written wait) new.soles)

  -- a look at the job's wait: where it is pending the wait stays, and else it is taken out
  abbrev pub Looks : Ledger X → ℕ → FloorLook → Ledger X → Type 0
  Looks old job Pending new = Asked old job looked.Pending new (λ wait. old)
  Looks old job (Granted element) new =
      Asked old job (looked.Got element) new (λ wait. with_grant old job wait.at element)
      ⊎ ((element ≡ 0) × Asked old job looked.Through new (λ wait. with_wait old job None))

  -- a leave of the job's wait, which is taken out; where it left an arrival is taken back with it
  abbrev pub Leaves : Ledger X → ℕ → FloorLeave → Ledger X → Type 0
  Leaves old job Gone new =
      AskedToLeave old job left.Gone new (λ wait. with_back (with_wait old job None) job wait)
  Leaves old job (Late element) new =
      AskedToLeave old job (left.Late element) new (λ wait. with_grant old job wait.at element)
      ⊎ ((element ≡ 0) × AskedToLeave old job left.Through new (λ wait. with_wait old job None))

  -- the resource at a place is one that can be asked how it stands
  pub record CanEndAt (l : Ledger X) (at : ℕ) : Type 0 where
    pub kind : Kind
    pub is : slice_get l.kinds at ≡ Some kind
    pub sole : HasAt l.soles at (CanTell s kind)

  -- the answer tells how it stands
  pub record Ends (old : Ledger X) (at : ℕ) (answer : FloorEnd) (new : Ledger X) : Type 0 where
    pub kind : Kind
    pub is : slice_get old.kinds at ≡ Some kind
    pub calls : Calls old.soles at (λ x y. Tells s kind x answer y) new.soles
    pub written : new ≡ with_soles old new.soles
