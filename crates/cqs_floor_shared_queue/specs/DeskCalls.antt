-- The calls of a floor's desk: each makes one call of one resource, and writes down what the job
-- got, gave back or waits for.
use Rattle.std.specs.Prelude.{◌≡◌, ◌⊎◌, ℕ, ◌<◌, Bool, false, List, length, Result, Some, slice_get, slice_set}
use Rattle.cqs_plan.specs.declared.floors.answers.FloorDown.{FloorDown}
use Rattle.cqs_plan.specs.declared.floors.answers.FloorEnd.{FloorEnd}
use Rattle.cqs_plan.specs.declared.floors.answers.FloorLeave.{FloorLeave}
use Rattle.cqs_plan.specs.declared.floors.answers.FloorLeave.TheVariants.{Gone, Late}
use Rattle.cqs_plan.specs.declared.floors.answers.FloorLook.{FloorLook}
use Rattle.cqs_plan.specs.declared.floors.answers.FloorLook.TheVariants.{Pending, Granted}
use Rattle.cqs_plan.specs.declared.floors.answers.FloorTake.{FloorTake}
use Rattle.cqs_plan.specs.declared.plans.kind.Kind.{Kind}
use Rattle.cqs_floor_shared.specs.declared.shared.SharedGive.{SharedGive}
use Rattle.cqs_floor_shared.specs.declared.shared.Turned.{Turned}
use Rattle.cqs_floor_shared_queue.specs.declared.floors.holdings.JobHolding.{JobHolding}
use Rattle.cqs_floor_shared_queue.specs.declared.floors.spots.FloorWait.{FloorWait}
use Rattle.cqs_floor_shared_kinds.specs.declared.resource.Came.{Came}
use Rattle.cqs_floor_shared_queue.specs.Holdings.{and_taken, less_oldest}
use Rattle.cqs_floor_shared_queue.specs.Ledgers.{Ledger, and_arrived, round_in, with_back, with_come, with_grant, with_shares, without_wait}
use Rattle.cqs_floor_shared_kinds.specs.Shares.{Share}
use Rattle.cqs_floor_shared_kinds.specs.ShareCalls as calls
use Rattle.cqs_floor_shared_queue.specs.Spots.{answer_for, place_in, spot_came, spot_in}

module _ {X : Type 0} where
  -- of what is kept at a place this holds
  pub record HasAt (shares : List X) (at : ℕ) (Can : X → Type 0) : Type 0 where
    pub share : X
    pub there : slice_get shares at ≡ Some share
    pub can : Can share

  -- what is kept at a place has made a call, and the others are as they were
  pub record Calls (old : List X) (at : ℕ) (Makes : X → X → Type 0) (new : List X) : Type 0 where
    pub share : X
    pub there : slice_get old at ≡ Some share
    pub after : X
    pub made : Makes share after
    pub shares : new ≡ slice_set old at after

  -- a call that may have to wait there, in a round; and what the jobs then hold, and in which
  -- rounds they arrive next
  pub record Comes (Makes : X → Came → X → Type 0) (old : Ledger X) (at round job : ℕ)
      (holdings : Came → List JobHolding) (rounds : Came → List (List ℕ))
      (answer : Result FloorTake Turned) (new : Ledger X) : Type 0 where
    pub came : Came
    pub calls : Calls old.shares at (λ x y. Makes x came y) new.shares
    pub answered : answer ≡ answer_for came
    pub written : new
        ≡ with_shares (with_come old at round job came (holdings came) (rounds came)) new.shares

  -- the job's wait in a cell, of which its resource was asked; and what is written down then
  pub record Asked (Makes : FloorWait → X → X → Type 0) (old : Ledger X) (job : ℕ)
      (written : FloorWait → Ledger X) (new : Ledger X) : Type 0 where
    pub wait : FloorWait
    pub is : slice_get old.spots job ≡ Some (spot_in wait)
    pub calls : Calls old.shares wait.at (Makes wait) new.shares
    pub writes : new ≡ with_shares (written wait) new.shares

  -- what the job waits for came with its number: it has that, and its resource isn't asked
  pub record Finds (old : Ledger X) (job element : ℕ) (new : Ledger X) : Type 0 where
    pub wait : FloorWait
    pub is : slice_get old.spots job ≡ Some (spot_came wait)
    pub permit : element ≡ 0
    pub writes : new ≡ with_grant old wait.at job 0

module _ {X : Type 0} (s : Share X) where
  abbrev pub Takes : Ledger X → ℕ → ℕ → Result FloorTake Turned → Ledger X → Type 0
  Takes old at job answer new =
      Comes (calls.Takes s job) old at 0 job (and_taken old.holdings at job) (λ c. old.rounds)
      answer new

  abbrev pub Waits : Ledger X → ℕ → ℕ → Result FloorTake Turned → Ledger X → Type 0
  Waits old at job answer new =
      Comes (calls.Waits s job) old at 0 job (λ c. old.holdings) (λ c. old.rounds) answer new

  abbrev pub Arrives : Ledger X → ℕ → ℕ → Result FloorTake Turned → Ledger X → Type 0
  Arrives old at job answer new =
      Comes (calls.Arrives s job (round_in old job at)) old at (round_in old job at) job
      (λ c. old.holdings) (and_arrived old.rounds at job) answer new

  -- a give, and a count down
  pub record Gives (old : Ledger X) (at job : ℕ) (answer : SharedGive) (new : Ledger X) : Type 0
    where
      pub calls : Calls old.shares at (λ x y. calls.Gives s job x answer y) new.shares
      pub written : new
          ≡ with_shares (record old { holdings = less_oldest at job old.holdings }) new.shares

  pub record Downs (old : Ledger X) (at : ℕ) (answer : FloorDown) (new : Ledger X) : Type 0 where
    pub calls : Calls old.shares at (λ x y. calls.Counts s x answer y) new.shares
    pub written : new ≡ with_shares old new.shares

  -- the job has a wait, and where that stands in a cell its resource may be asked
  pub record CanEndWait (l : Ledger X) (job : ℕ) : Type 0 where
    pub wait : FloorWait
    pub came : Bool
    pub is : slice_get l.spots job ≡ Some (record { wait = Some wait; came = came })
    pub place : wait.at < length l.kinds
    pub share : came ≡ false
        → HasAt l.shares wait.at (calls.CanEnd s job wait.round (place_in wait))

  abbrev pub Looks : Ledger X → ℕ → FloorLook → Ledger X → Type 0
  Looks old job Pending new =
      Asked (λ w x y. calls.Looks s job x w.round (place_in w) Pending y) old job (λ w. old) new
  Looks old job (Granted element) new =
      Finds old job element new
      ⊎ Asked (λ w x y. calls.Looks s job x w.round (place_in w) (Granted element) y) old job
      (λ w. with_grant old w.at job element) new

  abbrev pub Leaves : Ledger X → ℕ → FloorLeave → Ledger X → Type 0
  Leaves old job Gone new =
      Asked (λ w x y. calls.Leaves s job x w.round (place_in w) Gone y) old job
      (λ w. with_back (without_wait old job) job w) new
  Leaves old job (Late element) new =
      Finds old job element new
      ⊎ Asked (λ w x y. calls.Leaves s job x w.round (place_in w) (Late element) y) old job
      (λ w. with_grant old w.at job element) new

  -- the resource at a place is one that can be asked how it stands, and it was asked
  pub record CanEndAt (l : Ledger X) (at : ℕ) : Type 0 where
    pub kind : Kind
    pub is : slice_get l.kinds at ≡ Some kind
    pub share : HasAt l.shares at (calls.CanTell s kind)

  pub record Ends (l : Ledger X) (at : ℕ) (answer : FloorEnd) : Type 0 where
    pub kind : Kind
    pub is : slice_get l.kinds at ≡ Some kind
    pub share : HasAt l.shares at (λ x. calls.Tells s kind x answer)
