-- The calls of a resource that workers share: where a job may make them, and what each answer
-- means.
use Rattle.std.specs.Prelude.{◌≡◌, ◌≢◌, ℕ, suc, ◌+◌, ◌-◌, ◌<◌, ◌≤◌, Bool, true, false, List, [], ◌∷◌, ◌++◌, length, map, replicate, Option, Some, None, slice_get, slice_index_or, slice_set}
use Rattle.cqs_core.specs.Parts.{Has}
use Rattle.cqs_plan.specs.declared.plans.kind.Kind.{Kind}
use Rattle.cqs_plan.specs.declared.plans.kind.Kind.TheVariants as kind
use Rattle.cqs_plan.specs.declared.floors.answers.FloorTake.{FloorTake}
use Rattle.cqs_plan.specs.declared.floors.answers.FloorTake.TheVariants as take
use Rattle.cqs_plan.specs.declared.floors.answers.FloorLook.{FloorLook}
use Rattle.cqs_plan.specs.declared.floors.answers.FloorLook.TheVariants.{Pending, Granted}
use Rattle.cqs_plan.specs.declared.floors.answers.FloorLeave.{FloorLeave}
use Rattle.cqs_plan.specs.declared.floors.answers.FloorLeave.TheVariants.{Gone, Late}
use Rattle.cqs_plan.specs.declared.floors.answers.FloorDown.{FloorDown}
use Rattle.cqs_plan.specs.declared.floors.answers.FloorEnd.{FloorEnd}
use Rattle.cqs_plan.specs.Floor.{HasRound, IsHoldable, IsLatch, size_of}
use Rattle.cqs_plan.specs.FloorHistory.{ending, no_history}
use Rattle.cqs_plan.specs.LegalFloor.{IsHistory}
use Rattle.cqs_rule_laws.specs.declared.config.Place.{Place}
use Rattle.cqs_floor_common.specs.HeldElements.{held_by}
use Rattle.cqs_floor_shared.specs.declared.shared.SharedGive.{SharedGive}
use Rattle.cqs_floor_shared.specs.Entries.{own_history, is_nothing, IsBefore, drawn_in, IsDelivered}
use Rattle.cqs_floor_shared.specs.AnswerEntries.{came_entries, give_entries, look_entries, leave_entries, down_entries}
use Rattle.cqs_floor_shared.specs.Calls.{FindsElement, IsDrawn, KeepsElement, MayCome, TakesElement, TellsGive}
use Rattle.cqs_floor_shared_kinds.specs.declared.resource.Came.{Came}
use Rattle.cqs_floor_shared_kinds.specs.declared.resource.Came.TheVariants as came
use Rattle.cqs_floor_shared_kinds.specs.Shares.{Funds, IsSame, Share, Sees, IsWhole, KeepsAll, KeepsOthers, join_held, own, with_brought, with_came, with_less, with_more, with_wait}

-- the oldest that a job holds, or 0
abbrev pub oldest : Funds → ℕ → ℕ
oldest a job = slice_index_or (held_by a.held job) 0 0

-- an arrival takes a party of the pass in its round, and one that withdraws gives it back
abbrev pub party_less : List ℕ → ℕ → List ℕ
party_less parties round = slice_set parties round (slice_index_or parties round 0 - 1)

abbrev pub party_more : List ℕ → ℕ → List ℕ
party_more parties round = slice_set parties round (slice_index_or parties round 0 + 1)

-- what is a barrier gets its party back from a wait that is gone
abbrev pub parties_left : Kind → List ℕ → ℕ → FloorLeave → List ℕ
parties_left (kind.Rounds parties rounds) had round Gone = party_more had round
parties_left (kind.Semaphore permits) had round Gone = had
parties_left kind.Mutex had round Gone = had
parties_left (kind.Pool elements) had round Gone = had
parties_left (kind.Latch count) had round Gone = had
parties_left k had round (Late element) = had

-- the jobs hold nothing
abbrev pub HoldNothing : List (List ℕ) → Type 0
HoldNothing [] = Unit {0}
HoldNothing (es ∷ held) = (es ≡ []) × HoldNothing held

-- the parties of both, round by round
abbrev pub AreSums : List ℕ → List ℕ → List ℕ → Type 0
AreSums mine theirs all =
    (round : ℕ) → slice_index_or all round 0
    ≡ slice_index_or mine round 0 + slice_index_or theirs round 0

module _ {X : Type 0} (s : Share X) where
  -- where a job may take, give back, count down, wait at a latch, arrive at a barrier, or end a
  -- wait
  pub record CanTake (job : ℕ) (x : X) : Type 0 where
    pub a : Funds
    pub funded : s.funded x a
    pub holdable : IsHoldable (Some a.kind)
    pub there : job < length a.held

  pub record CanGive (job : ℕ) (x : X) : Type 0 where
    pub a : Funds
    pub funded : s.funded x a
    pub holdable : IsHoldable (Some a.kind)
    pub some : 0 < length (held_by a.held job)

  pub record CanCount (x : X) : Type 0 where
    pub a : Funds
    pub funded : s.funded x a
    pub latch : IsLatch (Some a.kind)

  pub record CanWait (job : ℕ) (x : X) : Type 0 where
    pub a : Funds
    pub funded : s.funded x a
    pub latch : IsLatch (Some a.kind)
    pub there : job < length a.held

  pub record CanArrive (job round : ℕ) (x : X) : Type 0 where
    pub a : Funds
    pub funded : s.funded x a
    pub barrier : HasRound (Some a.kind) round
    pub there : job < length a.held
    pub party : 0 < slice_index_or (s.parties x) round 0

  pub record CanEnd (job round : ℕ) (wait : Place) (x : X) : Type 0 where
    pub a : Funds
    pub funded : s.funded x (with_wait a)
    pub there : job < length a.held
    pub has : s.has x round wait

  -- where it may take another in: that has no wait, is of the same family, and has other numbers
  pub record CanMeet (given x : X) : Type 0 where
    pub a : Funds
    pub b : Funds
    pub funded : s.funded x a
    pub given_funded : s.funded given b
    pub kind : b.kind ≡ a.kind
    pub waitless : b.waiting ≡ 0
    pub all_seen : b.came ≡ 0
    pub family : s.family given ≡ s.family x
    pub apart : (n : ℕ) → Has n (own s x) → Has n (own s given) → ⊥

  -- where it may be asked how it stands: the jobs have nothing of it, and its pass knows all
  pub record CanTell (kind : Kind) (x : X) : Type 0 where
    pub a : Funds
    pub funded : s.funded x a
    pub kind_is : a.kind ≡ kind
    pub waitless : a.waiting ≡ 0
    pub all_seen : a.came ≡ 0
    pub nothing : HoldNothing a.held
    pub whole : IsWhole s x

  -- A call that may have to wait there: it comes to take, to wait at a latch, or to arrive in a
  -- round. After it the jobs have this, and the pass holds these parties.
  pub record Comes (a : Funds) (x : X) (round : ℕ) (answer : Option FloorTake) (with_it : Bool)
      (b : Funds) (parties : List ℕ) (y : X) : Type 0 where
    -- the number that it drew, where it had at once what it came for
    pub drew : Option ℕ
    pub sees : Sees s a.kind x (came_entries (Some a.kind) round (s.number x) answer drew) y
    pub funded : s.funded y b
    pub parties_are : s.parties y ≡ parties
    pub keeps : KeepsAll s x y
    pub delivered : (k : ℕ) → with_it ≡ true → answer ≡ Some (take.Waits k)
        → (e : ℕ) × IsDelivered (s.seen y) round k e
    pub may : MayCome with_it (Some a.kind)
    pub element : TakesElement (Some a.kind) answer
    pub drawn : IsDrawn (Some a.kind) answer drew
    pub had : (k e : ℕ) → drew ≡ Some k → answer ≡ Some (take.Now e)
        → IsDelivered (s.seen y) round k e
    -- it is turned away only where no number is left
    pub worn : answer ≡ None → s.limit x ≤ drawn_in (s.seen y) round

  -- a wait that stands in a cell now, and in none of those that the caller had
  pub record Stands (round : ℕ) (wait : Place) (x y : X) : Type 0 where
    pub has : s.has y round wait
    pub fresh : (w : Place) → s.has x round w → w.index ≢ wait.index

  -- of a take what came is the job's newest; of a wait or an arrival nothing is held
  abbrev pub ComesTo : (ℕ → Funds → ℕ → Funds) → Funds → ℕ → ℕ → List ℕ → X → Came → X → Type 0
  ComesTo gets a job round after x (came.Now e) y =
      Comes a x round (Some (take.Now e)) false (gets job a e) after y
  ComesTo gets a job round after x (came.Under k) y =
      Comes a x round (Some (take.Waits k)) true (with_came a) after y
  ComesTo gets a job round after x (came.Waits wait) y =
      Comes a x round (Some (take.Waits wait.index)) false (with_wait a) after y
      × Stands round wait x y
  ComesTo gets a job round after x came.Worn y =
      Comes a x round None false a (s.parties x) y

  abbrev pub Takes : ℕ → X → Came → X → Type 0
  Takes job x answer y =
      (a : Funds) → s.funded x a → IsHoldable (Some a.kind) → job < length a.held
      → ComesTo (λ j b e. with_more b j e) a job 0 (s.parties x) x answer y

  abbrev pub Waits : ℕ → X → Came → X → Type 0
  Waits job x answer y =
      (a : Funds) → s.funded x a → IsLatch (Some a.kind) → job < length a.held
      → ComesTo (λ j b e. b) a job 0 (s.parties x) x answer y

  abbrev pub Arrives : ℕ → ℕ → X → Came → X → Type 0
  Arrives job round x answer y =
      (a : Funds) → s.funded x a → HasRound (Some a.kind) round → job < length a.held
      → ComesTo (λ j b e. b) a job round (party_less (s.parties x) round) x answer y

  -- the oldest that the job holds comes back
  pub record GivesBack (a : Funds) (job : ℕ) (x : X) (answer : SharedGive) (y : X) : Type 0 where
    pub sees : Sees s a.kind x
        (give_entries (Some a.kind) (s.number x) (oldest a job) answer) y
    pub tells : TellsGive (oldest a job) answer (s.seen y)
    pub funded : s.funded y (with_less a job)
    pub parties_are : s.parties y ≡ s.parties x
    pub keeps : KeepsAll s x y

  abbrev pub Gives : ℕ → X → SharedGive → X → Type 0
  Gives job x answer y =
      (a : Funds) → s.funded x a → IsHoldable (Some a.kind) → 0 < length (held_by a.held job)
      → GivesBack a job x answer y

  -- a latch is counted down
  pub record CountsDown (a : Funds) (x : X) (answer : FloorDown) (y : X) : Type 0 where
    pub sees : Sees s a.kind x (down_entries (s.number x) answer) y
    pub funded : s.funded y a
    pub parties_are : s.parties y ≡ s.parties x
    pub keeps : KeepsAll s x y

  abbrev pub Counts : X → FloorDown → X → Type 0
  Counts x answer y =
      (a : Funds) → s.funded x a → IsLatch (Some a.kind) → CountsDown a x answer y

  -- a look: a wait that stands in the line goes on, and one that was served is over
  pub record LooksOn (a : Funds) (round : ℕ) (wait : Place) (x y : X) : Type 0 where
    pub sees : Sees s a.kind x
        (look_entries (Some a.kind) round (s.number x) wait.index Pending) y
    pub funded : s.funded y (with_wait a)
    pub parties_are : s.parties y ≡ s.parties x
    pub keeps : KeepsAll s x y

  pub record Brings (a : Funds) (job round : ℕ) (wait : Place) (element : ℕ) (x y : X) : Type 0
    where
      pub sees : Sees s a.kind x
          (look_entries (Some a.kind) round (s.number x) wait.index (Granted element)) y
      pub funded : s.funded y (with_brought a job element)
      pub found : FindsElement (Some a.kind) (Granted element)
      pub parties_are : s.parties y ≡ s.parties x
      pub keeps : KeepsOthers s x round wait.index y

  abbrev pub Looks : ℕ → X → ℕ → Place → FloorLook → X → Type 0
  Looks job x round wait Pending y =
      (a : Funds) → s.funded x (with_wait a) → job < length a.held → LooksOn a round wait x y
  Looks job x round wait (Granted element) y =
      (a : Funds) → s.funded x (with_wait a) → job < length a.held
      → Brings a job round wait element x y

  -- a cancel: a wait that stands in the line is gone, and one that was served is over
  pub record EndsWait (a : Funds) (round : ℕ) (wait : Place) (answer : FloorLeave) (b : Funds)
      (x y : X) : Type 0 where
    -- at a barrier, whether it was too late though its wait wasn't served yet
    pub stays : Bool
    pub sees : Sees s a.kind x
        (leave_entries (Some a.kind) round (s.number x) wait.index answer stays) y
    pub funded : s.funded y b
    pub found : KeepsElement (Some a.kind) answer
    pub parties_are : s.parties y ≡ parties_left a.kind (s.parties x) round answer
    pub keeps : KeepsOthers s x round wait.index y

  abbrev pub Leaves : ℕ → X → ℕ → Place → FloorLeave → X → Type 0
  Leaves job x round wait Gone y =
      (a : Funds) → s.funded x (with_wait a) → job < length a.held
      → EndsWait a round wait Gone a x y
  Leaves job x round wait (Late element) y =
      (a : Funds) → s.funded x (with_wait a) → job < length a.held
      → EndsWait a round wait (Late element) (with_brought a job element) x y

  -- Two that meet. Nothing of what either has seen is lost, nothing of either's own is added, and
  -- all is legal. What the jobs hold and the parties are put together.
  pub record Joins (a b : Funds) (given x y : X) : Type 0 where
    pub staying : IsBefore (s.seen x) (s.seen y)
    pub coming : IsBefore (s.seen given) (s.seen y)
    pub legal : IsHistory a.kind (s.seen y)
    pub mine : (n : ℕ) → Has n (own s x)
        → own_history n (s.seen y) ≡ own_history n (s.seen x)
    pub theirs : (n : ℕ) → Has n (own s given)
        → own_history n (s.seen y) ≡ own_history n (s.seen given)
    pub number : s.number y ≡ s.number x
    pub met : s.met y ≡ s.met x ++ own s given
    pub passes : s.passes y ≡ s.passes x
    pub limit : s.limit y ≡ s.limit x
    pub family : s.family y ≡ s.family x
    pub parties : AreSums (s.parties x) (s.parties given) (s.parties y)
    pub funded : s.funded y (record a { held = join_held a.held b.held })
    pub keeps : KeepsAll s x y

  abbrev pub Meets : X → X → X → Type 0
  Meets given x y =
      (a b : Funds) → s.funded x a → s.funded given b → b.kind ≡ a.kind → b.waiting ≡ 0
      → b.came ≡ 0 → s.family given ≡ s.family x
      → ((n : ℕ) → Has n (own s x) → Has n (own s given) → ⊥)
      → Joins a b given x y

  -- the answer tells how it stands
  abbrev pub Tells : Kind → X → FloorEnd → Type 0
  Tells kind x answer = answer ≡ ending (size_of (Some kind)) (s.seen x)

  -- the parties that the first pass of a resource holds, and what it has for so many passes and so
  -- many takes, waits and arrivals
  abbrev pub first_parties : Kind → List ℕ
  first_parties (kind.Rounds parties rounds) = replicate rounds parties
  first_parties (kind.Semaphore permits) = []
  first_parties kind.Mutex = []
  first_parties (kind.Pool elements) = []
  first_parties (kind.Latch count) = []

  -- what so many jobs have of it before the first call
  abbrev pub no_funds : Kind → ℕ → Funds
  no_funds kind jobs =
      record { kind = kind; waiting = 0; came = 0; held = replicate jobs [] }

  -- nothing has happened; so many passes may be made, and there is room for so many takes, waits
  -- and arrivals
  pub record IsOpened (kind : Kind) (passes room : ℕ) (x : X) : Type 0 where
    pub number : s.number x ≡ 0
    pub met : s.met x ≡ []
    pub seen : s.seen x ≡ no_history kind
    pub passes_are : s.passes x ≡ passes
    pub limit : s.limit x ≡ suc room
    pub parties : s.parties x ≡ first_parties kind
    pub funded : (jobs : ℕ) → s.funded x (no_funds kind jobs)

  -- where it may be split: its pass holds so many parties of each round
  pub record CanSplit (gives : ℕ) (x : X) : Type 0 where
    pub a : Funds
    pub funded : s.funded x a
    pub enough : (round n : ℕ) → slice_get (s.parties x) round ≡ Some n → gives ≤ n

  -- The pass has seen more at most, of a barrier in any of its rounds, and none of it is its own.
  pub record SeesOn (kind : Kind) (x y : X) : Type 0 where
    pub staying : IsBefore (s.seen x) (s.seen y)
    pub mine : (n : ℕ) → Has n (own s x)
        → own_history n (s.seen y) ≡ own_history n (s.seen x)
    pub legal : IsHistory kind (s.seen y)
    pub same : IsSame s x y

  -- The pass made another, which has done nothing and holds so many parties of each round.
  pub record Splits (a : Funds) (gives : ℕ) (x made y : X) : Type 0 where
    pub looked : SeesOn a.kind x y
    pub funded : s.funded y a
    pub keeps : KeepsAll s x y
    pub met : s.met made ≡ []
    pub seen : s.seen made ≡ s.seen y
    pub nothing : is_nothing (own_history (s.number made) (s.seen made)) ≡ true
    pub passes : s.passes made ≡ s.passes x
    pub limit : s.limit made ≡ s.limit x
    pub family : s.family made ≡ s.family x
    pub parties : AreSums (s.parties made) (s.parties y) (s.parties x)
    pub gives_each : s.parties made ≡ map (λ n. gives) (s.parties x)
    pub made_funded : (jobs : ℕ) → s.funded made (no_funds a.kind jobs)

  abbrev pub HasSplit : ℕ → X → X → X → Type 0
  HasSplit gives x made y = (a : Funds) → s.funded x a → Splits a gives x made y
