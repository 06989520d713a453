-- The calls of a shared floor: what each answer means.
use Rattle.std.specs.Prelude.{◌≡◌, ◌⊎◌, ℕ, suc, ◌+◌, ◌-◌, ◌≤◌, Bool, true, false, List, [], ◌∷◌, ◌++◌, length, Option, Some, None, IsSome, Result, Ok, Err, slice_index, slice_set, max}
use Rattle.std.specs.Option.{option_map_or}
use Rattle.cqs_core.specs.Parts.{Has}
use Rattle.cqs_plan.specs.declared.plans.kind.Kind.{Kind}
use Rattle.cqs_plan.specs.declared.plans.kind.Kind.TheVariants as kind
use Rattle.cqs_plan.specs.declared.floors.answers.FloorTake.{FloorTake}
use Rattle.cqs_plan.specs.declared.floors.answers.FloorTake.TheVariants as take
use Rattle.cqs_plan.specs.declared.floors.answers.FloorGive.TheVariants.{Free}
use Rattle.cqs_plan.specs.declared.floors.answers.FloorLook.{FloorLook}
use Rattle.cqs_plan.specs.declared.floors.answers.FloorLook.TheVariants.{Pending, Granted}
use Rattle.cqs_plan.specs.declared.floors.answers.FloorLeave.{FloorLeave}
use Rattle.cqs_plan.specs.declared.floors.answers.FloorLeave.TheVariants.{Gone, Late}
use Rattle.cqs_plan.specs.declared.floors.answers.FloorDown.{FloorDown}
use Rattle.cqs_plan.specs.declared.floors.answers.FloorEnd.{FloorEnd}
use Rattle.cqs_plan.specs.Floor.{PlainFloor, JobWait, wait_of, holds_of, room_at, round_of, oldest, size_at, with_less_room}
use Rattle.cqs_plan.specs.FloorCalls.{after_take, after_wait, after_arrive, after_give, after_look, after_leave}
use Rattle.cqs_plan.specs.FloorHistory.{History, ending}
use Rattle.cqs_floor_shared.specs.declared.shared.Turned.{Turned}
use Rattle.cqs_floor_shared.specs.declared.shared.SharedGive.{SharedGive}
use Rattle.cqs_floor_shared.specs.declared.shared.SharedGive.TheVariants as shared
use Rattle.cqs_floor_shared.specs.Entries.{own_history, is_nothing, IsBefore, drawn_in, IsDelivered, EndsDelivered, IsUnserved, HasGone, AreOfPermits}
use Rattle.cqs_floor_shared.specs.AnswerEntries.{came_entries, give_entries, look_entries, leave_entries, unless_came, down_entries}
use Rattle.cqs_floor_shared.specs.Shared.{Shared, Sees, IsLegalAt, seen_at, kind_at, parties_at, with_parties, came_of}

-- the answer of a call that wasn't turned away
abbrev pub answer_of : Result FloorTake Turned → Option FloorTake
answer_of (Ok answer) = Some answer
answer_of (Err turned) = None

-- what the jobs have after a take, a wait at a latch, an arrival; a call that was turned away has
-- used up its room alone
abbrev pub board_taken : PlainFloor → ℕ → ℕ → Option FloorTake → PlainFloor
board_taken b at job (Some answer) = after_take b at job answer
board_taken b at job None = with_less_room b at

abbrev pub board_waited : PlainFloor → ℕ → ℕ → Option FloorTake → PlainFloor
board_waited b at job (Some answer) = after_wait b at job answer
board_waited b at job None = with_less_room b at

abbrev pub board_arrived : PlainFloor → ℕ → ℕ → Option FloorTake → PlainFloor
board_arrived b at job (Some answer) = after_arrive b at job answer
board_arrived b at job None = with_less_room b at

-- after a give, wherever it went
abbrev pub board_given : PlainFloor → ℕ → ℕ → PlainFloor
board_given b at job = after_give b at job (Free 0)

-- which element the job gives back there
abbrev pub element_held : PlainFloor → ℕ → ℕ → ℕ
element_held b at job = option_map_or (λ h. h.element) (oldest at (holds_of b job)) 0

-- an arrival takes a party of the pass
abbrev pub parties_arrived : Shared → ℕ → ℕ → Option FloorTake → List (List ℕ)
parties_arrived f at round (Some answer) =
    with_parties f.parties at round (parties_at f at round - 1)
parties_arrived f at round None = f.parties

-- one that withdraws gives its party back
abbrev pub parties_left_at : Option Kind → Shared → JobWait → List (List ℕ)
parties_left_at (Some (kind.Rounds parties rounds)) f wait =
    with_parties f.parties wait.at wait.round (parties_at f wait.at wait.round + 1)
parties_left_at k f wait = f.parties

abbrev pub parties_left : Shared → JobWait → FloorLeave → List (List ℕ)
parties_left f wait Gone = parties_left_at (kind_at f wait.at) f wait
parties_left f wait (Late element) = f.parties

-- a take of a pool draws a number each time
abbrev pub IsDrawn : Option Kind → Option FloorTake → Option ℕ → Type 0
IsDrawn (Some (kind.Pool elements)) (Some (take.Now element)) None = ⊥
IsDrawn k answer drew = Unit {0}

-- only a permit comes with its number, of a semaphore or a mutex
abbrev pub MayCome : Bool → Option Kind → Type 0
MayCome false k = Unit {0}
MayCome true (Some (kind.Semaphore permits)) = Unit {0}
MayCome true (Some kind.Mutex) = Unit {0}
MayCome true (Some (kind.Pool elements)) = ⊥
MayCome true (Some (kind.Latch count)) = ⊥
MayCome true (Some (kind.Rounds parties rounds)) = ⊥
MayCome true None = ⊥

-- only elements of a pool have numbers of their own: what else comes has the number 0
abbrev pub IsElement : Option Kind → ℕ → Type 0
IsElement (Some (kind.Pool elements)) e = Unit {0}
IsElement k e = e ≡ 0

abbrev pub TakesElement : Option Kind → Option FloorTake → Type 0
TakesElement k (Some (take.Now e)) = IsElement k e
TakesElement k (Some (take.Waits number)) = Unit {0}
TakesElement k None = Unit {0}

abbrev pub FindsElement : Option Kind → FloorLook → Type 0
FindsElement k (Granted e) = IsElement k e
FindsElement k Pending = Unit {0}

abbrev pub KeepsElement : Option Kind → FloorLeave → Type 0
KeepsElement k (Late e) = IsElement k e
KeepsElement k Gone = Unit {0}

-- A call that may have to wait there: it comes to take, to wait at a latch, or to arrive in a
-- round.
-- After it the jobs have this, and the pass holds these parties.
pub record Comes (f : Shared) (at round job : ℕ) (after : PlainFloor) (held : List (List ℕ))
    (answer : Option FloorTake) (g : Shared) : Type 0 where
  -- the number that it drew, where it had at once what it came for
  pub drew : Option ℕ
  -- whether what it waits for came with its number: then it was delivered in this call
  pub with_it : Bool
  pub sees : Sees f at (came_entries (kind_at f at) round f.number answer drew) g
  pub board : g.board ≡ after
  pub parties : g.parties ≡ held
  pub came : g.came ≡ slice_set f.came job with_it
  pub delivered : (k : ℕ) → with_it ≡ true → answer ≡ Some (take.Waits k)
      → (e : ℕ) × IsDelivered (seen_at g at) round k e
  pub may : MayCome with_it (kind_at f at)
  pub element : TakesElement (kind_at f at) answer
  -- what it had at once under a number was delivered in this call
  pub drawn : IsDrawn (kind_at f at) answer drew
  pub had : (k e : ℕ) → drew ≡ Some k → answer ≡ Some (take.Now e)
      → IsDelivered (seen_at g at) round k e
  -- it is turned away only where no number is left
  pub worn : answer ≡ None → slice_index f.limits at ≤ drawn_in (seen_at g at) round

abbrev pub Takes : Shared → ℕ → ℕ → Option FloorTake → Shared → Type 0
Takes f at job answer g =
    Comes f at 0 job (board_taken f.board at job answer) f.parties answer g

abbrev pub Waits : Shared → ℕ → ℕ → Option FloorTake → Shared → Type 0
Waits f at job answer g =
    Comes f at 0 job (board_waited f.board at job answer) f.parties answer g

abbrev pub Arrives : Shared → ℕ → ℕ → Option FloorTake → Shared → Type 0
Arrives f at job answer g =
    Comes f at (round_of f.board job at) job (board_arrived f.board at job answer)
    (parties_arrived f at (round_of f.board job at) answer) answer g

-- What is told of what was given back: which element it is; and of one that was sent, whose wait
-- got it, with the last entry of the call. To the number under which it was left nothing had been
-- delivered by then, by this call or another; nor to one that was found gone, whose wait had left
-- the line. Only a permit may be free, or sent for nothing: an element is put into a cell in any
-- case.
abbrev pub TellsGive : ℕ → SharedGive → History → Type 0
TellsGive element (shared.Free e) seen = (e ≡ element) × AreOfPermits seen
TellsGive element (shared.Sent e k) seen = (e ≡ element) × EndsDelivered seen k element
TellsGive element (shared.Left e k) seen = (e ≡ element) × IsUnserved seen k
TellsGive element (shared.Void k) seen = HasGone seen k × IsUnserved seen k

pub record Gives (f : Shared) (at job : ℕ) (answer : SharedGive) (g : Shared) : Type 0 where
  pub sees : Sees f at (give_entries (kind_at f at) f.number (element_held f.board at job) answer) g
  pub tells : TellsGive (element_held f.board at job) answer (seen_at g at)
  pub board : g.board ≡ board_given f.board at job
  pub parties : g.parties ≡ f.parties
  pub came : g.came ≡ f.came

pub record Downs (f : Shared) (at : ℕ) (answer : FloorDown) (g : Shared) : Type 0 where
  pub sees : Sees f at (down_entries f.number answer) g
  pub board : g.board ≡ f.board
  pub parties : g.parties ≡ f.parties
  pub came : g.came ≡ f.came

-- what came with its number is found at once
abbrev pub IsFound : Bool → FloorLook → Type 0
IsFound true Pending = ⊥
IsFound came answer = Unit {0}

abbrev pub IsLate : Bool → FloorLeave → Type 0
IsLate true Gone = ⊥
IsLate came answer = Unit {0}

pub record Looks (f : Shared) (job : ℕ) (wait : JobWait) (answer : FloorLook) (g : Shared)
    : Type 0 where
  pub sees : Sees f wait.at
      (unless_came (came_of f job)
      (look_entries (kind_at f wait.at) wait.round f.number wait.number answer)) g
  pub board : g.board ≡ after_look f.board job answer
  pub parties : g.parties ≡ f.parties
  pub came : g.came ≡ f.came
  pub found : IsFound (came_of f job) answer
  pub element : FindsElement (kind_at f wait.at) answer

pub record Leaves (f : Shared) (job : ℕ) (wait : JobWait) (answer : FloorLeave) (g : Shared)
    : Type 0 where
  -- at a barrier, whether it was too late though its wait wasn't served yet
  pub stays : Bool
  pub sees : Sees f wait.at
      (unless_came (came_of f job)
      (leave_entries (kind_at f wait.at) wait.round f.number wait.number answer stays)) g
  pub board : g.board ≡ after_leave f.board job answer
  pub parties : g.parties ≡ parties_left f wait answer
  pub came : g.came ≡ f.came
  pub found : IsLate (came_of f job) answer
  pub element : KeepsElement (kind_at f wait.at) answer

-- the job looked at its wait, or wanted to leave with it
pub record HasLooked (f : Shared) (job : ℕ) (answer : FloorLook) (g : Shared) : Type 0 where
  pub at : (wait : JobWait) → wait_of f.board job ≡ Some wait → Looks f job wait answer g

pub record HasLeft (f : Shared) (job : ℕ) (answer : FloorLeave) (g : Shared) : Type 0 where
  pub at : (wait : JobWait) → wait_of f.board job ≡ Some wait → Leaves f job wait answer g

-- some job of the floor has a wait
abbrev pub HasWait : PlainFloor → Type 0
HasWait b = (job : ℕ) × IsSome (wait_of b job)

-- all floors that were split from one have met in this one
abbrev pub HaveAllMet : Shared → Type 0
HaveAllMet f = suc (length f.met) ≡ f.floors

-- Two floors that meet. Nothing of what either has seen is lost, nothing of either's own is added,
-- and all is legal. What the jobs hold, the room and the parties are put together; a job's round is
-- the greater of the two.
pub record Meets (f given g : Shared) : Type 0 where
  pub staying : (at : ℕ) → IsBefore (seen_at f at) (seen_at g at)
  pub coming : (at : ℕ) → IsBefore (seen_at given at) (seen_at g at)
  pub legal : (at : ℕ) → IsLegalAt g.board at (seen_at g at)
  pub mine : (at n : ℕ) → Has n (f.number ∷ f.met)
      → own_history n (seen_at g at) ≡ own_history n (seen_at f at)
  pub theirs : (at n : ℕ) → Has n (given.number ∷ given.met)
      → own_history n (seen_at g at) ≡ own_history n (seen_at given at)
  -- where all have met, no entry names another pass
  pub all : HaveAllMet g → (at n : ℕ)
      → (is_nothing (own_history n (seen_at g at)) ≡ true) ⊎ Has n (g.number ∷ g.met)
  pub met : g.met ≡ f.met ++ (given.number ∷ given.met)
  pub waits : g.board.waits ≡ f.board.waits
  pub holds : (job : ℕ) → holds_of g.board job ≡ holds_of f.board job ++ holds_of given.board job
  pub rounds : (job at : ℕ)
      → round_of g.board job at ≡ max (round_of f.board job at) (round_of given.board job at)
  pub room : (at : ℕ) → room_at g.board at ≡ room_at f.board at + room_at given.board at
  pub parties : (at round : ℕ)
      → parties_at g at round ≡ parties_at f at round + parties_at given at round
  pub kinds : g.board.kinds ≡ f.board.kinds
  pub came : g.came ≡ f.came
  pub limits : g.limits ≡ f.limits
  pub number : g.number ≡ f.number
  pub floors : g.floors ≡ f.floors
  pub family : g.family ≡ f.family

-- no job has a wait or holds anything
pub record IsAtRest (b : PlainFloor) : Type 0 where
  pub waits : (job : ℕ) → wait_of b job ≡ None
  pub holds : (job : ℕ) → holds_of b job ≡ []

-- how a resource stands after what the pass has seen
abbrev pub end_answer : Shared → ℕ → FloorEnd
end_answer f at = ending (size_at f.board at) (seen_at f at)
