-- The plain floor: what contracts see of a floor. One caller makes all its calls, as pass 0.
use Rattle.std.specs.Prelude.{◌≡◌, ℕ, ◌+◌, ◌-◌, ◌<◌, List, [], ◌∷◌, ◌++◌, Bool, false, Option, Some, None, IsSome, length, map, replicate, sum_by, count_by, find, ◌==◌, slice_get, slice_index, slice_index_or, slice_set, if◌then◌else◌}
use Rattle.std.specs.Option.{option_map_or}
use Rattle.std.specs.List.{list_any, range_with_len}
use Rattle.cqs_core.specs.Keyed.{without}
use Rattle.cqs_plan.specs.FloorHistory.{History, of_permits, Deed, Standing, no_history, with_deed_in, standing_in, first_free, came_for, to_come}
use Rattle.cqs_plan.specs.declared.plans.kind.Kind.{Kind}
use Rattle.cqs_plan.specs.declared.plans.kind.Kind.TheVariants as kind
use Rattle.cqs_plan.specs.declared.plans.job.Job.{Job}
use Rattle.cqs_plan.specs.declared.plans.plan.Plan.{Plan}
use Rattle.cqs_plan.specs.Language.{can_hold, is_barrier}
use Rattle.cqs_plan.specs.PlanSteps.{may_wait}

-- the wait of a job: the place of its resource, the round where that is a barrier, and its number
-- there. What isn't a barrier has the round 0
pub record JobWait : Type 0 where
  pub at : ℕ
  pub round : ℕ
  pub number : ℕ

-- something that a job holds: the place of its resource, and which element of it
pub record Holding : Type 0 where
  pub at : ℕ
  pub element : ℕ

-- all that a floor is to its caller
pub record PlainFloor : Type 0 where
  -- what each resource is
  pub kinds : List Kind
  -- for each resource what happened so far
  pub histories : List History
  -- for each resource for how many takes, waits and arrivals it has room
  pub room : List ℕ
  -- for each job its wait
  pub waits : List (Option JobWait)
  -- for each job what it holds, oldest first
  pub holds : List (List Holding)
  -- for each job how often it arrived at each resource and didn't take that back, which is the
  -- round of its next arrival
  pub rounds : List (List ℕ)

-- what happened at a resource
abbrev pub history_at : PlainFloor → ℕ → History
history_at f at = slice_index_or f.histories at (of_permits [])

-- for how many takes, waits and arrivals a resource has room
abbrev pub room_at : PlainFloor → ℕ → ℕ
room_at f at = slice_index f.room at

-- the wait of a job, if it has one
abbrev pub wait_of : PlainFloor → ℕ → Option JobWait
wait_of f job = slice_index_or f.waits job None

-- what a job holds
abbrev pub holds_of : PlainFloor → ℕ → List Holding
holds_of f job = slice_index_or f.holds job []

-- in which round a job arrives next, of each resource and of one
abbrev pub own_rounds : PlainFloor → ℕ → List ℕ
own_rounds f job = slice_index_or f.rounds job []

abbrev pub round_of : PlainFloor → ℕ → ℕ → ℕ
round_of f job at = slice_index_or (own_rounds f job) at 0

-- how large a resource is: its permits or elements, where a mutex is a semaphore of one permit; how
-- often a latch is to be counted down; the parties of a barrier
abbrev pub size_of : Option Kind → ℕ
size_of (Some (kind.Semaphore permits)) = permits
size_of (Some kind.Mutex) = 1
size_of (Some (kind.Pool elements)) = elements
size_of (Some (kind.Latch count)) = count
size_of (Some (kind.Rounds parties rounds)) = parties
size_of None = 0

abbrev pub size_at : PlainFloor → ℕ → ℕ
size_at f at = size_of (slice_get f.kinds at)

-- how the resource at a place stands, a barrier in this round
abbrev pub stands_in : PlainFloor → ℕ → ℕ → Standing
stands_in f at round = standing_in (size_at f at) (history_at f at) round

abbrev pub standing_at : PlainFloor → ℕ → Standing
standing_at f at = stands_in f at 0

-- how often it is still to be counted down, or how many are still to arrive in this round
abbrev pub to_come_at : PlainFloor → ℕ → ℕ → ℕ
to_come_at f at round = to_come (size_at f at) (history_at f at) round

-- which element is the first that is free there, and which came for a wait
abbrev pub first_free_at : PlainFloor → ℕ → ℕ
first_free_at f at = first_free (size_at f at) (history_at f at)

abbrev pub came_to : PlainFloor → JobWait → ℕ
came_to f wait = came_for (size_at f wait.at) (history_at f wait.at) wait.number

-- there is a resource that can be taken and given
abbrev pub IsHoldable : Option Kind → Type 0
IsHoldable (Some (kind.Semaphore permits)) = Unit {0}
IsHoldable (Some kind.Mutex) = Unit {0}
IsHoldable (Some (kind.Pool elements)) = Unit {0}
IsHoldable (Some (kind.Latch count)) = ⊥
IsHoldable (Some (kind.Rounds parties rounds)) = ⊥
IsHoldable None = ⊥

-- there is a latch
abbrev pub IsLatch : Option Kind → Type 0
IsLatch (Some (kind.Latch count)) = Unit {0}
IsLatch (Some (kind.Semaphore permits)) = ⊥
IsLatch (Some kind.Mutex) = ⊥
IsLatch (Some (kind.Pool elements)) = ⊥
IsLatch (Some (kind.Rounds parties rounds)) = ⊥
IsLatch None = ⊥

-- there is a barrier that has this round
abbrev pub HasRound : Option Kind → ℕ → Type 0
HasRound (Some (kind.Rounds parties rounds)) round = round < rounds
HasRound (Some (kind.Semaphore permits)) round = ⊥
HasRound (Some kind.Mutex) round = ⊥
HasRound (Some (kind.Pool elements)) round = ⊥
HasRound (Some (kind.Latch count)) round = ⊥
HasRound None round = ⊥

-- the place of a job, which has a round at each resource
pub record IsJob (f : PlainFloor) (job : ℕ) : Type 0 where
  pub waits : job < length f.waits
  pub holds : job < length f.holds
  pub rounds : job < length f.rounds
  pub each : length (own_rounds f job) ≡ length f.kinds

-- the job has no wait
abbrev pub IsIdle : PlainFloor → ℕ → Type 0
IsIdle f job = wait_of f job ≡ None

-- the job has a wait
abbrev pub IsWaiting : PlainFloor → ℕ → Type 0
IsWaiting f job = IsSome (wait_of f job)

-- the oldest that is held of a resource
abbrev pub oldest : ℕ → List Holding → Option Holding
oldest at holds = find (λ h. h.at == at) holds

-- the job holds something of the resource
abbrev pub IsHolding : PlainFloor → ℕ → ℕ → Type 0
IsHolding f at job = IsSome (oldest at (holds_of f job))

-- this happens at a resource, at a barrier in this round
abbrev pub with_done_in : PlainFloor → ℕ → ℕ → Deed → PlainFloor
with_done_in f at round deed =
    record f {
      histories = slice_set f.histories at
          (with_deed_in (size_at f at) (history_at f at) round deed);
    }

abbrev pub with_done : PlainFloor → ℕ → Deed → PlainFloor
with_done f at deed = with_done_in f at 0 deed

-- one take, wait or arrival less has room
abbrev pub with_less_room : PlainFloor → ℕ → PlainFloor
with_less_room f at = record f { room = slice_set f.room at (room_at f at - 1) }

-- the wait of a job changes
abbrev pub with_wait : PlainFloor → ℕ → Option JobWait → PlainFloor
with_wait f job wait = record f { waits = slice_set f.waits job wait }

-- what came is the newest that the job holds
abbrev pub with_newest : PlainFloor → ℕ → ℕ → ℕ → PlainFloor
with_newest f job at element =
    record f {
      holds = slice_set f.holds job (holds_of f job
          ++ record { at = at; element = element } ∷ []);
    }

-- something of the resource can be taken and given
abbrev pub is_holdable : PlainFloor → ℕ → Bool
is_holdable f at = option_map_or can_hold (slice_get f.kinds at) false

-- where it can be held, what came is the newest that the job holds
abbrev pub with_came : PlainFloor → ℕ → ℕ → ℕ → PlainFloor
with_came f job at element = if is_holdable f at then with_newest f job at element else f

-- the job arrived at a resource once more
abbrev pub with_arrived : PlainFloor → ℕ → ℕ → PlainFloor
with_arrived f job at =
    record f {
      rounds = slice_set f.rounds job
          (slice_set (own_rounds f job) at (round_of f job at + 1));
    }

-- there is a barrier
abbrev pub is_barrier_in : List Kind → ℕ → Bool
is_barrier_in kinds at = option_map_or is_barrier (slice_get kinds at) false

-- in which rounds the jobs arrive next, where a job took back its arrival: it arrives in that round
-- again. Nothing but a barrier has rounds
abbrev pub rounds_back : List Kind → List (List ℕ) → ℕ → JobWait → List (List ℕ)
rounds_back kinds rounds job wait =
    if is_barrier_in kinds wait.at
    then slice_set rounds job (slice_set (slice_index_or rounds job []) wait.at wait.round)
    else rounds

abbrev pub with_back : PlainFloor → ℕ → JobWait → PlainFloor
with_back f job wait = record f { rounds = rounds_back f.kinds f.rounds job wait }

-- the oldest that the job holds of a resource is gone
abbrev pub without_oldest : PlainFloor → ℕ → ℕ → PlainFloor
without_oldest f job at =
    record f { holds = slice_set f.holds job (without (λ h. h.at) at (holds_of f job)) }

-- what a job may do so often at a resource where a step of it may have to wait
abbrev pub times_at : ℕ → Job → ℕ → ℕ
times_at at job times = if list_any (may_wait at) job.steps then times else 0

-- how often a job may begin to wait at a resource: once for each step that may have to wait there,
-- and once for each retry
abbrev pub waits_of_job : ℕ → Job → ℕ
waits_of_job at job = count_by (may_wait at) job.steps + times_at at job job.retry

abbrev pub room_for : Plan → ℕ → ℕ
room_for plan at = sum_by (waits_of_job at) plan.jobs

-- the floor on which a plan begins: nothing has happened, each resource has room for the plan's
-- takes, waits and arrivals, with all retries, and each job is in the first round of each barrier
abbrev pub opening_floor : Plan → PlainFloor
opening_floor plan = record {
  kinds = map (λ resource. resource.kind) plan.resources;
  histories = map (λ resource. no_history resource.kind) plan.resources;
  room = map (room_for plan) (range_with_len 0 (length plan.resources));
  waits = replicate (length plan.jobs) None;
  holds = replicate (length plan.jobs) [];
  rounds = replicate (length plan.jobs) (replicate (length plan.resources) 0);
}
