-- The making of floors for a plan: what its steps need, and what each resource is kept as before
-- the first call.
use Rattle.std.specs.Prelude.{◌≡◌, ℕ, ◌+◌, ◌-◌, ◌*◌, ◌%◌, ◌<◌, ◌≤◌, true, nat_le, cond, ◌&&◌, List, [], ◌∷◌, length, map, replicate, sum, Some, slice_get, slice_index, slice_index_or}
use Rattle.std.specs.List.{range_with_len}
use Rattle.cqs_plan.specs.declared.plans.job.Job.{Job}
use Rattle.cqs_plan.specs.declared.plans.kind.Kind.{Kind}
use Rattle.cqs_plan.specs.declared.plans.plan.Plan.{Plan}
use Rattle.cqs_plan.specs.declared.plans.resource.Resource.{Resource}
use Rattle.cqs_plan.specs.Arriving.{arrives, rounds_of}
use Rattle.cqs_plan.specs.Runnable.{kinds_of}
use Rattle.cqs_floor_common.specs.Room.{room_of}
use Rattle.cqs_floor_shared.specs.Entries.{is_nothing, own_history}
use Rattle.cqs_floor_shared_queue.specs.Ledgers.{Ledger, kind_numbers}
use Rattle.cqs_floor_shared_kinds.specs.Shares.{Share}
use Rattle.cqs_floor_shared_kinds.specs.ShareCalls.{CanSplit, HasSplit, IsOpened, no_funds}
use Rattle.cqs_floor_shared_queue.specs.Spots.{no_spot}

-- these limits are one more at each resource than the jobs may begin to wait there
pub record AreLimits (plan : Plan) (limits : List ℕ) : Type 0 where
  pub at : (at : ℕ) → at < length plan.resources
      → slice_index limits at ≡ room_of plan.jobs at + 1

-- the job at this place, of a worker from this one on, arrives at the barrier
abbrev pub arrives_from : ℕ → ℕ → ℕ → ℕ → Job → ℕ
arrives_from workers worker at place job =
    cond (nat_le worker (place % workers) && arrives at job) 1 0

-- how many jobs do so; the place of the first is `place`
abbrev pub arriving_from : ℕ → ℕ → ℕ → ℕ → List Job → ℕ
arriving_from workers worker at place [] = 0
arriving_from workers worker at place (job ∷ jobs) =
    arrives_from workers worker at place job
    + arriving_from workers worker at (place + 1) jobs

-- how many of this one worker
abbrev pub own_arriving : ℕ → ℕ → ℕ → List Job → ℕ
own_arriving workers worker at jobs =
    arriving_from workers worker at 0 jobs - arriving_from workers (worker + 1) at 0 jobs

-- what the floors of so many workers have in common, beside the names of their resources
abbrev pub plan_name : Plan → ℕ → List (List ℕ)
plan_name plan workers =
    (length plan.jobs
    ∷ workers
    ∷ sum (map (room_of plan.jobs) (range_with_len 0 (length plan.resources)))
    ∷ [])
    ∷ map kind_numbers (kinds_of plan.resources)

module _ {X : Type 0} (s : Share X) where
  -- something for each of the first resources, for so many workers
  pub record HaveOpened (resources : List Resource) (workers : ℕ) (room : List ℕ)
      (shares : List X) : Type 0 where
    pub each : (at : ℕ) (resource : Resource) (x : X) → slice_get resources at ≡ Some resource
        → slice_get shares at ≡ Some x
        → IsOpened s resource.kind workers (slice_index room at) x

  -- Nothing that its pass did has happened. It has this number, and none was met into it.
  pub record IsFresh (k : Kind) (workers own : ℕ) (x : X) : Type 0 where
    pub number : s.number x ≡ own
    pub met : s.met x ≡ []
    pub passes : s.passes x ≡ workers
    pub funded : (jobs : ℕ) → s.funded x (no_funds s k jobs)
    pub unnamed : is_nothing (own_history own (s.seen x)) ≡ true

  -- each of these is fresh, and has so many parties of each round, at least
  pub record AreFresh (resources : List Resource) (workers number : ℕ) (least : ℕ → ℕ)
      (shares : List X) : Type 0 where
    pub long : length shares ≡ length resources
    pub each : (at : ℕ) (resource : Resource) (x : X) → slice_get resources at ≡ Some resource
        → slice_get shares at ≡ Some x → IsFresh resource.kind workers number x
    pub parties : (at : ℕ) (resource : Resource) (x : X)
        → slice_get resources at ≡ Some resource → slice_get shares at ≡ Some x
        → (round : ℕ) → round < rounds_of resource.kind
        → least at ≤ slice_index_or (s.parties x) round 0

  -- each of these may be split, with so many parties
  pub record CanSplitEach (gives : ℕ → ℕ) (shares : List X) : Type 0 where
    pub each : (at : ℕ) (x : X) → slice_get shares at ≡ Some x → CanSplit s (gives at) x

  -- and was: it made one with a pass of this number
  pub record HasSplitAt (gives : ℕ → ℕ) (number : ℕ) (made new : List X) (at : ℕ) (x : X) : Type 0
    where
      pub one : X
      pub its : slice_get made at ≡ Some one
      pub after : X
      pub there : slice_get new at ≡ Some after
      pub split : HasSplit s (gives at) x one after
      pub number_is : s.number one ≡ number

  pub record HaveSplitEach (gives : ℕ → ℕ) (number : ℕ) (old made new : List X) : Type 0 where
    pub made_long : length made ≡ length old
    pub new_long : length new ≡ length old
    pub each : (at : ℕ) (x : X) → slice_get old at ≡ Some x
        → HasSplitAt gives number made new at x

-- a desk at which no job has done anything, with memory for all that a plan's steps can lead to
pub record IsMade {X : Type 0} (plan : Plan) (workers worker : ℕ) (xs : List X) (l : Ledger X)
    : Type 0 where
  pub kinds : l.kinds ≡ kinds_of plan.resources
  pub shares : l.shares ≡ xs
  pub room : l.room ≡ map (room_of plan.jobs) (range_with_len 0 (length plan.resources))
  pub spots : l.spots ≡ replicate (length plan.jobs) no_spot
  pub rounds : l.rounds ≡ replicate (length plan.jobs) (replicate (length plan.resources) 0)
  pub holdings : l.holdings ≡ []
  pub number : l.number ≡ worker
  pub met : l.met ≡ []
  pub floors : l.floors ≡ workers
  pub budget : l.budget ≡ sum l.room
  pub few : l.budget ≤ 33554432
  pub space : l.budget * workers ≤ l.space
  pub seats : workers ≤ l.seats
