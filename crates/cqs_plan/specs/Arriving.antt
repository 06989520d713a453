-- How often and by how many jobs a barrier can be arrived at.
use Rattle.std.specs.Prelude.{ℕ, ◌<◌, Bool, true, nat_lt, nat_le, List, count_by, slice_get}
use Rattle.std.specs.List.{list_any}
use Rattle.std.specs.Option.{option_map_or}
use Rattle.cqs_plan.specs.declared.plans.job.Job.{Job}
use Rattle.cqs_plan.specs.declared.plans.kind.Kind.{Kind}
use Rattle.cqs_plan.specs.declared.plans.kind.Kind.TheVariants.{Semaphore, Mutex, Pool, Latch, Rounds}
use Rattle.cqs_plan.specs.declared.plans.resource.Resource.{Resource}
use Rattle.cqs_plan.specs.declared.plans.step.Step.{Step}
use Rattle.cqs_plan.specs.declared.plans.step.Step.TheVariants.{Take, Give, Down, Await, Arrive, Work}
use Rattle.cqs_plan.specs.PlanSteps.{is_arrival}

-- how many rounds a kind has: only a barrier has any
abbrev pub rounds_of : Kind → ℕ
rounds_of (Rounds parties rounds) = rounds
rounds_of (Semaphore permits) = 0
rounds_of Mutex = 0
rounds_of (Pool elements) = 0
rounds_of (Latch count) = 0

abbrev pub rounds_at : List Resource → ℕ → ℕ
rounds_at resources place =
    option_map_or (λ resource. rounds_of resource.kind) (slice_get resources place) 0

-- these steps arrived at the barrier fewer times than this
abbrev pub ArrivedFewer : List Step → ℕ → ℕ → Type 0
ArrivedFewer earlier place rounds = count_by (is_arrival place) earlier < rounds

-- an `arrive` has fewer earlier arrivals at its barrier than the barrier has rounds
abbrev pub has_round : List Resource → List Step → Step → Bool
has_round resources earlier (Arrive place) =
    nat_lt (count_by (is_arrival place) earlier) (rounds_at resources place)
has_round resources earlier (Take place) = true
has_round resources earlier (Give place) = true
has_round resources earlier (Down place) = true
has_round resources earlier (Await place) = true
has_round resources earlier (Work turns) = true

-- the job arrives at the barrier, once or more often
abbrev pub arrives : ℕ → Job → Bool
arrives at job = list_any (is_arrival at) job.steps

-- how many jobs arrive at it
abbrev pub arriving : ℕ → List Job → ℕ
arriving at jobs = count_by (arrives at) jobs

-- so many jobs have a place in each round
abbrev pub has_parties : Kind → ℕ → Bool
has_parties (Rounds parties rounds) jobs = nat_le jobs parties
has_parties (Semaphore permits) jobs = true
has_parties Mutex jobs = true
has_parties (Pool elements) jobs = true
has_parties (Latch count) jobs = true
