-- What every plan keeps to.
use Rattle.std.specs.Prelude.{◌≡◌, ◌≢◌, ℕ, ◌≤◌, Bool, IsTrue, List, length, take, All, AllPairs, Some, None, IfSome, IsSomeAnd, slice_get}
use Rattle.std.specs.Int.{IsInRange}
use Rattle.cqs_core.specs.Numbered.{EachAt}
use Rattle.cqs_plan.specs.declared.plans.job.Job.{Job}
use Rattle.cqs_plan.specs.declared.plans.kind.Kind.{Kind}
use Rattle.cqs_plan.specs.declared.plans.kind.Kind.TheVariants.{Semaphore, Mutex, Pool, Latch, Rounds}
use Rattle.cqs_plan.specs.declared.plans.plan.Plan.{Plan}
use Rattle.cqs_plan.specs.declared.plans.resource.Resource.{Resource}
use Rattle.cqs_plan.specs.declared.plans.step.Step.{Step}
use Rattle.cqs_plan.specs.declared.plans.step.Step.TheVariants.{Take, Give, Down, Await, Arrive, Work}
use Rattle.cqs_plan.specs.Holding.{TookMore}
use Rattle.cqs_plan.specs.Arriving.{ArrivedFewer, arriving, has_parties, rounds_at}
use Rattle.cqs_plan.specs.Language.{can_hold, is_barrier, is_latch, is_name}
use Rattle.cqs_plan.specs.Order.{AreInOrder}

-- the numbers of a kind are in their ranges
abbrev pub IsKind : Kind → Type 0
IsKind (Semaphore permits) = IsInRange 1 1048576 permits
IsKind Mutex = Unit {0}
IsKind (Pool elements) = IsInRange 1 4096 elements
IsKind (Latch count) = IsInRange 1 1048576 count
IsKind (Rounds parties rounds) = IsInRange 1 32 parties × IsInRange 1 64 rounds

pub record IsResource (resource : Resource) : Type 0 where
  pub named : IsTrue (is_name resource.name)
  pub sized : IsKind resource.kind

-- there is a resource at the place, of a kind that passes the test
abbrev pub HasKindAt : List Resource → (Kind → Bool) → ℕ → Type 0
HasKindAt resources test place =
    IsSomeAnd (slice_get resources place) (λ resource. IsTrue (test resource.kind))

-- a step names a resource of a kind that it works on, and works for 1 to 1,000 turns
abbrev pub IsStep : List Resource → Step → Type 0
IsStep resources (Take place) = HasKindAt resources can_hold place
IsStep resources (Give place) = HasKindAt resources can_hold place
IsStep resources (Down place) = HasKindAt resources is_latch place
IsStep resources (Await place) = HasKindAt resources is_latch place
IsStep resources (Arrive place) = HasKindAt resources is_barrier place
IsStep resources (Work turns) = IsInRange 1 1000 turns

-- before each `give` there were more takes of its resource than gives
abbrev pub GivesWhatItTook : List Step → Type 0
GivesWhatItTook steps = (i place : ℕ) → slice_get steps i ≡ Some (Give place)
    → TookMore (take i steps) place

-- before each `arrive` there were fewer arrivals at its barrier than it has rounds
abbrev pub ArrivesInRounds : List Resource → List Step → Type 0
ArrivesInRounds resources steps = (i place : ℕ) → slice_get steps i ≡ Some (Arrive place)
    → ArrivedFewer (take i steps) place (rounds_at resources place)

pub record IsJob (resources : List Resource) (job : Job) : Type 0 where
  pub named : IsTrue (is_name job.name)
  pub deadline : IfSome job.deadline (λ turn. turn ≤ 40000)
  pub within : IfSome job.within (λ turns. IsInRange 1 40000 turns)
  pub retry : job.retry ≤ 64
  pub few : length job.steps ≤ 64
  pub steps : All (IsStep resources) job.steps
  pub gives : GivesWhatItTook job.steps
  pub arrives : ArrivesInRounds resources job.steps

-- a job of version 1, whose waits may last until its deadline, and are never begun again
pub record IsPatient (job : Job) : Type 0 where
  pub within : job.within ≡ None
  pub retry : job.retry ≡ 0

pub record IsValid (plan : Plan) : Type 0 where
  pub version : IsInRange 1 2 plan.version
  pub turns : IsInRange 1 40000 plan.turns
  pub few_resources : length plan.resources ≤ 64
  pub resources : All IsResource plan.resources
  pub order : AreInOrder plan.resources
  pub few_jobs : length plan.jobs ≤ 4096
  pub jobs : All (IsJob plan.resources) plan.jobs
  pub patient : plan.version ≡ 1 → All IsPatient plan.jobs
  -- no more jobs arrive at a barrier than it has parties
  pub parties : EachAt
      (λ at resource. IsTrue (has_parties resource.kind (arriving at plan.jobs))) plan.resources
  pub names : AllPairs (λ one other. one.name ≢ other.name) plan.jobs
