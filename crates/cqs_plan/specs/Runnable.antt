-- What running a plan rests on: its steps name resources that are there, give what was taken
-- before, and find room in the rounds of barriers.
use Rattle.std.specs.Prelude.{ℕ, ◌≤◌, IsTrue, List, take, length, map, count_by, slice_get}
use Rattle.cqs_core.specs.Numbered.{EachAt}
use Rattle.cqs_plan.specs.declared.plans.kind.Kind.{Kind}
use Rattle.cqs_plan.specs.declared.plans.resource.Resource.{Resource}
use Rattle.cqs_plan.specs.declared.plans.step.Step.{Step}
use Rattle.cqs_plan.specs.declared.plans.step.Step.TheVariants.{Take, Give, Down, Await, Arrive, Work}
use Rattle.cqs_plan.specs.declared.plans.plan.Plan.{Plan}
use Rattle.cqs_plan.specs.Arriving.{arriving, has_parties}
use Rattle.cqs_plan.specs.Holding.{TookMore}
use Rattle.cqs_plan.specs.Floor.{IsHoldable, IsLatch, HasRound}
use Rattle.cqs_plan.specs.PlanSteps.{is_arrival}
use Rattle.cqs_plan.specs.Validity.{IsKind}

-- what each resource is
abbrev pub kinds_of : List Resource → List Kind
kinds_of resources = map (λ resource. resource.kind) resources

-- the round of a barrier in which a job is that has made these steps
abbrev pub round_after : List Step → ℕ → ℕ
round_after earlier at = count_by (is_arrival at) earlier

-- The step can be made by a job that holds something of the resources at such places, and is in
-- such a round of the barriers: it takes what is there, gives what is held, counts a latch down,
-- waits at one, arrives at a barrier that has a round left for it, or works.
abbrev pub IsMakeable : List Kind → (ℕ → Type 0) → (ℕ → ℕ) → Step → Type 0
IsMakeable kinds Holds round (Take at) = IsHoldable (slice_get kinds at)
IsMakeable kinds Holds round (Give at) = Holds at
IsMakeable kinds Holds round (Work turns) = turns ≤ 1000
IsMakeable kinds Holds round (Down at) = IsLatch (slice_get kinds at)
IsMakeable kinds Holds round (Await at) = IsLatch (slice_get kinds at)
IsMakeable kinds Holds round (Arrive at) = HasRound (slice_get kinds at) (round at)

-- each step can be made after those before it
abbrev pub AreMakeable : List Kind → List Step → Type 0
AreMakeable kinds steps =
    EachAt
    (λ n step. IsMakeable kinds (TookMore (take n steps)) (round_after (take n steps)) step)
    steps

pub record IsRunnable (plan : Plan) : Type 0 where
  pub turns : plan.turns ≤ 40000
  pub resources : length plan.resources ≤ 64
  pub jobs : length plan.jobs ≤ 4096
  pub few_steps : EachAt (λ place job. length job.steps ≤ 64) plan.jobs
  pub few_retries : EachAt (λ place job. job.retry ≤ 64) plan.jobs
  pub steps : EachAt (λ place job. AreMakeable (kinds_of plan.resources) job.steps) plan.jobs
  -- no more jobs arrive at a barrier than it has parties
  pub parties : EachAt
      (λ at resource. IsTrue (has_parties resource.kind (arriving at plan.jobs))) plan.resources

-- the numbers of each resource are in their ranges
abbrev pub AreSized : List Resource → Type 0
AreSized resources = EachAt (λ at resource. IsKind resource.kind) resources
