-- How often jobs may begin to wait, and which jobs can be counted.
use Rattle.std.specs.Prelude.{ℕ, ◌<◌, ◌≤◌, List, length, sum_by}
use Rattle.cqs_core.specs.Numbered.{EachAt}
use Rattle.cqs_plan.specs.declared.plans.job.Job.{Job}
use Rattle.cqs_plan.specs.declared.plans.step.Step.{Step}
use Rattle.cqs_plan.specs.declared.plans.step.Step.TheVariants.{Take, Give, Down, Await, Arrive, Work}
use Rattle.cqs_plan.specs.Floor.{waits_of_job}

-- a take, a wait or an arrival names one of so many resources
abbrev pub IsWithin : ℕ → Step → Type 0
IsWithin resources (Take at) = at < resources
IsWithin resources (Give at) = Unit {0}
IsWithin resources (Down at) = Unit {0}
IsWithin resources (Await at) = at < resources
IsWithin resources (Arrive at) = at < resources
IsWithin resources (Work turns) = Unit {0}

abbrev pub AreWithin : ℕ → List Step → Type 0
AreWithin resources steps = EachAt (λ n step. IsWithin resources step) steps

-- no more than 64 steps and 64 retries, and each step that may wait names one of so many resources
pub record IsCountable (resources : ℕ) (job : Job) : Type 0 where
  pub few : length job.steps ≤ 64
  pub few_retries : job.retry ≤ 64
  pub within : AreWithin resources job.steps

-- how often these jobs may begin to wait at a resource
abbrev pub room_of : List Job → ℕ → ℕ
room_of jobs at = sum_by (waits_of_job at) jobs
