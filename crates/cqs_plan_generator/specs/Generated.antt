-- The plan that a number makes.
use Rattle.std.specs.Prelude.{ℕ, ◌+◌, ◌*◌, ◌%◌, ◌==◌, List, [], ◌∷◌, ◌++◌, Option, Some, None, map, codes, if◌then◌else◌}
use Rattle.std.specs.List.{range_with_len}
use Rattle.std.specs.Fmt.{decimal}
use Rattle.cqs_plan.specs.declared.plans.job.Job.{Job}
use Rattle.cqs_plan.specs.declared.plans.kind.Kind.TheVariants.{Semaphore, Pool}
use Rattle.cqs_plan.specs.declared.plans.plan.Plan.{Plan}
use Rattle.cqs_plan.specs.declared.plans.resource.Resource.{Resource}
use Rattle.cqs_plan.specs.declared.plans.step.Step.{Step}
use Rattle.cqs_plan.specs.declared.plans.step.Step.TheVariants.{Take, Work}
use Rattle.cqs_plan_generator.specs.Draws.{draw}

-- two resources: a semaphore of two permits, and a pool of one element
abbrev pub resources : List Resource
resources =
    record { name = codes "db"; kind = Semaphore 2 }
    ∷ record { name = codes "buf"; kind = Pool 1 } ∷ []

-- a job works, takes a permit, by an odd number the element too, and works on
abbrev pub steps_of : ℕ → ℕ → List Step
steps_of a b =
    Work (a % 5 + 1) ∷ Take 0 ∷
    ((if b % 2 == 1 then Take 1 ∷ [] else []) ++ Work (b % 4 + 1) ∷ [])

-- it waits no longer than to this turn, where the number is a multiple of 3
abbrev pub deadline_of : ℕ → Option ℕ
deadline_of c = if c % 3 == 0 then Some (c % 30 + 1) else None

-- the job of this place, by its three numbers
abbrev pub job_of : ℕ → ℕ → ℕ → ℕ → Job
job_of i a b c = record {
  name = codes "j" ++ decimal i;
  steps = steps_of a b;
  deadline = deadline_of c;
  within = None;
  retry = 0;
}

-- each job has the next three numbers that are drawn
abbrev pub nth_job : ℕ → ℕ → Job
nth_job number i =
    job_of i (draw number (3 * i)) (draw number (3 * i + 1)) (draw number (3 * i + 2))

-- the plan of this number, with so many jobs
abbrev pub plan_of_number : ℕ → ℕ → Plan
plan_of_number number jobs = record {
  version = 1;
  turns = 8 * jobs + 16;
  resources = resources;
  jobs = map (nth_job number) (range_with_len 0 jobs);
}
