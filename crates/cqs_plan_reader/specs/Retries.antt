-- What a plan that was read says of retries, beside being valid.
use Rattle.std.specs.Prelude.{◌≤◌, IsSome}
use Rattle.cqs_plan.specs.declared.plans.job.Job.{Job}

-- a job that may begin a wait again says how long a wait may last
abbrev pub RetriesWithin : Job → Type 0
RetriesWithin job = 1 ≤ job.retry → IsSome job.within
