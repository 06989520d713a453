-- The first fault of a job's `within` and `retry` is that of the job.
use Rattle.std.proofs.Common.{◌≡◌, ℕ, Bool, true, List, [], Some}
use Rattle.std.specs.Prelude.{codes}
use Rattle.toml.specs.Data.{Data, Members, as_table, get_member}
use Rattle.cqs_plan.specs.declared.plans.error.PlanError.{PlanError}
use Rattle.cqs_plan.specs.declared.plans.resource.Resource.{Resource}
use Rattle.cqs_plan_reader.specs.FaultRules.{has_only, optional, require}
use Rattle.cqs_plan_reader.specs.Faults.{job_faults, job_keys, name_faults, number_faults, patience_faults, steps_part_faults}
use Rattle.cqs_plan_reader.specs.Places.{part_place}
use Rattle.cqs_plan_reader.specs.Reading.{StopsAt}
use Rattle.cqs_plan_reader.proofs.FirstFaults.{StopsAt-append}

-- where the job's keys, its name and its deadline have none
pub stops-in-patience : (version : ℕ) (resources : List Resource) (stands : List ℕ → Bool) (i : ℕ) (value : Data)
    (job : Members) (e : PlanError) → as_table value ≡ Some job → has_only (job_keys version) job ≡ true
    → require (part_place i (codes "name")) (get_member (codes "name") job)
    (name_faults (part_place i (codes "name")) stands) ≡ []
    → optional (get_member (codes "deadline") job) (number_faults (part_place i (codes "deadline")) 0 40000) ≡ []
    → StopsAt (patience_faults version i job) e → StopsAt (job_faults version resources stands i value) e
stops-in-patience version resources stands i value job e is only name deadline first =
    rw (is, only, name, deadline)
    (StopsAt-append (patience_faults version i job)
    (steps_part_faults i resources (get_member (codes "steps") job)) e first)
