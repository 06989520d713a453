-- How many takes of a semaphore a worker made, beside the take steps of its jobs.
use Rattle.std.specs.Prelude.{ℕ, ◌+◌, ◌≤◌, Bool, List, [], ◌∷◌, count_by, take, if◌then◌else◌}
use Rattle.cqs_core.specs.declared.entries.Entry.{Entry}
use Rattle.cqs_core.specs.declared.entries.Entry.TheVariants as permit
use Rattle.cqs_plan.specs.declared.plans.job.Job.{Job}
use Rattle.cqs_plan.specs.declared.plans.step.Step.{Step}
use Rattle.cqs_plan.specs.PlanSteps.{is_take}
use Rattle.cqs_turns_report.specs.declared.states.End.TheVariants as end
use Rattle.cqs_turns_report.specs.declared.states.Progress.{Progress}
use Rattle.cqs_turns_report.specs.declared.states.Progress.TheVariants.{Stepping, Working, Waiting, Ended}
use Rattle.cqs_turns_report.specs.Ready.{steps_left}
use Rattle.cqs_floor_shared.specs.Shared.{Shared, seen_at}
use Rattle.cqs_work.specs.Accounts.{Weights, sum_in}
use Rattle.cqs_work.specs.Stages.{Stage, retries_for}
use Rattle.std.specs.List.{list_any}

-- the entries by which a caller takes a permit at once, or comes to wait for one
abbrev pub permit_takes : Entry → ℕ
permit_takes (permit.TakeNow c) = 1
permit_takes (permit.TakeDoor c) = 1
permit_takes entry = 0

abbrev pub takes : Weights
takes = record { permit = permit_takes; element = λ e. 0 }

-- how many of them the floor's pass has
abbrev pub took : Shared → ℕ → ℕ
took f at = sum_in takes f.number (seen_at f at)

-- how many of these steps are takes
abbrev pub takes_in : ℕ → List Step → ℕ
takes_in at steps = count_by (is_take at) steps

-- How many takes a job has made that is so far: where it is done, all. Of one that ended in another
-- way nothing is claimed.
abbrev pub takes_made : ℕ → List Step → Progress → ℕ
takes_made at steps (Stepping next) = takes_in at (take next steps)
takes_made at steps (Working next until) = takes_in at (take next steps)
takes_made at steps (Waiting next waits round number) = takes_in at (take next steps)
takes_made at steps (Ended end.Done) = takes_in at steps
takes_made at steps (Ended end.GaveUp) = 0
takes_made at steps (Ended end.Late) = 0
takes_made at steps (Ended end.Crowded) = 0

-- how many it may still make
abbrev pub takes_left : ℕ → List Step → Progress → ℕ
takes_left at steps p = takes_in at (steps_left steps p)

-- a job came from p to q while its pass came from so many takes to so many
pub record Tallies (at : ℕ) (steps : List Step) (before : ℕ) (p : Progress) (after : ℕ)
    (q : Progress) : Type 0 where
  pub grows : before ≤ after
  pub least : before + takes_made at steps q ≤ after + takes_made at steps p
  pub most : after + takes_left at steps q ≤ before + takes_left at steps p

-- the same of a whole turn, in which the job may have made a take again: then it used up a retry
pub record TalliesInTurn (at : ℕ) (job : Job) (before : ℕ) (s : Stage) (after : ℕ) (q : Stage)
    : Type 0 where
  pub grows : before ≤ after
  pub least : before + takes_made at job.steps q.progress
      ≤ after + takes_made at job.steps s.progress
  pub most : after + (takes_left at job.steps q.progress + retries_for (is_take at) job q)
      ≤ before + (takes_left at job.steps s.progress + retries_for (is_take at) job s)

-- how often a job may take of a semaphore: once for each of its take steps there, and where it has
-- one, once for each of its retries
abbrev pub takes_with_retries : ℕ → Job → ℕ
takes_with_retries at job =
    takes_in at job.steps + (if list_any (is_take at) job.steps then job.retry else 0)

-- the sum over those jobs that count; the first one's place is `place`
abbrev pub sum_of_takes : (ℕ → Bool) → (Job → ℕ) → ℕ → List Job → ℕ
sum_of_takes counts each place [] = 0
sum_of_takes counts each place (job ∷ jobs) =
    (if counts place then each job else 0) + sum_of_takes counts each (place + 1) jobs

-- the take steps of those jobs that count
abbrev pub take_steps : (ℕ → Bool) → ℕ → ℕ → List Job → ℕ
take_steps counts at place jobs = sum_of_takes counts (λ job. takes_in at job.steps) place jobs

-- and the same with their retries
abbrev pub take_tries : (ℕ → Bool) → ℕ → ℕ → List Job → ℕ
take_tries counts at place jobs = sum_of_takes counts (takes_with_retries at) place jobs
