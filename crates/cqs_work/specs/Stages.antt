-- How far a job is, with what its patience rests on.
use Rattle.std.specs.Prelude.{ℕ, ◌-◌, Bool, List, map, slice_index_or, if◌then◌else◌}
use Rattle.std.specs.List.{list_any}
use Rattle.cqs_plan.specs.declared.plans.job.Job.{Job}
use Rattle.cqs_plan.specs.declared.plans.step.Step.{Step}
use Rattle.cqs_turns_report.specs.declared.states.End.TheVariants as end
use Rattle.cqs_turns_report.specs.declared.states.JobState.{JobState}
use Rattle.cqs_turns_report.specs.declared.states.Patience.{Patience}
use Rattle.cqs_turns_report.specs.declared.states.Progress.{Progress}
use Rattle.cqs_turns_report.specs.declared.states.Progress.TheVariants.{Stepping, Working, Waiting, Ended}
use Rattle.cqs_turns_report.specs.Machine.{fresh}

pub record Stage : Type 0 where
  pub progress : Progress
  pub patience : Patience

abbrev pub stage : Progress → Patience → Stage
stage progress patience = record { progress = progress; patience = patience }

-- as the code keeps it
abbrev pub stage_of : JobState → Stage
stage_of state = stage state.progress state.patience

abbrev pub stages_of : List JobState → List Stage
stages_of states = map stage_of states

-- how far the job at a place is
abbrev pub done_stage : Stage
done_stage = stage (Ended end.Done) fresh

abbrev pub progress_at : List Stage → ℕ → Progress
progress_at stages place = (slice_index_or stages place done_stage).progress

-- how many retries a job has left that is so far and has used so many; one that has ended makes
-- none
abbrev pub unused : Job → Progress → ℕ → ℕ
unused job (Stepping next) used = job.retry - used
unused job (Working next until) used = job.retry - used
unused job (Waiting next at round number) used = job.retry - used
unused job (Ended end) used = 0

-- the same of a job that has a step like that; any other needs none there
abbrev pub retries_for : (Step → Bool) → Job → Stage → ℕ
retries_for which job s =
    if list_any which job.steps then unused job s.progress s.patience.used else 0
