-- What the machine keeps of the jobs, beside the floor.
use Rattle.std.specs.Prelude.{◌≡◌}
use Rattle.cqs_plan.specs.Floor.{PlainFloor}
use Rattle.cqs_plan.specs.Runnable.{kinds_of}
use Rattle.cqs_turns_report.specs.declared.states.JobState.{JobState}
use Rattle.cqs_turns_report.specs.Ready.{IsReady, wait_in, steps_left}
use Rattle.cqs_turns_report.specs.Turns.{Role, places_held}

-- the floor has the job as its state does, and the job can go on
pub record IsSet (f : PlainFloor) (r : Role) (state : JobState) : Type 0 where
  pub held : state.held.items ≡ places_held f r.place
  pub kinds : f.kinds ≡ kinds_of r.resources
  pub ready : IsReady f r.place (wait_in state.progress) (steps_left r.job.steps state.progress)
