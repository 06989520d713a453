-- The turn machine of plans of version 1, in which a wait ends only with its service or with the
-- deadline of its job, and no job begins a wait again. What a job does in its steps, at a look and
-- when it gives up is as in the machine of all plans.
use Rattle.std.specs.Prelude.{ℕ, zero, suc, ◌+◌, ◌++◌, nat_lt, List, [], ◌∷◌, length, replicate, slice_index_or, slice_set, if◌then◌else◌}
use Rattle.cqs_plan.specs.declared.plans.resource.Resource.{Resource}
use Rattle.cqs_plan.specs.declared.plans.job.Job.{Job}
use Rattle.cqs_plan.specs.declared.plans.plan.Plan.{Plan}
use Rattle.cqs_turns_report.specs.declared.states.End.TheVariants as end
use Rattle.cqs_turns_report.specs.declared.states.Progress.{Progress}
use Rattle.cqs_turns_report.specs.declared.states.Progress.TheVariants.{Stepping, Working, Waiting, Ended}
use Rattle.cqs_turns_report.specs.Lines.{ends_text, total_text}
use Rattle.cqs_turns_report.specs.Machine.{Role, World, ActedIn, is_due, left_at, go_on, after_giving_up, after_looking}
use Rattle.cqs_turns_report.specs.Turns.{plain_world, opening_scene}

-- the whole: the world, and how far each job is
pub record FirstIn (S : Type 0) : Type 0 where
  pub scene : S
  pub progress : List Progress

module _ {S : Type 0} (w : World S) where
  -- the turn of a job
  abbrev pub after_acting : Role → Progress → S → ActedIn S
  after_acting r (Stepping next) s = go_on w r next s
  after_acting r (Working next until) s =
      if nat_lt r.turn until then left_at s (Working next until) else go_on w r next s
  after_acting r (Waiting next at round number) s =
      if is_due r.job.deadline r.turn
      then after_giving_up w r at round number (w.leave_answer r s) s
      else after_looking w r next at round number (w.look_answer r s) s
  after_acting r (Ended end) s = left_at s (Ended end)

  -- the job at a place has its turn
  abbrev pub one_job : List Resource → ℕ → ℕ → Job → FirstIn S → FirstIn S
  one_job resources turn place job m =
      let r : Role = record { resources = resources; turn = turn; place = place; job = job } in
      let a = after_acting r (slice_index_or m.progress place (Ended end.Done)) m.scene in
      record { scene = a.scene; progress = slice_set m.progress place a.progress }

  -- these jobs have their turns in order; the first one's place is `place`
  abbrev pub each_job : List Resource → ℕ → ℕ → List Job → FirstIn S → FirstIn S
  each_job resources turn place [] m = m
  each_job resources turn place (job ∷ jobs) m =
      each_job resources turn (place + 1) jobs (one_job resources turn place job m)

  -- the machine after the first so many turns, where it began with this world
  abbrev pub machine_after : Plan → S → ℕ → FirstIn S
  machine_after plan s zero =
      record { scene = s; progress = replicate (length plan.jobs) (Stepping 0) }
  machine_after plan s (suc turn) =
      each_job plan.resources turn 0 plan.jobs (machine_after plan s turn)

-- the report of a plan of version 1
abbrev pub first_report_of : Plan → List ℕ
first_report_of plan =
    let m = machine_after plain_world plan (opening_scene plan) plan.turns in
    m.scene.text ++ ends_text plan.resources 0 m.scene.floor ++ total_text m.progress
