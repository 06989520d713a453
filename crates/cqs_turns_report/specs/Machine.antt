-- The turn machine, over any world: what the jobs of a plan do, turn by turn,
-- whatever answers their calls.
use Rattle.std.specs.Prelude.{ℕ, zero, suc, ◌+◌, ◌-◌, nat_lt, nat_le, Bool, true, false, not, ◌&&◌, ◌||◌, List, [], ◌∷◌, Option, Some, None, length, drop, replicate, slice_index_or, slice_set, if◌then◌else◌}
use Rattle.std.specs.Option.{option_map, option_map_or}
use Rattle.cqs_plan.specs.declared.plans.resource.Resource.{Resource}
use Rattle.cqs_plan.specs.declared.plans.step.Step.{Step}
use Rattle.cqs_plan.specs.declared.plans.step.Step.TheVariants.{Take, Give, Down, Await, Arrive, Work}
use Rattle.cqs_plan.specs.declared.plans.job.Job.{Job}
use Rattle.cqs_plan.specs.declared.plans.plan.Plan.{Plan}
use Rattle.cqs_plan.specs.declared.floors.answers.FloorTake.{FloorTake}
use Rattle.cqs_plan.specs.declared.floors.answers.FloorTake.TheVariants.{Now, Waits}
use Rattle.cqs_plan.specs.declared.floors.answers.FloorLook.{FloorLook}
use Rattle.cqs_plan.specs.declared.floors.answers.FloorLook.TheVariants.{Pending, Granted}
use Rattle.cqs_plan.specs.declared.floors.answers.FloorLeave.{FloorLeave}
use Rattle.cqs_plan.specs.declared.floors.answers.FloorLeave.TheVariants as leave
use Rattle.cqs_turns_report.specs.declared.states.Patience.{Patience}
use Rattle.cqs_turns_report.specs.declared.states.End.{End}
use Rattle.cqs_turns_report.specs.declared.states.End.TheVariants as end
use Rattle.cqs_turns_report.specs.declared.states.Progress.{Progress}
use Rattle.cqs_turns_report.specs.declared.states.Progress.TheVariants.{Stepping, Working, Waiting, Ended}

-- who acts: a job at its place among the jobs, in a turn, among these resources
pub record Role : Type 0 where
  pub resources : List Resource
  pub turn : ℕ
  pub place : ℕ
  pub job : Job

-- What answers the calls of jobs, and what it is after each call
pub record World (S : Type 0) : Type 0 where
  -- a take at a place; it has no answer where it is turned away
  pub take_answer : Role → ℕ → S → Option FloorTake
  pub after_take : Role → ℕ → Option FloorTake → S → S
  -- a give at a place
  pub after_give : Role → ℕ → S → S
  -- a count down of the latch at a place
  pub after_down : Role → ℕ → S → S
  -- a wait at the latch at a place
  pub wait_answer : Role → ℕ → S → Option FloorTake
  pub after_wait : Role → ℕ → Option FloorTake → S → S
  -- in which round the job arrives at the barrier at a place, and the arrival
  pub round : Role → ℕ → S → ℕ
  pub arrive_answer : Role → ℕ → S → Option FloorTake
  pub after_arrive : Role → ℕ → Option FloorTake → S → S
  -- a look at the wait at a place, in a round, under a number
  pub look_answer : Role → S → FloorLook
  pub after_look : Role → ℕ → ℕ → ℕ → FloorLook → S → S
  -- the cancelling of the wait at a place, in a round, under a number
  pub leave_answer : Role → S → FloorLeave
  pub after_leave : Role → ℕ → ℕ → ℕ → FloorLeave → S → S
  -- the same, where the wait is gone and the job makes the step again at which it waited
  pub after_retry : Role → ℕ → ℕ → ℕ → S → S
  -- the job is done
  pub done : Role → S → S
  -- the places of what a job holds, oldest first
  pub held : ℕ → S → List ℕ

-- how a job leaves the world, and how far it then is
pub record ActedIn (S : Type 0) : Type 0 where
  pub scene : S
  pub progress : Progress

-- what a step makes of the world, and how far the job is where its turn ends with this step
pub record MadeIn (S : Type 0) : Type 0 where
  pub scene : S
  pub stops : Option Progress

-- the whole: the world, how far each job is, and what its patience rests on
pub record MachineIn (S : Type 0) : Type 0 where
  pub scene : S
  pub progress : List Progress
  pub patience : List Patience

-- the deadline has come
abbrev pub is_due : Option ℕ → ℕ → Bool
is_due deadline turn = option_map_or (λ d. nat_le d turn) deadline false

-- the job, which waits, has waited for as many turns as it may
abbrev pub is_outwaited : Role → Patience → Bool
is_outwaited r patience =
    is_due (option_map (λ within. patience.since + within) r.job.within) r.turn

-- the job, which waits, is over time
abbrev pub is_over_time : Role → Patience → Bool
is_over_time r patience = is_due r.job.deadline r.turn || is_outwaited r patience

-- the job has a retry left, and its deadline hasn't come
abbrev pub may_retry : Role → Patience → Bool
may_retry r patience = not (is_due r.job.deadline r.turn) && nat_lt patience.used r.job.retry

-- a job over time that was answered so when it cancelled its wait makes the step again
abbrev pub retries : Role → Patience → FloorLeave → Bool
retries r patience leave.Gone = may_retry r patience
retries r patience (leave.Late element) = false

-- before its first turn
abbrev pub fresh : Patience
fresh = record { since = 0; used = 0 }

-- the job moves in this turn, and in the second case has used up a retry
abbrev pub moved : Role → Patience → Patience
moved r patience = record patience { since = r.turn }

abbrev pub retried : Role → Patience → Patience
retried r patience = record { since = r.turn; used = patience.used + 1 }

-- a job over time that was answered so when it cancelled its wait
abbrev pub after_leave_at : Role → Patience → FloorLeave → Patience
after_leave_at r patience answer =
    if retries r patience answer then retried r patience else patience

-- a job that looked at its wait
abbrev pub after_look_at : Role → Patience → FloorLook → Patience
after_look_at r patience Pending = patience
after_look_at r patience (Granted element) = moved r patience

-- a job that has ended, or still works, does nothing in its turn
abbrev pub rests : ℕ → Progress → Bool
rests turn (Stepping next) = false
rests turn (Working next until) = nat_lt turn until
rests turn (Waiting next at round number) = false
rests turn (Ended end) = true

-- how a job ends that cancelled its wait
abbrev pub end_of : FloorLeave → End
end_of leave.Gone = end.GaveUp
end_of (leave.Late element) = end.Late

module _ {S : Type 0} where
  -- the job leaves the world so, at this point
  abbrev pub left_at : S → Progress → ActedIn S
  left_at s progress = record { scene = s; progress = progress }

  -- the job's turn ends with this step, or goes on
  abbrev pub stop_or : MadeIn S → ActedIn S → ActedIn S
  stop_or m onward = option_map_or (left_at m.scene) m.stops onward

  -- A step that may have to wait at a place, in a round, and was answered so: it ends the job's
  -- turn where it must wait. A job that is turned away has ended.
  abbrev pub after_coming : ℕ → ℕ → ℕ → (Option FloorTake → S → S) → Option FloorTake → S → MadeIn S
  after_coming next at round after (Some (Now element)) s =
      record { scene = after (Some (Now element)) s; stops = None }
  after_coming next at round after (Some (Waits number)) s =
      record {
        scene = after (Some (Waits number)) s;
        stops = Some (Waiting (next + 1) at round number);
      }
  after_coming next at round after None s =
      record { scene = after None s; stops = Some (Ended end.Crowded) }

module _ {S : Type 0} (w : World S) where
  -- the job gives back one after the other
  abbrev pub after_gives : Role → List ℕ → S → S
  after_gives r [] s = s
  after_gives r (at ∷ places) s = after_gives r places (w.after_give r at s)

  -- the job gives back all that it holds, oldest first
  abbrev pub after_all_gives : Role → S → S
  after_all_gives r s = after_gives r (w.held r.place s) s

  -- after its last step the job gives back all that it holds, and is done
  abbrev pub after_last_step : Role → S → ActedIn S
  after_last_step r s = left_at (w.done r (after_all_gives r s)) (Ended end.Done)

  -- a step: `work` ends the job's turn, and so does one that must wait
  abbrev pub after_step : Role → ℕ → Step → S → MadeIn S
  after_step r next (Work turns) s =
      record { scene = s; stops = Some (Working (next + 1) (r.turn + turns)) }
  after_step r next (Take at) s =
      after_coming next at 0 (w.after_take r at) (w.take_answer r at s) s
  after_step r next (Give at) s = record { scene = w.after_give r at s; stops = None }
  after_step r next (Down at) s = record { scene = w.after_down r at s; stops = None }
  after_step r next (Await at) s =
      after_coming next at 0 (w.after_wait r at) (w.wait_answer r at s) s
  after_step r next (Arrive at) s =
      after_coming next at (w.round r at s) (w.after_arrive r at) (w.arrive_answer r at s) s

  -- the job makes these steps one after the other; the first one's place is `next`
  abbrev pub after_steps : Role → List Step → ℕ → S → ActedIn S
  after_steps r [] next s = after_last_step r s
  after_steps r (step ∷ steps) next s =
      let m = after_step r next step s in stop_or m (after_steps r steps (next + 1) m.scene)

  -- the job goes to its next step
  abbrev pub go_on : Role → ℕ → S → ActedIn S
  go_on r next s = after_steps r (drop next r.job.steps) next s

  -- the job gives up: it cancels its wait, gives back all that it holds, and has ended
  abbrev pub after_giving_up : Role → ℕ → ℕ → ℕ → FloorLeave → S → ActedIn S
  after_giving_up r at round number answer s =
      left_at (after_all_gives r (w.after_leave r at round number answer s)) (Ended (end_of answer))

  -- the job looks: while its wait is pending its turn is over
  abbrev pub after_looking : Role → ℕ → ℕ → ℕ → ℕ → FloorLook → S → ActedIn S
  after_looking r next at round number Pending s =
      left_at (w.after_look r at round number Pending s) (Waiting next at round number)
  after_looking r next at round number (Granted element) s =
      go_on r next (w.after_look r at round number (Granted element) s)

  -- the wait of the job is gone, and it makes the step again at which it waited
  abbrev pub after_retrying : Role → ℕ → ℕ → ℕ → ℕ → S → ActedIn S
  after_retrying r next at round number s = go_on r (next - 1) (w.after_retry r at round number s)

  -- the job is over time, and cancels its wait
  abbrev pub after_waiting_long : Role → Patience → ℕ → ℕ → ℕ → ℕ → FloorLeave → S → ActedIn S
  after_waiting_long r patience next at round number answer s =
      if retries r patience answer then after_retrying r next at round number s
      else after_giving_up r at round number answer s

  -- the turn of a job
  abbrev pub after_acting : Role → Patience → Progress → S → ActedIn S
  after_acting r patience (Stepping next) s = go_on r next s
  after_acting r patience (Working next until) s =
      if nat_lt r.turn until then left_at s (Working next until) else go_on r next s
  after_acting r patience (Waiting next at round number) s =
      if is_over_time r patience
      then after_waiting_long r patience next at round number (w.leave_answer r s) s
      else after_looking r next at round number (w.look_answer r s) s
  after_acting r patience (Ended end) s = left_at s (Ended end)

  -- the patience of a job after its turn
  abbrev pub patience_after : Role → Patience → Progress → S → Patience
  patience_after r patience (Stepping next) s = moved r patience
  patience_after r patience (Working next until) s =
      if nat_lt r.turn until then patience else moved r patience
  patience_after r patience (Waiting next at round number) s =
      if is_over_time r patience then after_leave_at r patience (w.leave_answer r s)
      else after_look_at r patience (w.look_answer r s)
  patience_after r patience (Ended end) s = patience

  -- the job at a place has its turn
  abbrev pub one_job : List Resource → ℕ → ℕ → Job → MachineIn S → MachineIn S
  one_job resources turn place job m =
      let r : Role = record { resources = resources; turn = turn; place = place; job = job } in
      let patience = slice_index_or m.patience place fresh in
      let progress = slice_index_or m.progress place (Ended end.Done) in
      let a = after_acting r patience progress m.scene in
      record {
        scene = a.scene;
        progress = slice_set m.progress place a.progress;
        patience = slice_set m.patience place (patience_after r patience progress m.scene);
      }

  -- these jobs have their turns in order; the first one's place is `place`
  abbrev pub each_job : List Resource → ℕ → ℕ → List Job → MachineIn S → MachineIn S
  each_job resources turn place [] m = m
  each_job resources turn place (job ∷ jobs) m =
      each_job resources turn (place + 1) jobs (one_job resources turn place job m)

  -- a turn
  abbrev pub one_turn : Plan → ℕ → MachineIn S → MachineIn S
  one_turn plan turn m = each_job plan.resources turn 0 plan.jobs m

  -- the machine after the first so many turns, where it began with this world
  abbrev pub machine_after : Plan → S → ℕ → MachineIn S
  machine_after plan s zero =
      record {
        scene = s;
        progress = replicate (length plan.jobs) (Stepping 0);
        patience = replicate (length plan.jobs) fresh;
      }
  machine_after plan s (suc turn) = one_turn plan turn (machine_after plan s turn)
