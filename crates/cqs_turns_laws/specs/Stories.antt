-- What each job tells: its own lines, one after the other, are a story of its steps.
use Rattle.std.specs.Prelude.{◌≡◌, ◌⊎◌, ℕ, zero, suc, ◌+◌, ◌<◌, ◌≤◌, ◌==◌, Bool, true, false, List, [], ◌∷◌, ◌++◌, Some, length, count_by, filter, slice_get}
use Rattle.cqs_plan.specs.declared.plans.job.Job.{Job}
use Rattle.cqs_plan.specs.declared.plans.plan.Plan.{Plan}
use Rattle.cqs_plan.specs.declared.plans.step.Step.{Step}
use Rattle.cqs_plan.specs.declared.plans.step.Step.TheVariants.{Take, Give, Down, Await, Arrive, Work}
use Rattle.cqs_plan.specs.PlanSteps.{may_wait}
use Rattle.cqs_plan.specs.Runnable.{IsRunnable}
use Rattle.cqs_turns_report.specs.declared.lines.Told.{Told}
use Rattle.cqs_turns_report.specs.declared.lines.Told.TheVariants as told
use Rattle.cqs_turns_report.specs.declared.states.End.{End}
use Rattle.cqs_turns_report.specs.declared.states.End.TheVariants.{Done, GaveUp, Late}
use Rattle.cqs_turns_report.specs.declared.states.Progress.{Progress}
use Rattle.cqs_turns_report.specs.declared.states.Progress.TheVariants.{Stepping, Working, Waiting, Ended}
use Rattle.cqs_turns_report.specs.Ready.{held_next}
use Rattle.cqs_turns_report.specs.Turns.{machine_after}
use Rattle.cqs_turns_laws.specs.Events.{Line, AreLines}

-- the lines that a step may tell that is made at once; `work` tells none
pub data TellsOf : Step → Told → Type 0 where
  takes : (at element : ℕ) → TellsOf (Take at) (told.Takes at element)
  gives_free : (at element : ℕ) → TellsOf (Give at) (told.GivesFree at element)
  gives_sent : (at element number : ℕ) → TellsOf (Give at) (told.GivesSent at element number)
  downs_left : (at left : ℕ) → TellsOf (Down at) (told.DownsLeft at left)
  downs_open : (at : ℕ) → TellsOf (Down at) (told.DownsOpen at)
  downs_already : (at : ℕ) → TellsOf (Down at) (told.DownsAlready at)
  passes : (at : ℕ) → TellsOf (Await at) (told.Passes at)
  arrives_last : (at round : ℕ) → TellsOf (Arrive at) (told.ArrivesLast at round)

-- how many turns a `work` lasts: `work 0`, which no plan that is read has, would last one
abbrev pub lasts : ℕ → ℕ
lasts zero = 1
lasts (suc n) = suc n

-- it tells of a retry
abbrev pub is_retry : Told → Bool
is_retry (told.Retries at round number) = true
is_retry (told.Takes at element) = false
is_retry (told.Waits at round number) = false
is_retry (told.Served at round number element) = false
is_retry (told.GivesFree at element) = false
is_retry (told.GivesSent at element number) = false
is_retry (told.GaveUp at round number) = false
is_retry (told.Late at round number) = false
is_retry (told.Passes at) = false
is_retry (told.DownsLeft at left) = false
is_retry (told.DownsOpen at) = false
is_retry (told.DownsAlready at) = false
is_retry (told.ArrivesLast at round) = false
is_retry told.Done = false

-- of how many retries these lines tell
abbrev pub retries_in : List Line → ℕ
retries_in lines = count_by (λ line. is_retry line.told) lines

-- the deadline of the job has come in this turn
abbrev pub IsDue : Job → ℕ → Type 0
IsDue job turn = (deadline : ℕ) × (job.deadline ≡ Some deadline) × (deadline ≤ turn)

-- a wait of the job that began in the one turn has lasted as long as it may in the other
abbrev pub IsOutwaited : Job → ℕ → ℕ → Type 0
IsOutwaited job since turn =
    (within : ℕ) × (job.within ≡ Some within) × (since + within ≤ turn)

-- neither is so
pub record IsInTime (job : Job) (since turn : ℕ) : Type 0 where
  pub deadline : (d : ℕ) → job.deadline ≡ Some d → turn < d
  pub within : (w : ℕ) → job.within ≡ Some w → turn < since + w

-- where a job is in its story, and of which resources it holds something, oldest first
pub data Stage : Type 0 where
  -- it has made the steps before this one, and goes on in this turn
  AtStep : ℕ → ℕ → List ℕ → Stage
  -- it waits to have made this step: at a resource, in a round, under a number, since a turn
  InWait : ℕ → ℕ → ℕ → ℕ → ℕ → List ℕ → Stage
  -- in this turn it gives back what it holds, and ends so
  Closing : End → ℕ → List ℕ → Stage
  -- it has ended so
  Over : End → Stage

-- The story of a job: after these lines it is at this stage.
pub data Story (job : Job) : List Line → Stage → Type 0 where
  -- at first nothing is told, and it comes to its first step
  begins : Story job [] (AtStep 0 0 [])
  -- it works: that tells nothing, and it goes on so many turns later
  works : (lines : List Line) (next from turns : ℕ) (held : List ℕ)
      → slice_get job.steps next ≡ Some (Work turns)
      → Story job lines (AtStep next from held)
      → Story job lines (AtStep (next + 1) (from + lasts turns) held)
  -- it makes its next step, and tells of it
  makes : (lines : List Line) (next from : ℕ) (held : List ℕ) (step : Step) (line : Line)
      → slice_get job.steps next ≡ Some step → TellsOf step line.told → line.turn ≡ from
      → Story job lines (AtStep next from held)
      → Story job (lines ++ line ∷ []) (AtStep (next + 1) line.turn (held_next held step))
  -- it must wait, and tells of that
  waits : (lines : List Line) (next from at round number : ℕ) (held : List ℕ) (step : Step)
      (line : Line) → slice_get job.steps next ≡ Some step → may_wait at step ≡ true
      → line.told ≡ told.Waits at round number → line.turn ≡ from
      → Story job lines (AtStep next from held)
      → Story job (lines ++ line ∷ []) (InWait next at round number line.turn held)
  -- in a later turn its wait is served in time: now it has made the step
  is_served : (lines : List Line) (next at round number since element : ℕ) (held : List ℕ)
      (step : Step) (line : Line) → slice_get job.steps next ≡ Some step
      → line.told ≡ told.Served at round number element → since < line.turn
      → IsInTime job since line.turn
      → Story job lines (InWait next at round number since held)
      → Story job (lines ++ line ∷ []) (AtStep (next + 1) line.turn (held_next held step))
  -- in a later turn, before its deadline, its wait has lasted too long, and it has a retry left:
  -- it comes to the step again
  tries_again : (lines : List Line) (next at round number since : ℕ) (held : List ℕ)
      (line : Line) → line.told ≡ told.Retries at round number → since < line.turn
      → IsOutwaited job since line.turn
      → ((deadline : ℕ) → job.deadline ≡ Some deadline → line.turn < deadline)
      → retries_in lines < job.retry
      → Story job lines (InWait next at round number since held)
      → Story job (lines ++ line ∷ []) (AtStep next line.turn held)
  -- in a later turn it gives up: its deadline has come, or its wait has lasted too long and it has
  -- no retry left
  gives_up : (lines : List Line) (next at round number since : ℕ) (held : List ℕ)
      (line : Line) → line.told ≡ told.GaveUp at round number → since < line.turn
      → IsDue job line.turn ⊎ (IsOutwaited job since line.turn × (job.retry ≤ retries_in lines))
      → Story job lines (InWait next at round number since held)
      → Story job (lines ++ line ∷ []) (Closing GaveUp line.turn held)
  -- It is late: its deadline came, or its wait lasted too long, before it saw that it was served;
  -- and it holds what came.
  is_late : (lines : List Line) (next at round number since : ℕ) (held : List ℕ)
      (step : Step) (line : Line) → slice_get job.steps next ≡ Some step
      → line.told ≡ told.Late at round number → since < line.turn
      → IsDue job line.turn ⊎ IsOutwaited job since line.turn
      → Story job lines (InWait next at round number since held)
      → Story job (lines ++ line ∷ []) (Closing Late line.turn (held_next held step))
  -- all its steps are made
  has_made_all : (lines : List Line) (next from : ℕ) (held : List ℕ) → length job.steps ≤ next
      → Story job lines (AtStep next from held) → Story job lines (Closing Done from held)
  -- it gives back the oldest that it holds
  gives_back : (lines : List Line) (end : End) (at : ℕ) (held : List ℕ) (line : Line)
      → TellsOf (Give at) line.told → Story job lines (Closing end line.turn (at ∷ held))
      → Story job (lines ++ line ∷ []) (Closing end line.turn held)
  -- who made all steps, and holds nothing any more, says so at last
  is_done : (lines : List Line) (line : Line) → line.told ≡ told.Done
      → Story job lines (Closing Done line.turn []) → Story job (lines ++ line ∷ []) (Over Done)
  -- the others say no more
  has_left : (lines : List Line) (end : End) (turn : ℕ) → (end ≡ GaveUp) ⊎ (end ≡ Late)
      → Story job lines (Closing end turn []) → Story job lines (Over end)

-- a job that waits since a turn, when so many turns are over: its deadline hasn't come, and the
-- wait hasn't lasted longer than it may, or it began to wait in the last turn
pub record MayWaitOn (turns : ℕ) (job : Job) (since : ℕ) : Type 0 where
  pub deadline : (d : ℕ) → job.deadline ≡ Some d → (turns ≤ d) ⊎ (turns ≤ since + 1)
  pub within : (w : ℕ) → job.within ≡ Some w → (turns ≤ since + w) ⊎ (turns ≤ since + 1)

-- What a job does at this stage that hasn't ended when so many turns are over: it works, until now
-- or longer; or it waits.
abbrev pub GoesOn : ℕ → Job → Stage → Type 0
GoesOn turns job (AtStep next from held) = turns ≤ from
GoesOn turns job (InWait next at round number since held) = MayWaitOn turns job since
GoesOn turns job (Closing end turn held) = ⊥
GoesOn turns job (Over end) = ⊥

-- the totals count a job as its story ends
abbrev pub CountsAs : ℕ → Job → Progress → Stage → Type 0
CountsAs turns job (Ended end) stage = stage ≡ Over end
CountsAs turns job (Stepping next) stage = GoesOn turns job stage
CountsAs turns job (Working next until) stage = GoesOn turns job stage
CountsAs turns job (Waiting next at round number) stage = GoesOn turns job stage

-- after so many turns these lines are a story of this job, which is counted as it ends; and it has
-- retried no more often than it may
pub record HasStory (turns : ℕ) (job : Job) (progress : Progress) (lines : List Line)
    : Type 0 where
  pub stage : Stage
  pub story : Story job lines stage
  pub counts : CountsAs turns job progress stage
  pub few_retries : retries_in lines ≤ job.retry

-- the lines of the job at a place
abbrev pub own_lines : ℕ → List Line → List Line
own_lines place lines = filter (λ line. line.job == place) lines

-- the one line may stand before the other: in an earlier turn, or in the same turn that of a job
-- which isn't after the other's in the plan
abbrev pub IsBefore : Line → Line → Type 0
IsBefore line later =
    (line.turn < later.turn) ⊎ ((line.turn ≡ later.turn) × (line.job ≤ later.job))

-- the lines stand in order of turns, and in a turn in order of the plan's jobs
abbrev pub AreInOrder : List Line → Type 0
AreInOrder lines =
    (first second : ℕ) (line later : Line) → first < second → slice_get lines first ≡ Some line
    → slice_get lines second ≡ Some later → IsBefore line later

-- After so many turns the lines of each job are its story, and there are no others; all are of
-- these turns, and in order.
pub record AreStories (plan : Plan) (turns : ℕ) (progress : List Progress) (lines : List Line)
    : Type 0 where
  pub jobs : (place : ℕ) (job : Job) (p : Progress) → slice_get plan.jobs place ≡ Some job
      → slice_get progress place ≡ Some p → HasStory turns job p (own_lines place lines)
  pub nobody : (place : ℕ) → length plan.jobs ≤ place → own_lines place lines ≡ []
  pub early : (n : ℕ) (line : Line) → slice_get lines n ≡ Some line → line.turn < turns
  pub order : AreInOrder lines

-- the lines of jobs of each report are their stories
abbrev pub EveryJobHasItsStory : Type 0
EveryJobHasItsStory =
    (plan : Plan) (turns : ℕ) → IsRunnable plan
    → (lines : List Line) × AreLines plan (machine_after plan turns).scene.text lines
    × AreStories plan turns (machine_after plan turns).progress lines
