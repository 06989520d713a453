-- How jobs end.
use Rattle.std.specs.Prelude.{◌≡◌, ◌≢◌, ◌⊎◌, ℕ, ◌+◌, ◌≤◌, List, [], ◌∷◌, ◌++◌, Bool, true, false, Option, Some, None, filter, filter_map, map, sum_by, slice_get}
use Rattle.std.specs.Option.{option_map}
use Rattle.cqs_plan.specs.declared.plans.job.Job.{Job}
use Rattle.cqs_plan.specs.declared.plans.kind.Kind.{Kind}
use Rattle.cqs_plan.specs.declared.plans.kind.Kind.TheVariants as kind
use Rattle.cqs_plan.specs.declared.plans.resource.Resource.{Resource}
use Rattle.cqs_plan.specs.declared.plans.plan.Plan.{Plan}
use Rattle.cqs_plan.specs.declared.plans.step.Step.{Step}
use Rattle.cqs_plan.specs.declared.plans.step.Step.TheVariants.{Take, Give, Down, Await, Arrive, Work}
use Rattle.cqs_plan.specs.Floor.{wait_of, holds_of}
use Rattle.cqs_plan.specs.FloorCalls.{is_in_line}
use Rattle.cqs_plan.specs.Runnable.{IsRunnable}
use Rattle.cqs_turns_report.specs.declared.lines.Told.{Told}
use Rattle.cqs_turns_report.specs.declared.lines.Told.TheVariants as told
use Rattle.cqs_turns_report.specs.declared.states.End.{End}
use Rattle.cqs_turns_report.specs.declared.states.End.TheVariants.{Done, GaveUp, Late}
use Rattle.cqs_turns_report.specs.declared.states.Progress.{Progress}
use Rattle.cqs_turns_report.specs.declared.states.Progress.TheVariants.{Waiting, Ended}
use Rattle.cqs_turns_report.specs.Roles.{wait_at}
use Rattle.cqs_turns_report.specs.Turns.{machine_after}
use Rattle.cqs_turns_laws.specs.Events.{Line, AreLines}
use Rattle.cqs_turns_laws.specs.Stories.{own_lines}

-- how far a job is after so many turns
abbrev pub progress_of : Plan → ℕ → ℕ → Option Progress
progress_of plan turns job = slice_get (machine_after plan turns).progress job

-- between any two turns, a job that has ended has no wait and holds nothing
abbrev pub EndedJobsHaveNothing : Type 0
EndedJobsHaveNothing =
    (plan : Plan) (turns place : ℕ) (end : End) → IsRunnable plan
    → progress_of plan turns place ≡ Some (Ended end)
    → (wait_of (machine_after plan turns).scene.floor place ≡ None)
    × (holds_of (machine_after plan turns).scene.floor place ≡ [])

-- who waits when a turn begins that isn't before its deadline has given up or is
-- late when the turn is over
abbrev pub NoWaitOutlivesItsDeadline : Type 0
NoWaitOutlivesItsDeadline =
    (plan : Plan) (turn place deadline next at round number : ℕ) (job : Job)
    → slice_get plan.jobs place ≡ Some job → job.deadline ≡ Some deadline → deadline ≤ turn
    → progress_of plan turn place ≡ Some (Waiting next at round number)
    → (progress_of plan (turn + 1) place ≡ Some (Ended GaveUp))
    ⊎ (progress_of plan (turn + 1) place ≡ Some (Ended Late))

-- who waits when a turn begins and isn't in the line any more, so that what it waits for has come,
-- doesn't wait for this any longer when the turn is over
abbrev pub NoWaitOutlivesItsService : Type 0
NoWaitOutlivesItsService =
    (plan : Plan) (turn place next at round number : ℕ) → IsRunnable plan
    → progress_of plan turn place ≡ Some (Waiting next at round number)
    → is_in_line (machine_after plan turn).scene.floor (wait_at at round number) ≡ false
    → progress_of plan (turn + 1) place ≢ Some (Waiting next at round number)

-- the job has a deadline, which has come in this turn; or its waits may last for no more turns than
-- there were
abbrev pub MayEnd : Job → ℕ → Type 0
MayEnd job turn =
    ((deadline : ℕ) × (job.deadline ≡ Some deadline) × (deadline ≤ turn))
    ⊎ ((within : ℕ) × (job.within ≡ Some within) × (within ≤ turn))

pub record HasCome (plan : Plan) (line : Line) : Type 0 where
  pub job : Job
  pub is : slice_get plan.jobs line.job ≡ Some job
  pub may : MayEnd job line.turn

-- the lines of each report tell of no job that it gave up, or was late, where neither its deadline
-- has come nor a wait of it can have lasted too long
abbrev pub NobodyGivesUpEarly : Type 0
NobodyGivesUpEarly =
    (plan : Plan) (turns : ℕ) → IsRunnable plan
    → (lines : List Line) × AreLines plan (machine_after plan turns).scene.text lines
    × ((n at round number : ℕ) (line : Line) → slice_get lines n ≡ Some line
    → (line.told ≡ told.GaveUp at round number) ⊎ (line.told ≡ told.Late at round number)
    → HasCome plan line)

-- a step that lines tell of: each but `work`
abbrev pub is_told : Step → Bool
is_told (Take at) = true
is_told (Give at) = true
is_told (Down at) = true
is_told (Await at) = true
is_told (Arrive at) = true
is_told (Work turns) = false

-- how many turns a step works
abbrev pub turns_of : Step → ℕ
turns_of (Work turns) = turns
turns_of (Take at) = 0
turns_of (Give at) = 0
turns_of (Down at) = 0
turns_of (Await at) = 0
turns_of (Arrive at) = 0

-- the step that is made where a wait at a resource of this kind is served
abbrev pub waited_for : Kind → ℕ → Step
waited_for (kind.Semaphore permits) at = Take at
waited_for kind.Mutex at = Take at
waited_for (kind.Pool elements) at = Take at
waited_for (kind.Latch count) at = Await at
waited_for (kind.Rounds parties rounds) at = Arrive at

-- The step that a line tells to be made, at once or after a wait; a give may also be one at the
-- job's end. The other lines tell no such thing.
abbrev pub made_step : List Resource → Told → Option Step
made_step resources (told.Takes at element) = Some (Take at)
made_step resources (told.Served at round number element) =
    option_map (λ resource. waited_for resource.kind at) (slice_get resources at)
made_step resources (told.GivesFree at element) = Some (Give at)
made_step resources (told.GivesSent at element number) = Some (Give at)
made_step resources (told.Passes at) = Some (Await at)
made_step resources (told.DownsLeft at left) = Some (Down at)
made_step resources (told.DownsOpen at) = Some (Down at)
made_step resources (told.DownsAlready at) = Some (Down at)
made_step resources (told.ArrivesLast at round) = Some (Arrive at)
made_step resources (told.Waits at round number) = None
made_step resources (told.GaveUp at round number) = None
made_step resources (told.Retries at round number) = None
made_step resources (told.Late at round number) = None
made_step resources told.Done = None

-- The last of a job's lines says that it is done; the others tell of each of its steps but `work`
-- once, in order, and then of what it gives back at the end; and the turn is at least the sum of
-- the turns that it works.
pub record HasMadeAllSteps (resources : List Resource) (job : Job) (own : List Line)
    : Type 0 where
  pub earlier : List Line
  pub last : Line
  pub lines : own ≡ earlier ++ last ∷ []
  pub done : last.told ≡ told.Done
  pub back : List ℕ
  pub steps : filter_map (λ line. made_step resources line.told) own
      ≡ filter is_told job.steps ++ map (λ at. Give at) back
  pub worked : sum_by turns_of job.steps ≤ last.turn

-- by the lines of each report a job that is counted as done has made all its steps
abbrev pub WhoIsDoneMadeAllSteps : Type 0
WhoIsDoneMadeAllSteps =
    (plan : Plan) (turns : ℕ) → IsRunnable plan
    → (lines : List Line) × AreLines plan (machine_after plan turns).scene.text lines
    × ((place : ℕ) (job : Job) → slice_get plan.jobs place ≡ Some job
    → progress_of plan turns place ≡ Some (Ended Done)
    → HasMadeAllSteps plan.resources job (own_lines place lines))
