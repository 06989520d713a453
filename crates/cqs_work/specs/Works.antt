-- What a worker's whole work is.
use Rattle.std.specs.Prelude.{◌≡◌, ℕ, zero, suc, ◌+◌, ◌<◌, Bool, List, [], ◌∷◌, Some, None, Result, IfOk, length, map, slice_get}
use Rattle.std.specs.Option.{option_map_or}
use Rattle.cqs_core.specs.declared.Memory.{Memory}
use Rattle.cqs_plan.specs.declared.plans.job.Job.{Job}
use Rattle.cqs_plan.specs.declared.plans.plan.Plan.{Plan}
use Rattle.cqs_plan.specs.Floor.{PlainFloor, wait_of}
use Rattle.cqs_plan.specs.Runnable.{kinds_of}
use Rattle.cqs_turns_report.specs.declared.actors.Actor.{Actor}
use Rattle.cqs_turns_report.specs.declared.states.JobState.{JobState}
use Rattle.cqs_turns_report.specs.declared.states.Progress.{Progress}
use Rattle.cqs_turns_report.specs.declared.states.Progress.TheVariants.{Stepping, Working, Waiting, Ended}
use Rattle.cqs_turns_report.specs.Machine.{MachineIn, Role}
use Rattle.cqs_turns_report.specs.Machine as machine
use Rattle.cqs_turns_report.specs.Ready.{IsReady, wait_in, steps_left}
use Rattle.cqs_turns_report.specs.Roles.{role}
use Rattle.cqs_turns_report.specs.Turns.{places_held}
use Rattle.cqs_work.specs.declared.waits.Waited.{Waited}
use Rattle.cqs_work.specs.declared.works.Post.{Post}
use Rattle.cqs_work.specs.declared.works.Worker.{Worker}
use Rattle.cqs_floor_shared.specs.Shared.{Shared}
use Rattle.cqs_work.specs.Adds.{Keeps}
use Rattle.cqs_work.specs.Courses.{Went}
use Rattle.cqs_work.specs.Desk.{Desk, desk, fresh_desk}
use Rattle.cqs_work.specs.Gated.{Gated}
use Rattle.cqs_work.specs.Heard.{Heard, Hears, heard_world}
use Rattle.cqs_work.specs.Roles.{same}
use Rattle.cqs_work.specs.Needs.{AreProvided, IsInRounds, CanGoBackIn}
use Rattle.cqs_work.specs.Stages.{Stage, stages_of, progress_at}

abbrev pub machine_so : List Stage → Heard → MachineIn Heard
machine_so stages h =
    record {
      scene = h;
      progress = map (λ s. s.progress) stages;
      patience = map (λ s. s.patience) stages;
    }

-- the job at a place has its turn
abbrev pub job_turn : Plan → ℕ → ℕ → MachineIn Heard → MachineIn Heard
job_turn plan turn place m =
    option_map_or (λ job. machine.one_job heard_world plan.resources turn place job m)
    (slice_get plan.jobs place) m

abbrev pub job_turn_so : Plan → ℕ → ℕ → List Stage → Heard → MachineIn Heard
job_turn_so plan turn place stages h = job_turn plan turn place (machine_so stages h)

-- a turn
abbrev pub turn_of : Plan → ℕ → MachineIn Heard → MachineIn Heard
turn_of plan turn m = machine.each_job heard_world plan.resources turn 0 plan.jobs m

abbrev pub turn_so : Plan → ℕ → List Stage → Heard → MachineIn Heard
turn_so plan turn stages h = turn_of plan turn (machine_so stages h)

-- the first so many turns
abbrev pub turns_of : Plan → ℕ → List Stage → Heard → MachineIn Heard
turns_of plan zero stages h = machine_so stages h
turns_of plan (suc turn) stages h = turn_of plan turn (turns_of plan turn stages h)

-- after the last turn a job leaves the line, where it waits, and gives back all that it holds
abbrev pub line_left : Role → Progress → Heard → Heard
line_left r (Waiting next at round number) h =
    heard_world.after_leave r at round number (heard_world.leave_answer r h) h
line_left r (Stepping next) h = h
line_left r (Working next until) h = h
line_left r (Ended end) h = h

abbrev pub after_last_gives : Role → Progress → Heard → Heard
after_last_gives r progress h = machine.after_all_gives heard_world r (line_left r progress h)

abbrev pub line_left_so : Actor → Progress → Heard → Heard
line_left_so a progress h = line_left (role a) progress h

abbrev pub close : Actor → Progress → Heard → Heard
close a progress h = after_last_gives (role a) progress h

-- each job in order; the first one's place is `place`
abbrev pub close_from : Plan → ℕ → List Job → List Stage → Heard → Heard
close_from plan place [] stages h = h
close_from plan place (job ∷ jobs) stages h =
    close_from plan (place + 1) jobs stages
    (after_last_gives
    (record { resources = plan.resources; turn = plan.turns; place = place; job = job })
    (progress_at stages place) h)

abbrev pub close_all : Plan → List Stage → Heard → Heard
close_all plan stages h = close_from plan 0 plan.jobs stages h

-- each state has the places of what the jobs hold
pub record AreKept (b : PlainFloor) (states : List JobState) : Type 0 where
  pub held : (place : ℕ) (state : JobState) → slice_get states place ≡ Some state
      → state.held.items ≡ places_held b place

-- every job is so far on this floor, and the floor has what all need together
pub record RunsOn (plan : Plan) (f : Shared) (states : List JobState) : Type 0 where
  pub jobs : length states ≡ length plan.jobs
  pub waits : length f.board.waits ≡ length plan.jobs
  pub holds : length f.board.holds ≡ length plan.jobs
  pub kinds : f.board.kinds ≡ kinds_of plan.resources
  pub ready : (place : ℕ) (job : Job) (state : JobState) → slice_get plan.jobs place ≡ Some job
      → slice_get states place ≡ Some state
      → IsReady f.board place (wait_in state.progress) (steps_left job.steps state.progress)
  pub rounds : (place : ℕ) (job : Job) (state : JobState) → slice_get plan.jobs place ≡ Some job
      → slice_get states place ≡ Some state → IsInRounds f.board place job.steps state.progress
  pub back : (place : ℕ) (job : Job) (state : JobState) → slice_get plan.jobs place ≡ Some job
      → slice_get states place ≡ Some state → CanGoBackIn f place job.steps state.progress
  pub provided : AreProvided f plan.jobs (stages_of states)
  pub kept : AreKept f.board states

-- the job has nothing left there
pub record IsClear (b : PlainFloor) (place : ℕ) : Type 0 where
  pub waits : wait_of b place ≡ None
  pub holds : places_held b place ≡ []

-- no job has anything left
pub record AllClear (plan : Plan) (g : Shared) : Type 0 where
  pub at : (place : ℕ) → place < length plan.jobs → IsClear g.board place
  pub waits : length g.board.waits ≡ length plan.jobs
  pub holds : length g.board.holds ≡ length plan.jobs

-- A worker's work: there are answers to the calls of all turns, which leave the jobs so, and then
-- to those after the last turn.
pub record HasWorked (plan : Plan) (f : Desk) (states ends : List JobState) (g : Desk)
    : Type 0 where
  pub last : Desk
  pub long : length ends ≡ length plan.jobs
  pub turns : Hears f last (turns_of plan plan.turns (stages_of states))
      (machine_so (stages_of ends))
  pub went : Went plan f (stages_of states) last (stages_of ends)
  pub closing : Hears last g (close_all plan (stages_of ends)) same
  pub keeps : Keeps last g
  pub clear : AllClear plan g.floor

-- A worker's work, which left this floor and these waits.
pub record HasWorkedOn (plan : Plan) (f : Desk) (states ends : List JobState) (floor : Shared)
    (waits : List Waited) : Type 0 where
  pub gate : Gated
  pub works : HasWorked plan f states ends (desk floor waits gate)

-- each worker has worked from its post, and its gate was told of its calls as `told` says
pub record AllWorked {F : Type 0} (shared : F → Shared) (told : ℕ → ℕ → Bool) (plan : Plan)
    (posts : List (Post F)) (all : List (Result (Worker F) Memory)) : Type 0 where
  pub at : (i : ℕ) (post : Post F) (r : Result (Worker F) Memory) → slice_get posts i ≡ Some post
      → slice_get all i ≡ Some r
      → IfOk r (λ worker. HasWorkedOn plan (fresh_desk (shared post.floor) (told post.worker))
      post.states.items worker.states.items (shared worker.floor) worker.waits.items)
