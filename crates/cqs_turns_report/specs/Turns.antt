-- The turn machine on the plain floor, where each event has its line in the report.
pub use Rattle.cqs_turns_report.specs.Machine.{Role, is_due, is_outwaited, is_over_time, may_retry, retries, fresh, moved, retried, after_leave_at, after_look_at, end_of, left_at, stop_or}
use Rattle.std.specs.Prelude.{ℕ, List, [], ◌++◌, Option, Some, None, map}
use Rattle.cqs_plan.specs.declared.plans.resource.Resource.{Resource}
use Rattle.cqs_plan.specs.declared.plans.step.Step.{Step}
use Rattle.cqs_plan.specs.declared.plans.job.Job.{Job}
use Rattle.cqs_plan.specs.declared.plans.plan.Plan.{Plan}
use Rattle.cqs_plan.specs.declared.floors.answers.FloorTake.{FloorTake}
use Rattle.cqs_plan.specs.declared.floors.answers.FloorTake.TheVariants.{Now, Waits}
use Rattle.cqs_plan.specs.declared.floors.answers.FloorGive.{FloorGive}
use Rattle.cqs_plan.specs.declared.floors.answers.FloorGive.TheVariants.{Free, Sent}
use Rattle.cqs_plan.specs.declared.floors.answers.FloorLook.{FloorLook}
use Rattle.cqs_plan.specs.declared.floors.answers.FloorLook.TheVariants.{Pending, Granted}
use Rattle.cqs_plan.specs.declared.floors.answers.FloorLeave.{FloorLeave}
use Rattle.cqs_plan.specs.declared.floors.answers.FloorLeave.TheVariants as leave
use Rattle.cqs_plan.specs.declared.floors.answers.FloorDown.{FloorDown}
use Rattle.cqs_plan.specs.declared.floors.answers.FloorDown.TheVariants.{Left, Last, Already}
use Rattle.cqs_plan.specs.Floor.{PlainFloor, holds_of, round_of, opening_floor}
use Rattle.cqs_plan.specs.FloorCalls.{take_answer, after_take, give_answer, after_give, look_answer, after_look, leave_answer, after_leave, down_answer, after_down, wait_answer, after_wait, arrive_answer, after_arrive}
use Rattle.cqs_turns_report.specs.declared.lines.Told.{Told}
use Rattle.cqs_turns_report.specs.declared.lines.Told.TheVariants as told
use Rattle.cqs_turns_report.specs.declared.states.Patience.{Patience}
use Rattle.cqs_turns_report.specs.declared.states.Progress.{Progress}
use Rattle.cqs_turns_report.specs.Lines.{line_text}
use Rattle.cqs_turns_report.specs.Machine.{World, ActedIn, MadeIn, MachineIn}
use Rattle.cqs_turns_report.specs.Machine as machine

-- what the events of a job change: the floor, and the report so far
pub record Scene : Type 0 where
  pub floor : PlainFloor
  pub text : List ℕ

-- an event: a change of the floor, and its line
abbrev pub event : Role → Scene → PlainFloor → Told → Scene
event r s floor told =
    record { floor = floor; text = s.text ++ line_text r.resources r.turn r.job.name told }

-- what the answer to a take tells
abbrev pub take_told : ℕ → FloorTake → Told
take_told at (Now element) = told.Takes at element
take_told at (Waits number) = told.Waits at 0 number

-- what the answer to a give tells
abbrev pub give_told : ℕ → FloorGive → Told
give_told at (Free element) = told.GivesFree at element
give_told at (Sent element number) = told.GivesSent at element number

-- what the answer to the cancelling of a wait tells
abbrev pub leave_told : ℕ → ℕ → ℕ → FloorLeave → Told
leave_told at round number leave.Gone = told.GaveUp at round number
leave_told at round number (leave.Late element) = told.Late at round number

-- what the answer to a count down tells
abbrev pub down_told : ℕ → FloorDown → Told
down_told at (Left left) = told.DownsLeft at left
down_told at Last = told.DownsOpen at
down_told at Already = told.DownsAlready at

-- what the answer to a wait at a latch tells
abbrev pub wait_told : ℕ → FloorTake → Told
wait_told at (Now element) = told.Passes at
wait_told at (Waits number) = told.Waits at 0 number

-- what the answer to an arrival in a round tells
abbrev pub arrive_told : ℕ → ℕ → FloorTake → Told
arrive_told at round (Now element) = told.ArrivesLast at round
arrive_told at round (Waits number) = told.Waits at round number

-- the job takes
abbrev pub on_take : Role → ℕ → FloorTake → Scene → Scene
on_take r at answer s = event r s (after_take s.floor at r.place answer) (take_told at answer)

-- the job gives back the oldest that it holds of a resource, and this is the floor's answer
abbrev pub on_give_answer : Role → ℕ → FloorGive → Scene → Scene
on_give_answer r at answer s
    = event r s (after_give s.floor at r.place answer) (give_told at answer)

-- the job gives back the oldest that it holds of a resource
abbrev pub on_give : Role → ℕ → Scene → Scene
on_give r at s = on_give_answer r at (give_answer s.floor at r.place) s

-- the places of what the job holds, oldest first
abbrev pub places_held : PlainFloor → ℕ → List ℕ
places_held f job = map (λ h. h.at) (holds_of f job)

-- the job cancels its wait: the wait is gone, or too late, and then the job
-- holds what came as its newest
abbrev pub on_leave : Role → ℕ → ℕ → ℕ → FloorLeave → Scene → Scene
on_leave r at round number answer s =
    event r s (after_leave s.floor r.place answer) (leave_told at round number answer)

-- its wait is gone, and it makes the step again
abbrev pub on_retry : Role → ℕ → ℕ → ℕ → Scene → Scene
on_retry r at round number s =
    event r s (after_leave s.floor r.place leave.Gone) (told.Retries at round number)

-- what a look leaves of the scene
abbrev pub on_look : Role → ℕ → ℕ → ℕ → FloorLook → Scene → Scene
on_look r at round number Pending s = s
on_look r at round number (Granted element) s =
    event r s (after_look s.floor r.place (Granted element)) (told.Served at round number element)

-- the job counts a latch down
abbrev pub on_down_answer : Role → ℕ → FloorDown → Scene → Scene
on_down_answer r at answer s = event r s (after_down s.floor at answer) (down_told at answer)

abbrev pub on_down : Role → ℕ → Scene → Scene
on_down r at s = on_down_answer r at (down_answer s.floor at) s

-- the job waits at a latch, or passes it
abbrev pub on_wait : Role → ℕ → FloorTake → Scene → Scene
on_wait r at answer s = event r s (after_wait s.floor at r.place answer) (wait_told at answer)

-- the job arrives at a barrier, in its round there
abbrev pub on_arrive : Role → ℕ → FloorTake → Scene → Scene
on_arrive r at answer s =
    event r s (after_arrive s.floor at r.place answer)
    (arrive_told at (round_of s.floor r.place at) answer)

-- what an answered take, wait or arrival leaves of the scene; the plain floor turns nobody away
abbrev pub on_answer : (FloorTake → Scene → Scene) → Option FloorTake → Scene → Scene
on_answer on None s = s
on_answer on (Some answer) s = on answer s

-- the plain floor answers the calls, and each event has its line
abbrev pub plain_world : World Scene
plain_world = record {
  take_answer = λ r at s. Some (take_answer s.floor at r.place);
  after_take = λ r at. on_answer (on_take r at);
  after_give = on_give;
  after_down = on_down;
  wait_answer = λ r at s. Some (wait_answer s.floor at);
  after_wait = λ r at. on_answer (on_wait r at);
  round = λ r at s. round_of s.floor r.place at;
  arrive_answer = λ r at s. Some (arrive_answer s.floor at r.place);
  after_arrive = λ r at. on_answer (on_arrive r at);
  look_answer = λ r s. look_answer s.floor r.place;
  after_look = on_look;
  leave_answer = λ r s. leave_answer s.floor r.place;
  after_leave = on_leave;
  after_retry = on_retry;
  done = λ r s. event r s s.floor told.Done;
  held = λ job s. places_held s.floor job;
}

-- the words of the machine, on the plain floor
abbrev pub Acted : Type 0
Acted = ActedIn Scene

abbrev pub Made : Type 0
Made = MadeIn Scene

abbrev pub Machine : Type 0
Machine = MachineIn Scene

abbrev pub after_gives : Role → List ℕ → Scene → Scene
after_gives r places s = machine.after_gives plain_world r places s

abbrev pub after_all_gives : Role → Scene → Scene
after_all_gives r s = machine.after_all_gives plain_world r s

abbrev pub after_last_step : Role → Scene → Acted
after_last_step r s = machine.after_last_step plain_world r s

-- a step that may have to wait at a place, in a round, and was answered so, with what it changes
abbrev pub after_coming
    : ℕ → ℕ → ℕ → (FloorTake → Scene → Scene) → FloorTake → Scene → Made
after_coming next at round on answer s =
    machine.after_coming next at round (on_answer on) (Some answer) s

abbrev pub after_taking : Role → ℕ → ℕ → FloorTake → Scene → Made
after_taking r next at answer s = after_coming next at 0 (on_take r at) answer s

abbrev pub after_waiting : Role → ℕ → ℕ → FloorTake → Scene → Made
after_waiting r next at answer s = after_coming next at 0 (on_wait r at) answer s

abbrev pub after_arriving : Role → ℕ → ℕ → FloorTake → Scene → Made
after_arriving r next at answer s =
    after_coming next at (round_of s.floor r.place at) (on_arrive r at) answer s

abbrev pub after_step : Role → ℕ → Step → Scene → Made
after_step r next step s = machine.after_step plain_world r next step s

abbrev pub after_steps : Role → List Step → ℕ → Scene → Acted
after_steps r steps next s = machine.after_steps plain_world r steps next s

abbrev pub go_on : Role → ℕ → Scene → Acted
go_on r next s = machine.go_on plain_world r next s

abbrev pub after_giving_up : Role → ℕ → ℕ → ℕ → FloorLeave → Scene → Acted
after_giving_up r at round number answer s =
    machine.after_giving_up plain_world r at round number answer s

abbrev pub after_looking : Role → ℕ → ℕ → ℕ → ℕ → FloorLook → Scene → Acted
after_looking r next at round number answer s =
    machine.after_looking plain_world r next at round number answer s

abbrev pub after_retrying : Role → ℕ → ℕ → ℕ → ℕ → Scene → Acted
after_retrying r next at round number s =
    machine.after_retrying plain_world r next at round number s

abbrev pub after_waiting_long : Role → Patience → ℕ → ℕ → ℕ → ℕ → FloorLeave → Scene → Acted
after_waiting_long r patience next at round number answer s =
    machine.after_waiting_long plain_world r patience next at round number answer s

abbrev pub after_acting : Role → Patience → Progress → Scene → Acted
after_acting r patience progress s = machine.after_acting plain_world r patience progress s

abbrev pub patience_after : Role → Patience → Progress → Scene → Patience
patience_after r patience progress s = machine.patience_after plain_world r patience progress s

abbrev pub one_job : List Resource → ℕ → ℕ → Job → Machine → Machine
one_job resources turn place job m = machine.one_job plain_world resources turn place job m

abbrev pub each_job : List Resource → ℕ → ℕ → List Job → Machine → Machine
each_job resources turn place jobs m = machine.each_job plain_world resources turn place jobs m

abbrev pub one_turn : Plan → ℕ → Machine → Machine
one_turn plan turn m = machine.one_turn plain_world plan turn m

-- before the first turn: nothing has happened, and nothing was told
abbrev pub opening_scene : Plan → Scene
opening_scene plan = record { floor = opening_floor plan; text = [] }

-- the machine after the first so many turns
abbrev pub machine_after : Plan → ℕ → Machine
machine_after plan turns = machine.machine_after plain_world plan (opening_scene plan) turns

-- the machine before the first turn: every job is at its first step
abbrev pub opening_machine : Plan → Machine
opening_machine plan = machine_after plan 0
