-- What a worker's code does, in the words of the machine over answers.
use Rattle.std.specs.Prelude.{ℕ, List, Option}
use Rattle.cqs_plan.specs.Floor.{round_of}
use Rattle.cqs_plan.specs.declared.plans.step.Step.{Step}
use Rattle.cqs_turns_report.specs.declared.actors.Actor.{Actor}
use Rattle.cqs_turns_report.specs.declared.states.End.{End}
use Rattle.cqs_turns_report.specs.declared.states.Progress.{Progress}
use Rattle.cqs_turns_report.specs.Machine.{ActedIn, MadeIn, left_at, end_of, after_coming}
use Rattle.cqs_turns_report.specs.Machine as machine
use Rattle.cqs_turns_report.specs.Roles.{role}
use Rattle.cqs_work.specs.Heard.{Heard, heard_world, come_heard, leave_heard, look_heard}
use Rattle.cqs_work.specs.Stages.{Stage, stage}
use Rattle.cqs_turns_report.specs.declared.states.Patience.{Patience}

-- nothing is left to be done
abbrev pub same : Heard → Heard
same h = h

-- the job has come so far
abbrev pub left_so : Progress → Heard → ActedIn Heard
left_so progress h = left_at h progress

-- the job's turn ends so with a step, or goes on
abbrev pub made_so : Option Progress → Heard → MadeIn Heard
made_so stops h = record { scene = h; stops = stops }

-- the job gives back the oldest of a resource; of each of these
abbrev pub give_one : Actor → ℕ → Heard → Heard
give_one a at h = heard_world.after_give (role a) at h

abbrev pub give_each : Actor → List ℕ → Heard → Heard
give_each a places h = machine.after_gives heard_world (role a) places h

abbrev pub finish : Actor → Heard → ActedIn Heard
finish a h = machine.after_last_step heard_world (role a) h

abbrev pub count_down : Actor → ℕ → Heard → Heard
count_down a at h = heard_world.after_down (role a) at h

abbrev pub take_step : Actor → ℕ → ℕ → Heard → MadeIn Heard
take_step a next at h =
    after_coming next at 0 (heard_world.after_take (role a) at) (come_heard h.answers) h

abbrev pub wait_step : Actor → ℕ → ℕ → Heard → MadeIn Heard
wait_step a next at h =
    after_coming next at 0 (heard_world.after_wait (role a) at) (come_heard h.answers) h

abbrev pub arrive_step : Actor → ℕ → ℕ → Heard → MadeIn Heard
arrive_step a next at h =
    after_coming next at (round_of h.board (role a).place at)
    (heard_world.after_arrive (role a) at) (come_heard h.answers) h

abbrev pub make_step : Actor → ℕ → Step → Heard → MadeIn Heard
make_step a next step h = machine.after_step heard_world (role a) next step h

abbrev pub go_on : Actor → ℕ → Heard → ActedIn Heard
go_on a next h = machine.go_on heard_world (role a) next h

-- the job leaves with its wait, and so it ends
abbrev pub leave_line : Actor → ℕ → ℕ → ℕ → Heard → Heard
leave_line a at round number h =
    heard_world.after_leave (role a) at round number (leave_heard h.answers) h

abbrev pub leave_end : Actor → ℕ → ℕ → ℕ → Heard → Heard × End
leave_end a at round number h =
    (leave_line a at round number h, end_of (leave_heard h.answers))

abbrev pub ended_so : End → Heard → Heard × End
ended_so end h = (h, end)

abbrev pub give_up : Actor → ℕ → ℕ → ℕ → Heard → ActedIn Heard
give_up a at round number h =
    machine.after_giving_up heard_world (role a) at round number (leave_heard h.answers) h

abbrev pub look_at : Actor → ℕ → ℕ → ℕ → ℕ → Heard → ActedIn Heard
look_at a next at round number h =
    machine.after_looking heard_world (role a) next at round number (look_heard h.answers) h

-- the job makes the step again at which it waited
abbrev pub go_back : Actor → ℕ → ℕ → ℕ → ℕ → Heard → ActedIn Heard
go_back a next at round number h =
    machine.after_retrying heard_world (role a) next at round number h

-- the whole turn of a job at this stage
abbrev pub act : Actor → Stage → Heard → ActedIn Heard
act a s h = machine.after_acting heard_world (role a) s.patience s.progress h

abbrev pub patience_after : Actor → Stage → Heard → Patience
patience_after a s h = machine.patience_after heard_world (role a) s.patience s.progress h

-- with what its patience rests on then
abbrev pub patiently : Patience → ActedIn Heard → Heard × Stage
patiently patience b = (b.scene, stage b.progress patience)

abbrev pub turn : Actor → Stage → Heard → Heard × Stage
turn a s h = patiently (patience_after a s h) (act a s h)

abbrev pub staged : Stage → Heard → Heard × Stage
staged s h = (h, s)
