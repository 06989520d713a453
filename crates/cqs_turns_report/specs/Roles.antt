-- What the code passes around, in the words of the turn machine.
use Rattle.std.specs.Prelude.{ℕ, Bool, false, List, Option, slice_get}
use Rattle.std.specs.Option.{option_map_or}
use Rattle.cqs_plan.specs.declared.plans.resource.Resource.{Resource}
use Rattle.cqs_plan.specs.Floor.{PlainFloor, JobWait}
use Rattle.cqs_plan.specs.Language.{can_hold}
use Rattle.cqs_plan.specs.declared.floors.answers.FloorLeave.{FloorLeave}
use Rattle.cqs_plan.specs.declared.floors.answers.FloorLeave.TheVariants.{Gone, Late}
use Rattle.cqs_turns_report.specs.declared.actors.Actor.{Actor}
use Rattle.cqs_turns_report.specs.declared.lines.Told.{Told}
use Rattle.cqs_turns_report.specs.declared.lines.Told.TheVariants.{Retries, Served}
use Rattle.cqs_turns_report.specs.declared.states.Progress.{Progress}
use Rattle.cqs_turns_report.specs.Ready.{with_place}
use Rattle.cqs_turns_report.specs.Turns.{Role, Scene, Made}

-- who acts, and when
abbrev pub role : Actor → Role
role a = record { resources = a.resources.now; turn = a.turn; place = a.place; job = a.job.now }

-- the floor and the report as they stand
abbrev pub scene : PlainFloor → List ℕ → Scene
scene floor text = record { floor = floor; text = text }

-- what a step made
abbrev pub made_of : Scene → Option Progress → Made
made_of s stops = record { scene = s; stops = stops }

-- a wait at a resource
abbrev pub wait_at : ℕ → ℕ → ℕ → JobWait
wait_at at round number = record { at = at; round = round; number = number }

-- the resource at a place can be taken and given
abbrev pub is_holdable_at : List Resource → ℕ → Bool
is_holdable_at resources at =
    option_map_or (λ resource. can_hold resource.kind) (slice_get resources at) false

-- what a job holds that left the line, or was late, by whether that can be held
abbrev pub left_with : List Resource → List ℕ → ℕ → FloorLeave → List ℕ
left_with resources held at Gone = held
left_with resources held at (Late element) = with_place (is_holdable_at resources at) held at

-- what a job tells that was served
abbrev pub told_served : ℕ → ℕ → ℕ → ℕ → Told
told_served at round number element = Served at round number element

-- what a job tells that makes a step again
abbrev pub told_retries : ℕ → ℕ → ℕ → Told
told_retries at round number = Retries at round number
