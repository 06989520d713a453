-- The calls of a floor in the words of its plain resources: what each answers, and
-- the plain floor after it.
use Rattle.std.specs.Prelude.{ℕ, zero, suc, nat_lt, ◌==◌, Bool, List, [], ◌∷◌, Option, Some, None, if◌then◌else◌}
use Rattle.std.specs.Option.{option_map_or}
use Rattle.std.specs.List.{list_any}
use Rattle.cqs_core.specs.QueueLine.{Waiting}
use Rattle.cqs_plan.specs.declared.floors.answers.FloorTake.{FloorTake}
use Rattle.cqs_plan.specs.declared.floors.answers.FloorTake.TheVariants.{Now, Waits}
use Rattle.cqs_plan.specs.declared.floors.answers.FloorGive.{FloorGive}
use Rattle.cqs_plan.specs.declared.floors.answers.FloorGive.TheVariants.{Free, Sent}
use Rattle.cqs_plan.specs.declared.floors.answers.FloorLook.{FloorLook}
use Rattle.cqs_plan.specs.declared.floors.answers.FloorLook.TheVariants.{Pending, Granted}
use Rattle.cqs_plan.specs.declared.floors.answers.FloorLeave.{FloorLeave}
use Rattle.cqs_plan.specs.declared.floors.answers.FloorLeave.TheVariants.{Gone, Late}
use Rattle.cqs_plan.specs.declared.floors.answers.FloorDown.{FloorDown}
use Rattle.cqs_plan.specs.declared.floors.answers.FloorDown.TheVariants.{Left, Last, Already}
use Rattle.cqs_plan.specs.declared.floors.answers.FloorEnd.{FloorEnd}
use Rattle.cqs_plan.specs.FloorHistory.{Deed, takes, joins, frees, sends, gets, leaves, is_late, passes, counts, opens, is_open, completes, ending}
use Rattle.cqs_plan.specs.Floor.{PlainFloor, JobWait, Holding, size_at, history_at, standing_at, stands_in, to_come_at, first_free_at, came_to, wait_of, holds_of, round_of, oldest, with_done, with_done_in, with_less_room, with_wait, with_newest, with_came, with_arrived, with_back, without_oldest}

-- take: at once where something is free, else in the line under the next number
abbrev pub take_answer : PlainFloor → ℕ → ℕ → FloorTake
take_answer f at job =
    if nat_lt 0 (standing_at f at).free then Now (first_free_at f at)
    else Waits (standing_at f at).next

-- what is taken is the job's newest; or the job waits
abbrev pub after_take : PlainFloor → ℕ → ℕ → FloorTake → PlainFloor
after_take f at job (Now element) =
    with_newest (with_done (with_less_room f at) at (takes element)) job at element
after_take f at job (Waits number) =
    with_wait (with_done (with_less_room f at) at (joins number)) job
    (Some (record { at = at; round = 0; number = number }))

-- give: the oldest that the job holds goes to the first of the line, and is
-- free where nobody is in it
abbrev pub give_of : List Waiting → Option Holding → FloorGive
give_of [] held = Free (option_map_or (λ h. h.element) held 0)
give_of (first ∷ line) held = Sent (option_map_or (λ h. h.element) held 0) first.wait

-- what a give answers
abbrev pub give_answer : PlainFloor → ℕ → ℕ → FloorGive
give_answer f at job = give_of (standing_at f at).line (oldest at (holds_of f job))

-- what is given back is the job's no more
abbrev pub after_give : PlainFloor → ℕ → ℕ → FloorGive → PlainFloor
after_give f at job (Free element) =
    without_oldest (with_done f at (frees element)) job at
after_give f at job (Sent element number) =
    without_oldest (with_done f at (sends element number)) job at

-- the wait stands in the line
abbrev pub is_in_line : PlainFloor → JobWait → Bool
is_in_line f wait = list_any (λ w. w.wait == wait.number) (stands_in f wait.at wait.round).line

-- the wait of the job is over, and what came is its newest; at a latch or a barrier it only goes on
abbrev pub with_granted : PlainFloor → ℕ → (ℕ → ℕ → Deed) → Option JobWait → ℕ → PlainFloor
with_granted f job deed None element = f
with_granted f job deed (Some wait) element =
    with_came (with_wait (with_done_in f wait.at wait.round (deed wait.number element)) job None)
    job wait.at element

-- look: a wait that isn't in the line any more was served
abbrev pub look_of : PlainFloor → Option JobWait → FloorLook
look_of f None = Pending
look_of f (Some wait) = if is_in_line f wait then Pending else Granted (came_to f wait)

-- what a look answers
abbrev pub look_answer : PlainFloor → ℕ → FloorLook
look_answer f job = look_of f (wait_of f job)

-- a look that finds nothing new changes nothing
abbrev pub after_look : PlainFloor → ℕ → FloorLook → PlainFloor
after_look f job Pending = f
after_look f job (Granted element) =
    with_granted f job gets (wait_of f job) element

-- leave: a wait that is in the line goes, and one that was served is late
abbrev pub leave_of : PlainFloor → Option JobWait → FloorLeave
leave_of f None = Gone
leave_of f (Some wait) = if is_in_line f wait then Gone else Late (came_to f wait)

-- what a leave answers
abbrev pub leave_answer : PlainFloor → ℕ → FloorLeave
leave_answer f job = leave_of f (wait_of f job)

-- the wait of the job is gone, and with it an arrival that waited
abbrev pub with_left : PlainFloor → ℕ → Option JobWait → PlainFloor
with_left f job None = f
with_left f job (Some wait) =
    with_back (with_wait (with_done_in f wait.at wait.round (leaves wait.number)) job None)
    job wait

-- a job that was late has what came
abbrev pub after_leave : PlainFloor → ℕ → FloorLeave → PlainFloor
after_leave f job Gone = with_left f job (wait_of f job)
after_leave f job (Late element) =
    with_granted f job is_late (wait_of f job) element

-- down: a latch is counted down once, and opens with the last
abbrev pub down_of : ℕ → FloorDown
down_of zero = Already
down_of (suc zero) = Last
down_of (suc (suc n)) = Left (suc n)

-- what a down answers
abbrev pub down_answer : PlainFloor → ℕ → FloorDown
down_answer f at = down_of (to_come_at f at 0)

abbrev pub after_down : PlainFloor → ℕ → FloorDown → PlainFloor
after_down f at (Left n) = with_done f at (counts n)
after_down f at Last = with_done f at opens
after_down f at Already = with_done f at is_open

-- wait: in the line of a latch while it is to be counted down, else at once
abbrev pub wait_answer : PlainFloor → ℕ → FloorTake
wait_answer f at =
    if nat_lt 0 (to_come_at f at 0) then Waits (standing_at f at).next else Now 0

-- the job passes the latch, or waits there
abbrev pub after_wait : PlainFloor → ℕ → ℕ → FloorTake → PlainFloor
after_wait f at job (Now element) = with_done (with_less_room f at) at passes
after_wait f at job (Waits number) =
    with_wait (with_done (with_less_room f at) at (joins number)) job
    (Some (record { at = at; round = 0; number = number }))

-- arrive: in the line of the job's round while others are still to arrive there, else at once
abbrev pub arrive_of : ℕ → ℕ → FloorTake
arrive_of to_come next = if nat_lt 1 to_come then Waits next else Now 0

-- what an arrival answers
abbrev pub arrive_answer : PlainFloor → ℕ → ℕ → FloorTake
arrive_answer f at job =
    let round = round_of f job at in
    arrive_of (to_come_at f at round) (stands_in f at round).next

-- an arrival does this in the job's round, which is its next one from then on
abbrev pub with_arrival : PlainFloor → ℕ → ℕ → Deed → PlainFloor
with_arrival f at job deed =
    with_arrived (with_done_in (with_less_room f at) at (round_of f job at) deed) job at

-- the job was the last to arrive, or waits
abbrev pub after_arrive : PlainFloor → ℕ → ℕ → FloorTake → PlainFloor
after_arrive f at job (Now element) = with_arrival f at job completes
after_arrive f at job (Waits number) =
    with_wait (with_arrival f at job (joins number)) job
    (Some (record { at = at; round = round_of f job at; number = number }))

-- end: how the resource stands
abbrev pub end_answer : PlainFloor → ℕ → FloorEnd
end_answer f at = ending (size_at f at) (history_at f at)
