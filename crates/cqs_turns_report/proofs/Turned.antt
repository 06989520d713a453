-- What the turn of a job leaves: the job is ready for its next turn, and the floor has moved for this job alone.
use Rattle.std.proofs.Common.{◌≡◌, ℕ, ◌+◌, ◌-◌, ◌≤◌, List, [], ◌∷◌, Bool, true, false, ◌&&◌, cond, nat_lt, Option, Some, None, take, drop, get_or, count_by, refl, sym, ap, ◌∙◌, arith}
use Rattle.std.specs.Bool.{if◌then◌else◌}
use Rattle.std.specs.Option.{option_map_or}
use Rattle.std.proofs.lemmas.List.{drop-drop}
use Rattle.std.proofs.lemmas.List.Sums.{sum_by-take-le}
use Rattle.cqs_plan.specs.declared.plans.step.Step.{Step}
use Rattle.cqs_plan.specs.declared.plans.step.Step.TheVariants.{Take, Give, Down, Await, Arrive, Work}
use Rattle.cqs_plan.specs.declared.floors.answers.FloorTake.{FloorTake}
use Rattle.cqs_plan.specs.declared.floors.answers.FloorTake.TheVariants.{Now, Waits}
use Rattle.cqs_plan.specs.declared.floors.answers.FloorLook.{FloorLook}
use Rattle.cqs_plan.specs.declared.floors.answers.FloorLook.TheVariants.{Pending, Granted}
use Rattle.cqs_plan.specs.declared.floors.answers.FloorLeave.{FloorLeave}
use Rattle.cqs_plan.specs.declared.floors.answers.FloorLeave.TheVariants as leave
use Rattle.cqs_plan.specs.PlanSteps.{is_arrival, may_wait}
use Rattle.cqs_plan.specs.Floor.{PlainFloor, JobWait, own_rounds, room_at, round_of}
use Rattle.cqs_plan.specs.FloorCalls.{take_answer, give_answer, wait_answer, arrive_answer, look_answer, leave_answer, after_look, with_left}
use Rattle.cqs_turns_report.specs.declared.lines.Told.TheVariants as told
use Rattle.cqs_turns_report.specs.declared.states.Patience.{Patience}
use Rattle.cqs_turns_report.specs.declared.states.Progress.{Progress}
use Rattle.cqs_turns_report.specs.declared.states.Progress.TheVariants.{Stepping, Working, Waiting, Ended}
use Rattle.cqs_turns_report.specs.Ready.{IsReady, IsBack, IsBackIn, HasRoom, HasRoomFor, row_back, wait_in, steps_left}
use Rattle.cqs_turns_report.specs.Running.{IsInRounds}
use Rattle.cqs_turns_report.specs.Roles.{wait_at}
use Rattle.cqs_turns_report.specs.Turns.{Role, Scene, Made, Acted, event, on_give, on_take, on_wait, on_arrive, after_gives, after_all_gives, after_step, after_coming, stop_or, after_steps, go_on, left_at, after_last_step, on_leave, after_giving_up, after_looking, after_retrying, after_acting, end_of, is_over_time, retries, places_held}
use Rattle.cqs_turns_report.proofs.Moved.{Moves, Others, others-of, others-on, moves-none, moves-on, on_give-moves, late-moves, late-room, after_looking-moves, room-after}
use Rattle.cqs_turns_report.proofs.Leaving.{left-others, own-back}
use Rattle.cqs_turns_report.proofs.Readied.{first-ready, leave-ready, after_looking-ready}
use Rattle.cqs_turns_report.proofs.Stepping.{after_step-ready, after_step-moves, step-room}
use Rattle.cqs_turns_report.proofs.SteppingBack.{step-back}

-- the job that had these steps left on the floor f is ready, the floor has moved for it alone, and the room fell no
-- more than the steps that may wait
pub record Turned (r : Role) (f : PlainFloor) (steps : List Step) (a : Acted) : Type 0 where
  pub ready : IsReady a.scene.floor r.place (wait_in a.progress) (steps_left r.job.steps a.progress)
  pub others : Others r.place f a.scene.floor
  pub room : (at : ℕ)
      → room_at f at + count_by (may_wait at) (steps_left r.job.steps a.progress)
      ≤ room_at a.scene.floor at + count_by (may_wait at) steps
  pub rounds : IsInRounds a.scene.floor r.place r.job.steps a.progress
  pub back : IsBackIn a.scene.floor r.place r.job.steps a.progress

-- the job that had these steps left made some before it turned
turned-on : (r : Role) (f : PlainFloor) (steps : List Step) (g : PlainFloor) (left : List Step) (a : Acted)
    → Moves r.place f steps g left → Turned r g left a → Turned r f steps a
turned-on r f steps g left a moves turned = record {
  ready = turned.ready;
  others = others-on r.place f g a.scene.floor (others-of r.place f steps g left moves) turned.others;
  room = λ at. omega (arith, moves.room at, turned.room at);
  rounds = turned.rounds;
  back = turned.back;
}

after_gives-ready : (r : Role) (places : List ℕ) (s : Scene) → IsReady s.floor r.place None []
    → IsReady (after_gives r places s).floor r.place None []
after_gives-ready r [] s ready = ready
after_gives-ready r (at ∷ places) s ready =
    after_gives-ready r places (on_give r at s) (first-ready s.floor r.place at (give_answer s.floor at r.place) ready)

after_gives-moves : (r : Role) (places : List ℕ) (s : Scene)
    → Moves r.place s.floor [] (after_gives r places s).floor []
after_gives-moves r [] s = moves-none r.place s.floor []
after_gives-moves r (at ∷ places) s =
    moves-on r.place s.floor [] (on_give r at s).floor [] _ []
    (on_give-moves r.place s.floor at (give_answer s.floor at r.place) [])
    (after_gives-moves r places (on_give r at s))

-- what was made is among the job's steps
made-among : (r : Role) (next q : ℕ)
    → count_by (is_arrival q) (take next r.job.steps) ≤ count_by (is_arrival q) r.job.steps
made-among r next q = sum_by-take-le (λ s. cond (is_arrival q s) 1 0) r.job.steps next

after_last_step-turned : (r : Role) (next : ℕ) (s : Scene) → IsReady s.floor r.place None []
    → HasRoom s.floor r.place (take next r.job.steps) []
    → Turned r s.floor [] (after_last_step r s)
after_last_step-turned r next s ready room =
    let moved : Moves r.place s.floor [] (after_last_step r s).scene.floor []
    = after_gives-moves r (places_held s.floor r.place) s in
    record {
      ready = after_gives-ready r (places_held s.floor r.place) s ready;
      others = others-of r.place s.floor [] _ [] moved;
      room = moved.room;
      rounds = λ q. omega (arith, moved.arrives q, room.round q, made-among r next q);
      back = tt;
    }

-- the steps after the first
rest-of : (n : ℕ) (steps : List Step) (step : Step) (rest : List Step) → drop n steps ≡ step ∷ rest
    → drop (n + 1) steps ≡ rest
rest-of n steps step rest split = sym (drop-drop 1 n steps) ∙ ap (drop 1) split

-- how far the job is where its turn ends with a step
abbrev IsAfter : Role → ℕ → List Step → PlainFloor → Progress → Type 0
IsAfter r next rest f p = (steps_left r.job.steps p ≡ rest)
    × (((q : ℕ) → round_of f r.place q ≡ count_by (is_arrival q) (take (next + 1) r.job.steps))
    → IsInRounds f r.place r.job.steps p)

coming-after : (r : Role) (next at round : ℕ) (on : FloorTake → Scene → Scene) (answer : FloorTake) (rest : List Step)
    (s : Scene) (f : PlainFloor) (p : Progress) → drop (next + 1) r.job.steps ≡ rest
    → (after_coming next at round on answer s).stops ≡ Some p → IsAfter r next rest f p
coming-after r next at round on (Now element) rest s f p after stops = absurd (cc)
coming-after r next at round on (Waits number) rest s f p after stops =
    let same : p ≡ Waiting (next + 1) at round number = cc in rw same (after, λ rounds. rounds)

-- where the job's turn ends with a step, the steps after it are left
stops-before : (r : Role) (next : ℕ) (step : Step) (rest : List Step) (s : Scene) (f : PlainFloor) (p : Progress)
    → drop (next + 1) r.job.steps ≡ rest → (after_step r next step s).stops ≡ Some p → IsAfter r next rest f p
stops-before r next (Work turns) rest s f p after stops =
    let same : p ≡ Working (next + 1) (r.turn + turns) = cc in rw same (after, λ rounds. rounds)
stops-before r next (Take at) rest s f p after stops =
    coming-after r next at 0 (on_take r at) (take_answer s.floor at r.place) rest s f p after stops
stops-before r next (Give at) rest s f p after stops = absurd (cc)
stops-before r next (Down at) rest s f p after stops = absurd (cc)
stops-before r next (Await at) rest s f p after stops =
    coming-after r next at 0 (on_wait r at) (wait_answer s.floor at) rest s f p after stops
stops-before r next (Arrive at) rest s f p after stops =
    coming-after r next at (round_of s.floor r.place at) (on_arrive r at) (arrive_answer s.floor at r.place) rest s f p
    after stops

stop-turned : (r : Role) (scene : Scene) (stops : Option Progress) (onward : Acted) (next : ℕ) (rest : List Step)
    → IsReady scene.floor r.place (option_map_or wait_in stops None) rest
    → ((p : Progress) → stops ≡ Some p → IsAfter r next rest scene.floor p)
    → ((p : Progress) → stops ≡ Some p → IsBackIn scene.floor r.place r.job.steps p)
    → ((q : ℕ) → round_of scene.floor r.place q ≡ count_by (is_arrival q) (take (next + 1) r.job.steps))
    → (stops ≡ None → Turned r scene.floor rest onward)
    → Turned r scene.floor rest (stop_or (record { scene = scene; stops = stops }) onward)
stop-turned r scene None onward next rest ready left back rounds goes = goes refl
stop-turned r scene (Some p) onward next rest ready left back rounds goes = record {
  ready = rw ((left p refl).0) ready;
  others = others-of r.place scene.floor rest scene.floor rest (moves-none r.place scene.floor rest);
  room = rw ((left p refl).0) (λ at. omega arith);
  rounds = (left p refl).1 rounds;
  back = back p refl;
}

pub after_steps-turned : (r : Role) (steps : List Step) (next : ℕ) (s : Scene) → drop next r.job.steps ≡ steps
    → IsReady s.floor r.place None steps → HasRoom s.floor r.place (take next r.job.steps) steps
    → Turned r s.floor steps (after_steps r steps next s)
after_steps-turned r [] next s split ready room = after_last_step-turned r next s ready room
after_steps-turned r (step ∷ rest) next s split ready room =
    let m : Made = after_step r next step s in
    let onward : Acted = after_steps r rest (next + 1) m.scene in
    let after : drop (next + 1) r.job.steps ≡ rest = rest-of next r.job.steps step rest split in
    let moved : Moves r.place s.floor (step ∷ rest) m.scene.floor rest
    = after_step-moves r next step (take next r.job.steps) rest s ready room in
    let waits : IsReady m.scene.floor r.place (option_map_or wait_in m.stops None) rest
    = after_step-ready r next step rest s ready in
    let left : HasRoom m.scene.floor r.place (take (next + 1) r.job.steps) rest
    = step-room r next step rest s split ready room in
    let goes : m.stops ≡ None → Turned r m.scene.floor rest onward = λ none.
    after_steps-turned r rest (next + 1) m.scene after (rw none at waits) left in
    turned-on r s.floor (step ∷ rest) m.scene.floor rest (stop_or m onward) moved
    (stop-turned r m.scene m.stops onward next rest waits (λ p. stops-before r next step rest s m.scene.floor p after)
    (step-back r next rest s step split ready room) left.round goes)

turned-if : (r : Role) (f : PlainFloor) (steps : List Step) (b : Bool) (a c : Acted) → Turned r f steps a
    → Turned r f steps c → Turned r f steps (if b then a else c)
turned-if r f steps true a c here there = here
turned-if r f steps false a c here there = there

-- the job that gave its wait up on this floor gives back all that it holds
ended-turned : (r : Role) (f : PlainFloor) (e : Scene) (answer : FloorLeave) (steps : List Step)
    → IsReady e.floor r.place None [] → Others r.place f e.floor → ((at : ℕ) → room_at e.floor at ≡ room_at f at)
    → ((q : ℕ) → round_of e.floor r.place q ≤ count_by (is_arrival q) r.job.steps)
    → Turned r f steps (left_at (after_all_gives r e) (Ended (end_of answer)))
ended-turned r f e answer steps ready others room rounds =
    let given : Moves r.place e.floor [] (after_all_gives r e).floor []
    = after_gives-moves r (places_held e.floor r.place) e in
    record {
      ready = after_gives-ready r (places_held e.floor r.place) e ready;
      others = others-on r.place f e.floor _ others (others-of r.place e.floor [] _ [] given);
      room = λ at. omega (arith, given.room at, room at);
      rounds = λ q. omega (arith, given.arrives q, rounds q);
      back = tt;
    }

after_giving_up-turned : (r : Role) (next at round number : ℕ) (answer : FloorLeave) (s : Scene) (steps : List Step)
    → IsReady s.floor r.place (Some (wait_at at round number)) steps
    → HasRoom s.floor r.place (take next r.job.steps) steps
    → IsBack s.floor r.place r.job.steps next (wait_at at round number)
    → Turned r s.floor steps (after_giving_up r at round number answer s)
after_giving_up-turned r next at round number leave.Gone s steps ready room back =
    let f : PlainFloor = s.floor in
    let wait : JobWait = wait_at at round number in
    let e : Scene = on_leave r at round number leave.Gone s in
    let gone : e.floor ≡ with_left f r.place (Some wait) = ap (with_left f r.place) ready.waits in
    let row : own_rounds e.floor r.place ≡ row_back f.kinds (own_rounds f r.place) wait
    = ap (λ (g : PlainFloor). own_rounds g r.place) gone ∙ own-back f r.place wait ready.job in
    ended-turned r f e leave.Gone steps (leave-ready f r.place wait leave.Gone steps ready)
    (rw gone (left-others f r.place wait ready.job back.arrived))
    (λ q. ap (λ (g : PlainFloor). room_at g q) gone)
    (λ q. omega (arith, ap (λ row. get_or row q 0) row, back.rounds q, made-among r (next - 1) q))
after_giving_up-turned r next at round number (leave.Late element) s steps ready room back =
    let f : PlainFloor = s.floor in
    let e : Scene = on_leave r at round number (leave.Late element) s in
    let moved : Moves r.place f [] e.floor [] = late-moves r.place f element [] in
    ended-turned r f e (leave.Late element) steps
    (leave-ready f r.place (wait_at at round number) (leave.Late element) steps ready)
    (others-of r.place f [] e.floor [] moved) (late-room r.place f element)
    (λ q. omega (arith, moved.arrives q, room.round q, made-among r next q))

after_looking-turned : (r : Role) (next at round number : ℕ) (answer : FloorLook) (s : Scene)
    → IsReady s.floor r.place (Some (wait_at at round number)) (drop next r.job.steps)
    → HasRoom s.floor r.place (take next r.job.steps) (drop next r.job.steps)
    → IsBack s.floor r.place r.job.steps next (wait_at at round number)
    → Turned r s.floor (drop next r.job.steps) (after_looking r next at round number answer s)
after_looking-turned r next at round number Pending s ready room back = record {
  ready = ready;
  others = others-of r.place s.floor _ s.floor _ (moves-none r.place s.floor (drop next r.job.steps));
  room = λ at. omega arith;
  rounds = room.round;
  back = back;
}
after_looking-turned r next at round number (Granted element) s ready room back =
    let steps : List Step = drop next r.job.steps in
    let g : PlainFloor = after_look s.floor r.place (Granted element) in
    let e : Scene = event r s g (told.Served at round number element) in
    let moved : Moves r.place s.floor steps g steps = after_looking-moves r.place s.floor element steps in
    let still : (q : ℕ) → round_of g r.place q ≡ count_by (is_arrival q) (take next r.job.steps)
    = λ q. omega (arith, moved.arrives q, moved.later q, room.round q) in
    turned-on r s.floor steps g steps (after_steps r steps next e) moved
    (after_steps-turned r steps next e refl
    (after_looking-ready s.floor r.place (wait_at at round number) element steps ready)
    (room-after r.place s.floor steps g steps (take next r.job.steps) (take next r.job.steps) moved room still))

-- the job makes the step again at which it waited
abbrev pub is_retrying : Role → Patience → Progress → Scene → Bool
is_retrying r patience (Waiting next at round number) s =
    is_over_time r patience && retries r patience (leave_answer s.floor r.place)
is_retrying r patience (Stepping next) s = false
is_retrying r patience (Working next until) s = false
is_retrying r patience (Ended end) s = false

-- the turn of a job that doesn't
pub after_acting-turned : (r : Role) (patience : Patience) (p : Progress) (s : Scene)
    → IsReady s.floor r.place (wait_in p) (steps_left r.job.steps p) → HasRoomFor s.floor r.place r.job.steps p
    → IsInRounds s.floor r.place r.job.steps p → IsBackIn s.floor r.place r.job.steps p
    → is_retrying r patience p s ≡ false
    → Turned r s.floor (steps_left r.job.steps p) (after_acting r patience p s)
after_acting-turned r patience (Stepping next) s ready room rounds back calm =
    after_steps-turned r (drop next r.job.steps) next s refl ready room
after_acting-turned r patience (Working next until) s ready room rounds back calm =
    let steps : List Step = drop next r.job.steps in
    turned-if r s.floor steps (nat_lt r.turn until) (left_at s (Working next until)) (go_on r next s)
    (record {
      ready = ready;
      others = others-of r.place s.floor steps s.floor steps (moves-none r.place s.floor steps);
      room = λ at. omega arith;
      rounds = rounds;
      back = tt;
    })
    (after_steps-turned r steps next s refl ready room)
after_acting-turned r patience (Waiting next at round number) s ready room rounds back calm =
    by (is_over_time r patience) (retries r patience (leave_answer s.floor r.place)) calm
  where
    steps : List Step
    steps = drop next r.job.steps

    again : Acted
    again = after_retrying r next at round number s

    up : Acted
    up = after_giving_up r at round number (leave_answer s.floor r.place) s

    looks : Acted
    looks = after_looking r next at round number (look_answer s.floor r.place) s

    by : (long more : Bool) → (long && more) ≡ false
        → Turned r s.floor steps (if long then (if more then again else up) else looks)
    by true true is = absurd (cc)
    by true false is =
        after_giving_up-turned r next at round number (leave_answer s.floor r.place) s steps ready room back
    by false more is = after_looking-turned r next at round number (look_answer s.floor r.place) s ready room back
after_acting-turned r patience (Ended end) s ready room rounds back calm =
    record {
      ready = ready;
      others = others-of r.place s.floor [] s.floor [] (moves-none r.place s.floor []);
      room = λ at. omega arith;
      rounds = rounds;
      back = tt;
    }
