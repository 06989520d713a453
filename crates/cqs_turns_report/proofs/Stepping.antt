-- A job that makes its steps, one after the other.
use Rattle.std.proofs.Common.{◌≡◌, ◌≢◌, ◌⊎◌, inl, inr, ℕ, zero, suc, ◌+◌, ◌<◌, ◌≤◌, ◌==◌, List, [], ◌∷◌, ◌++◌, cond, Option, Some, None, take, drop, slice_get, get_or, length, count_by, refl, sym, ap, subst, ◌∙◌, eq-eqb, ne_eqb, arith}
use Rattle.std.specs.Option.{option_map_or}
use Rattle.std.proofs.lemmas.Bool.{cases_eq}
use Rattle.std.proofs.lemmas.List.{drop_more}
use Rattle.std.proofs.lemmas.List.Sums.{sum_by_push}
use Rattle.cqs_plan.specs.declared.plans.step.Step.{Step}
use Rattle.cqs_plan.specs.declared.plans.step.Step.TheVariants.{Take, Give, Down, Await, Arrive, Work}
use Rattle.cqs_plan.specs.declared.floors.answers.FloorDown.{FloorDown}
use Rattle.cqs_plan.specs.declared.floors.answers.FloorDown.TheVariants.{Left, Last, Already}
use Rattle.cqs_plan.specs.declared.floors.answers.FloorGive.{FloorGive}
use Rattle.cqs_plan.specs.declared.floors.answers.FloorGive.TheVariants.{Free, Sent}
use Rattle.cqs_plan.specs.declared.floors.answers.FloorTake.{FloorTake}
use Rattle.cqs_plan.specs.declared.floors.answers.FloorTake.TheVariants.{Now, Waits}
use Rattle.cqs_plan.specs.PlanSteps.{is_arrival, may_wait}
use Rattle.cqs_plan.specs.Floor.{PlainFloor, IsJob, HasRound, round_of, to_come_at, with_arrived}
use Rattle.cqs_plan.specs.declared.plans.kind.Kind.{Kind}
use Rattle.cqs_plan.specs.declared.plans.kind.Kind.TheVariants.{Semaphore, Mutex, Pool, Latch, Rounds}
use Rattle.cqs_plan.specs.FloorCalls.{take_answer, after_take, give_answer, after_give, down_answer, after_down, wait_answer, after_wait, arrive_answer, after_arrive}
use Rattle.cqs_core.specs.Parts.{IsPrefix}
use Rattle.cqs_turns_report.specs.Ready.{IsReady, HasRoom, wait_in}
use Rattle.cqs_turns_report.specs.Roles.{made_of}
use Rattle.cqs_turns_report.specs.Turns.{Role, Scene, Made, after_step, after_coming, after_taking, after_waiting, after_arriving, on_take, on_wait, on_arrive, stop_or, after_steps}
use Rattle.cqs_turns_report.proofs.Growth.{prefix-through, after_steps-grows, stop_or-grows}
use Rattle.cqs_turns_report.proofs.ArrivalMoves.{on_arrive-moves, has-place, arrived-here, arrived-else}
use Rattle.cqs_turns_report.proofs.Moved.{Moves, moves-fewer, moves-on, on_take-moves, on_give-moves, on_down-moves, on_wait-moves, waits-cons, arrivals-cons, room-after}
use Rattle.cqs_turns_report.proofs.Readied.{on_take-ready, waiting-ready, on_give-ready, on_down-ready, on_pass-ready, on_wait-ready, on_last-ready, on_arrive-ready}

-- a job that made a step is ready for the rest
pub after_step-ready : (r : Role) (next : ℕ) (step : Step) (rest : List Step) (s : Scene)
    → IsReady s.floor r.place None (step ∷ rest)
    → IsReady (after_step r next step s).scene.floor r.place
    (option_map_or wait_in (after_step r next step s).stops None) rest
after_step-ready r next (Work turns) rest s ready =
    record { job = ready.job; waits = ready.waits; holdable = ready.holdable; makeable = ready.makeable.1 }
after_step-ready r next (Take at) rest s ready = by (take_answer s.floor at r.place)
  where
    by : (answer : FloorTake)
        → IsReady (after_taking r next at answer s).scene.floor r.place
        (option_map_or wait_in (after_taking r next at answer s).stops None) rest
    by (Now element) = on_take-ready s.floor r.place at element rest ready
    by (Waits number) = waiting-ready s.floor r.place at number rest ready
after_step-ready r next (Give at) rest s ready
    = on_give-ready s.floor r.place at (give_answer s.floor at r.place) rest ready
after_step-ready r next (Down at) rest s ready
    = on_down-ready s.floor r.place at (down_answer s.floor at) rest ready
after_step-ready r next (Await at) rest s ready = by (wait_answer s.floor at)
  where
    by : (answer : FloorTake)
        → IsReady (after_waiting r next at answer s).scene.floor r.place
        (option_map_or wait_in (after_waiting r next at answer s).stops None) rest
    by (Now element) = on_pass-ready s.floor r.place at element rest ready
    by (Waits number) = on_wait-ready s.floor r.place at number rest ready
after_step-ready r next (Arrive at) rest s ready = by (arrive_answer s.floor at r.place)
  where
    by : (answer : FloorTake)
        → IsReady (after_arriving r next at answer s).scene.floor r.place
        (option_map_or wait_in (after_arriving r next at answer s).stops None) rest
    by (Now element) = on_last-ready s.floor r.place at element rest ready
    by (Waits number) = on_arrive-ready s.floor r.place at number rest ready

-- a step leaves no more that may wait, or arrive
fewer-waits : (at : ℕ) (step : Step) (rest : List Step)
    → count_by (may_wait at) rest ≤ count_by (may_wait at) (step ∷ rest)
fewer-waits at step rest = omega (arith, waits-cons at step rest)

fewer-arrivals : (at : ℕ) (step : Step) (rest : List Step)
    → count_by (is_arrival at) rest ≤ count_by (is_arrival at) (step ∷ rest)
fewer-arrivals at step rest = omega (arith, arrivals-cons at step rest)

step-made : (place : ℕ) (f : PlainFloor) (step : Step) (rest : List Step) → Moves place f (step ∷ rest) f rest
step-made place f step rest =
    moves-fewer place f (step ∷ rest) rest (λ at. fewer-waits at step rest) (λ at. fewer-arrivals at step rest)

-- the floor that an answered step leaves is that of its call
coming-moves : (place : ℕ) (f : PlainFloor) (steps left : List Step) (next at round : ℕ)
    (on : FloorTake → Scene → Scene) (answer : FloorTake) (s : Scene) → Moves place f steps (on answer s).floor left
    → Moves place f steps (after_coming next at round on answer s).scene.floor left
coming-moves place f steps left next at round on (Now element) s moves = moves
coming-moves place f steps left next at round on (Waits number) s moves = moves

pub after_step-moves : (r : Role) (next : ℕ) (step : Step) (made rest : List Step) (s : Scene)
    → IsReady s.floor r.place None (step ∷ rest) → HasRoom s.floor r.place made (step ∷ rest)
    → Moves r.place s.floor (step ∷ rest) (after_step r next step s).scene.floor rest
after_step-moves r next (Work turns) made rest s ready room = step-made r.place s.floor (Work turns) rest
after_step-moves r next (Take at) made rest s ready room =
    coming-moves r.place s.floor (Take at ∷ rest) rest next at 0 (on_take r at) (take_answer s.floor at r.place) s
    (on_take-moves r.place s.floor at (take_answer s.floor at r.place) made rest ready.makeable.0 room)
after_step-moves r next (Give at) made rest s ready room =
    moves-on r.place s.floor (Give at ∷ rest) s.floor rest _ rest (step-made r.place s.floor (Give at) rest)
    (on_give-moves r.place s.floor at (give_answer s.floor at r.place) rest)
after_step-moves r next (Down at) made rest s ready room =
    moves-on r.place s.floor (Down at ∷ rest) s.floor rest _ rest (step-made r.place s.floor (Down at) rest)
    (on_down-moves r.place s.floor at (down_answer s.floor at) rest ready.makeable.0)
after_step-moves r next (Await at) made rest s ready room =
    coming-moves r.place s.floor (Await at ∷ rest) rest next at 0 (on_wait r at) (wait_answer s.floor at) s
    (on_wait-moves r.place s.floor at (wait_answer s.floor at) made rest ready.makeable.0 room)
after_step-moves r next (Arrive at) made rest s ready room =
    coming-moves r.place s.floor (Arrive at ∷ rest) rest next at (round_of s.floor r.place at) (on_arrive r at)
    (arrive_answer s.floor at r.place) s
    (on_arrive-moves r.place s.floor at made rest ready.job ready.makeable.0 room)

-- the round in which the job arrives next is another only after an arrival
coming-round : (place q : ℕ) (n : ℕ) (next at round : ℕ) (on : FloorTake → Scene → Scene) (answer : FloorTake)
    (s : Scene)
    → round_of (on answer s).floor place q ≡ n
    → round_of (after_coming next at round on answer s).scene.floor place q ≡ n
coming-round place q n next at round on (Now element) s is = is
coming-round place q n next at round on (Waits number) s is = is

take-round : (f : PlainFloor) (at place q : ℕ) (answer : FloorTake)
    → round_of (after_take f at place answer) place q ≡ round_of f place q
take-round f at place q (Now element) = refl
take-round f at place q (Waits number) = refl

give-round : (f : PlainFloor) (at place q : ℕ) (answer : FloorGive)
    → round_of (after_give f at place answer) place q ≡ round_of f place q
give-round f at place q (Free element) = refl
give-round f at place q (Sent element number) = refl

down-round : (f : PlainFloor) (at place q : ℕ) (answer : FloorDown)
    → round_of (after_down f at answer) place q ≡ round_of f place q
down-round f at place q (Left n) = refl
down-round f at place q Last = refl
down-round f at place q Already = refl

wait-round : (f : PlainFloor) (at place q : ℕ) (answer : FloorTake)
    → round_of (after_wait f at place answer) place q ≡ round_of f place q
wait-round f at place q (Now element) = refl
wait-round f at place q (Waits number) = refl

arrive-round : (f : PlainFloor) (at place q : ℕ) (answer : FloorTake)
    → round_of (after_arrive f at place answer) place q ≡ round_of (with_arrived f place at) place q
arrive-round f at place q (Now element) = refl
arrive-round f at place q (Waits number) = refl

arrived-by : (f : PlainFloor) (at place q : ℕ) → IsJob f place → at < length f.kinds → (q ≡ at) ⊎ (q ≢ at)
    → round_of (with_arrived f place at) place q ≡ round_of f place q + cond (at == q) 1 0
arrived-by f at place q job there (inl same) =
    let first : cond {A = ℕ} (at == at) 1 0 ≡ 1 = ap (λ b. cond {A = ℕ} b 1 0) (eq-eqb at at refl) in
    rw same (omega (arith, arrived-here f place at job there, first))
arrived-by f at place q job there (inr other) =
    let none : cond {A = ℕ} (at == q) 1 0 ≡ 0
    = ap (λ b. cond {A = ℕ} b 1 0) (ne_eqb at q (λ same. other (sym same))) in
    omega (arith, arrived-else f place at q job other, none)

pub after_step-round : (r : Role) (next : ℕ) (step : Step) (rest : List Step) (s : Scene) (q : ℕ)
    → IsReady s.floor r.place None (step ∷ rest)
    → round_of (after_step r next step s).scene.floor r.place q
    ≡ round_of s.floor r.place q + cond (is_arrival q step) 1 0
after_step-round r next (Work turns) rest s q ready = omega arith
after_step-round r next (Take at) rest s q ready =
    coming-round r.place q _ next at 0 (on_take r at) (take_answer s.floor at r.place) s
    (omega (arith, take-round s.floor at r.place q (take_answer s.floor at r.place)))
after_step-round r next (Give at) rest s q ready =
    omega (arith, give-round s.floor at r.place q (give_answer s.floor at r.place))
after_step-round r next (Down at) rest s q ready =
    omega (arith, down-round s.floor at r.place q (down_answer s.floor at))
after_step-round r next (Await at) rest s q ready =
    coming-round r.place q _ next at 0 (on_wait r at) (wait_answer s.floor at) s
    (omega (arith, wait-round s.floor at r.place q (wait_answer s.floor at)))
after_step-round r next (Arrive at) rest s q ready =
    coming-round r.place q _ next at (round_of s.floor r.place at) (on_arrive r at) (arrive_answer s.floor at r.place) s
    (arrive-round s.floor at r.place q (arrive_answer s.floor at r.place)
    ∙ arrived-by s.floor at r.place q ready.job
    (has-place s.floor.kinds at (round_of s.floor r.place at) ready.makeable.0) (cases_eq q at))

-- the steps before one, and that one
pub made-more : (steps : List Step) (next : ℕ) (step : Step) (rest : List Step) → drop next steps ≡ step ∷ rest
    → take (next + 1) steps ≡ take next steps ++ step ∷ []
made-more [] zero step rest split = absurd (cc)
made-more [] (suc next) step rest split = absurd (cc)
made-more (x ∷ steps) zero step rest split = let same : x ≡ step = cc in rw same refl
made-more (x ∷ steps) (suc next) step rest split =
    let long : suc next + 1 ≡ suc (next + 1) = omega arith in
    ap (λ n. take n (x ∷ steps)) long ∙ ap (λ xs. x ∷ xs) (made-more steps next step rest split)

-- a job with room has room for the rest after a step
pub step-room : (r : Role) (next : ℕ) (step : Step) (rest : List Step) (s : Scene) → drop next r.job.steps ≡ step ∷ rest
    → IsReady s.floor r.place None (step ∷ rest) → HasRoom s.floor r.place (take next r.job.steps) (step ∷ rest)
    → HasRoom (after_step r next step s).scene.floor r.place (take (next + 1) r.job.steps) rest
step-room r next step rest s split ready room =
    room-after r.place s.floor (step ∷ rest) (after_step r next step s).scene.floor rest (take next r.job.steps)
    (take (next + 1) r.job.steps)
    (after_step-moves r next step (take next r.job.steps) rest s ready room) room
    (λ q. after_step-round r next step rest s q ready
    ∙ ap (λ n. n + cond (is_arrival q step) 1 0) (room.round q)
    ∙ sym (sum_by_push (λ x. cond (is_arrival q x) 1 0) (take next r.job.steps) step)
    ∙ ap (count_by (is_arrival q)) (sym (made-more r.job.steps next step rest split)))

-- what is asked of one step alone
pub ready-first : (f : PlainFloor) (place : ℕ) (steps : List Step) (step : Step) (rest : List Step)
    → steps ≡ step ∷ rest
    → IsReady f place None steps → IsReady f place None (step ∷ [])
ready-first f place steps step rest split ready =
    let whole : IsReady f place None (step ∷ rest) = rw split at ready in
    record { job = whole.job; waits = whole.waits; holdable = whole.holdable; makeable = (whole.makeable.0, tt) }

pub room-first : (f : PlainFloor) (place : ℕ) (made steps : List Step) (step : Step) (rest : List Step)
    → steps ≡ step ∷ rest → HasRoom f place made steps → HasRoom f place made (step ∷ [])
room-first f place made steps step rest split room =
    let whole : HasRoom f place made (step ∷ rest) = rw split at room in
    record {
      for = λ at. omega (arith, whole.for at, waits-cons at step rest, waits-cons at step []);
      round = whole.round;
      to_come = λ at round parties rounds is low high.
          whole.to_come at round parties rounds is low
          (omega (arith, high, arrivals-cons at step rest, arrivals-cons at step []));
    }

-- at an arrival somebody is still to come in the job's round
pub to-come-here : (f : PlainFloor) (place at : ℕ) (made steps : List Step) → IsReady f place None (Arrive at ∷ steps)
    → HasRoom f place made (Arrive at ∷ steps) → 0 < to_come_at f at (round_of f place at)
to-come-here f place at made steps ready room = go (slice_get f.kinds at) refl ready.makeable.0
  where
    go : (k : Option Kind) → slice_get f.kinds at ≡ k → HasRound k (round_of f place at)
        → 0 < to_come_at f at (round_of f place at)
    go None is has = absurd has
    go (Some (Semaphore permits)) is has = absurd has
    go (Some Mutex) is has = absurd has
    go (Some (Pool elements)) is has = absurd has
    go (Some (Latch count)) is has = absurd has
    go (Some (Rounds parties rounds)) is has =
        let own : cond {A = ℕ} (at == at) 1 0 ≡ 1 = ap (λ b. cond {A = ℕ} b 1 0) (eq-eqb at at refl) in
        room.to_come at (round_of f place at) parties rounds is (omega arith)
        (omega (arith, own, arrivals-cons at (Arrive at) steps))

-- and its round is what its arrivals say
pub round-here : (f : PlainFloor) (place at : ℕ) (made steps : List Step) → HasRoom f place made steps
    → count_by (is_arrival at) made ≡ round_of f place at
round-here f place at made steps room = sym (room.round at)

-- the steps before `next` have been made since the start, and the job's turn hasn't ended
pub record SteppingOn (r : Role) (first next : ℕ) (start now : Scene) : Type 0 where
  pub whole : after_steps r (drop next r.job.steps) next now ≡ after_steps r (drop first r.job.steps) first start
  pub ready : IsReady now.floor r.place None (drop next r.job.steps)
  pub room : HasRoom now.floor r.place (take next r.job.steps) (drop next r.job.steps)

-- the step that comes next, and those after it
pub next-step : (steps : List Step) (next : ℕ) (step d : Step) → next < length steps → step ≡ get_or steps next d
    → drop next steps ≡ step ∷ drop (next + 1) steps
next-step steps next step d below is =
    drop_more steps next d below ∙ ap (λ s. s ∷ drop (next + 1) steps) (sym is)

-- what remains, seen as the next step and the rest
unrolled : (r : Role) (first next : ℕ) (start now : Scene) (step d : Step) → SteppingOn r first next start now
    → next < length r.job.steps → step ≡ get_or r.job.steps next d
    → after_steps r (drop first r.job.steps) first start
    ≡ stop_or (after_step r next step now)
    (after_steps r (drop (next + 1) r.job.steps) (next + 1) (after_step r next step now).scene)
unrolled r first next start now step d on below is =
    sym on.whole ∙ ap (λ steps. after_steps r steps next now) (next-step r.job.steps next step d below is)

-- the job goes on after the step
pub steps-on : (r : Role) (first next : ℕ) (start now after : Scene) (step d : Step) → SteppingOn r first next start now
    → next < length r.job.steps → step ≡ get_or r.job.steps next d → made_of after None ≡ after_step r next step now
    → SteppingOn r first (next + 1) start after
steps-on r first next start now after step d on below is same =
    let rest : List Step = drop (next + 1) r.job.steps in
    let ready : IsReady now.floor r.place None (step ∷ rest)
    = rw (next-step r.job.steps next step d below is) at on.ready in
    let split : drop next r.job.steps ≡ step ∷ rest = next-step r.job.steps next step d below is in
    let room : HasRoom now.floor r.place (take next r.job.steps) (step ∷ rest) = rw split at on.room in
    let Whole : Made → Type 0 = λ m.
    after_steps r (drop first r.job.steps) first start ≡ stop_or m (after_steps r rest (next + 1) m.scene) in
    let Stays : Made → Type 0 = λ m. IsReady m.scene.floor r.place (option_map_or wait_in m.stops None) rest in
    let Leaves : Made → Type 0 = λ m. HasRoom m.scene.floor r.place (take (next + 1) r.job.steps) rest in
    record {
      whole = sym (subst Whole (sym same) (unrolled r first next start now step d on below is));
      ready = subst Stays (sym same) (after_step-ready r next step rest now ready);
      room = subst Leaves (sym same) (step-room r next step rest now split ready room);
    }

-- a part of the step's report is a prefix of the whole
pub stepping-prefix : (r : Role) (first next : ℕ) (start now : Scene) (step d : Step) (text : List ℕ)
    → SteppingOn r first next start now → next < length r.job.steps → step ≡ get_or r.job.steps next d
    → IsPrefix text (after_step r next step now).scene.text
    → IsPrefix text (after_steps r (drop first r.job.steps) first start).scene.text
stepping-prefix r first next start now step d text on below is prefix =
    let m : Made = after_step r next step now in
    let rest : List Step = drop (next + 1) r.job.steps in
    rw (unrolled r first next start now step d on below is)
    (prefix-through _ m.scene.text text
    (stop_or-grows m (after_steps r rest (next + 1) m.scene) (after_steps-grows r rest (next + 1) m.scene)) prefix)
