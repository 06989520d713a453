-- What a job's call of the floor changes, what it leaves to the other jobs, and how far it uses up the room.
use Rattle.std.proofs.Common.{◌≡◌, ◌≢◌, ◌⊎◌, inl, inr, ℕ, ◌+◌, ◌-◌, ◌<◌, ◌≤◌, Bool, true, false, List, [], ◌∷◌, ◌++◌, cond, Option, Some, None, length, set, get_or, slice_get, count_by, refl, sym, ap, subst, ◌∙◌, eq-eqb, arith}
use Rattle.std.specs.Bool.{if◌then◌else◌}
use Rattle.std.proofs.lemmas.Bool.{cases_eq, cases_lt}
use Rattle.std.proofs.lemmas.List.Sums.{sum_by-cons}
use Rattle.std.proofs.lemmas.List.{get_or-set_same, get_or-set_other, get_or_past, length-set}
use Rattle.cqs_core.specs.Keyed.{without}
use Rattle.cqs_plan.specs.declared.plans.step.Step.{Step}
use Rattle.cqs_plan.specs.declared.plans.step.Step.TheVariants.{Take, Await, Arrive}
use Rattle.cqs_plan.specs.declared.plans.kind.Kind.TheVariants.{Rounds}
use Rattle.cqs_plan.specs.declared.floors.answers.FloorTake.{FloorTake}
use Rattle.cqs_plan.specs.declared.floors.answers.FloorTake.TheVariants.{Now, Waits}
use Rattle.cqs_plan.specs.declared.floors.answers.FloorGive.{FloorGive}
use Rattle.cqs_plan.specs.declared.floors.answers.FloorGive.TheVariants.{Free, Sent}
use Rattle.cqs_plan.specs.declared.floors.answers.FloorDown.{FloorDown}
use Rattle.cqs_plan.specs.declared.floors.answers.FloorDown.TheVariants.{Left, Last, Already}
use Rattle.cqs_plan.specs.declared.floors.answers.FloorLook.TheVariants.{Granted}
use Rattle.cqs_plan.specs.declared.floors.answers.FloorLeave.TheVariants.{Late}
use Rattle.cqs_plan.specs.PlanSteps.{is_arrival, may_wait}
use Rattle.cqs_plan.specs.Floor.{PlainFloor, JobWait, Holding, IsHoldable, IsLatch, wait_of, holds_of, own_rounds, round_of, room_at, to_come_at, is_holdable, with_done_in, with_less_room, with_wait, with_newest, with_came, without_oldest}
use Rattle.cqs_plan.specs.FloorHistory.{Deed, takes, joins, frees, sends, gets, is_late, passes, counts, opens, is_open}
use Rattle.cqs_plan.specs.FloorCalls.{after_take, after_give, after_look, after_leave, after_down, after_wait, with_granted}
use Rattle.cqs_turns_report.specs.Ready.{HasRoom}
use Rattle.cqs_turns_report.specs.Running.{HasParties}
use Rattle.cqs_turns_report.proofs.ToCome.{IsNoBarrier, KeepsBarriers, keeps-barriers, keeps-elsewhere, keeps-takes, keeps-frees, keeps-sends, keeps-gets, keeps-late, rounds-done}

-- The job at `place`, which had `steps` to make on the floor f, has `left` to make on the floor g. The other jobs wait,
-- hold and arrive as before, and the room falls no more than the steps that may wait. To the rounds of barriers to
-- which the job still comes as many are to come, or more.
pub record Moves (place : ℕ) (f : PlainFloor) (steps : List Step) (g : PlainFloor) (left : List Step) : Type 0 where
  pub kinds : g.kinds ≡ f.kinds
  pub all_waits : length g.waits ≡ length f.waits
  pub all_holds : length g.holds ≡ length f.holds
  pub all_rounds : length g.rounds ≡ length f.rounds
  pub waits : (j : ℕ) → j ≢ place → wait_of g j ≡ wait_of f j
  pub holds : (j : ℕ) → j ≢ place → holds_of g j ≡ holds_of f j
  pub rounds : (j : ℕ) → j ≢ place → own_rounds g j ≡ own_rounds f j
  pub room : (at : ℕ) → room_at f at + count_by (may_wait at) left ≤ room_at g at + count_by (may_wait at) steps
  pub later : (at : ℕ) → round_of f place at ≤ round_of g place at
  pub arrives : (at : ℕ)
      → round_of g place at + count_by (is_arrival at) left ≤ round_of f place at + count_by (is_arrival at) steps
  pub to_come : (at round parties rounds : ℕ) → slice_get f.kinds at ≡ Some (Rounds parties rounds)
      → round_of g place at ≤ round → to_come_at f at round ≤ to_come_at g at round
  pub parties : HasParties f → HasParties g

-- what one job does leaves to the others their waits, what they hold and their rounds
pub record Others (place : ℕ) (f g : PlainFloor) : Type 0 where
  pub kinds : g.kinds ≡ f.kinds
  pub all_waits : length g.waits ≡ length f.waits
  pub all_holds : length g.holds ≡ length f.holds
  pub all_rounds : length g.rounds ≡ length f.rounds
  pub waits : (j : ℕ) → j ≢ place → wait_of g j ≡ wait_of f j
  pub holds : (j : ℕ) → j ≢ place → holds_of g j ≡ holds_of f j
  pub rounds : (j : ℕ) → j ≢ place → own_rounds g j ≡ own_rounds f j
  pub parties : HasParties f → HasParties g

pub others-of : (place : ℕ) (f : PlainFloor) (steps : List Step) (g : PlainFloor) (left : List Step)
    → Moves place f steps g left → Others place f g
others-of place f steps g left moves = record {
  kinds = moves.kinds;
  all_waits = moves.all_waits;
  all_holds = moves.all_holds;
  all_rounds = moves.all_rounds;
  waits = moves.waits;
  holds = moves.holds;
  rounds = moves.rounds;
  parties = moves.parties;
}

pub others-on : (place : ℕ) (f g h : PlainFloor) → Others place f g → Others place g h → Others place f h
others-on place f g h first second = record {
  kinds = second.kinds ∙ first.kinds;
  all_waits = second.all_waits ∙ first.all_waits;
  all_holds = second.all_holds ∙ first.all_holds;
  all_rounds = second.all_rounds ∙ first.all_rounds;
  waits = λ j other. second.waits j other ∙ first.waits j other;
  holds = λ j other. second.holds j other ∙ first.holds j other;
  rounds = λ j other. second.rounds j other ∙ first.rounds j other;
  parties = λ all. second.parties (first.parties all);
}

-- steps that aren't made
pub moves-fewer : (place : ℕ) (f : PlainFloor) (steps left : List Step)
    → ((at : ℕ) → count_by (may_wait at) left ≤ count_by (may_wait at) steps)
    → ((at : ℕ) → count_by (is_arrival at) left ≤ count_by (is_arrival at) steps) → Moves place f steps f left
moves-fewer place f steps left fewer fewer_arrivals = record {
  kinds = refl;
  all_waits = refl;
  all_holds = refl;
  all_rounds = refl;
  waits = λ j other. refl;
  holds = λ j other. refl;
  rounds = λ j other. refl;
  room = λ at. omega (arith, fewer at);
  later = λ at. omega arith;
  arrives = λ at. omega (arith, fewer_arrivals at);
  to_come = λ at round parties rounds is low. omega arith;
  parties = λ all. all;
}

pub moves-none : (place : ℕ) (f : PlainFloor) (steps : List Step) → Moves place f steps f steps
moves-none place f steps = moves-fewer place f steps steps (λ at. omega arith) (λ at. omega arith)

pub moves-on : (place : ℕ) (f : PlainFloor) (steps : List Step) (g : PlainFloor) (left : List Step) (h : PlainFloor)
    (last : List Step) → Moves place f steps g left → Moves place g left h last → Moves place f steps h last
moves-on place f steps g left h last first second = record {
  kinds = second.kinds ∙ first.kinds;
  all_waits = second.all_waits ∙ first.all_waits;
  all_holds = second.all_holds ∙ first.all_holds;
  all_rounds = second.all_rounds ∙ first.all_rounds;
  waits = λ j other. second.waits j other ∙ first.waits j other;
  holds = λ j other. second.holds j other ∙ first.holds j other;
  rounds = λ j other. second.rounds j other ∙ first.rounds j other;
  room = λ at. omega (arith, first.room at, second.room at);
  later = λ at. omega (arith, first.later at, second.later at);
  arrives = λ at. omega (arith, first.arrives at, second.arrives at);
  to_come = λ at round parties rounds is low.
      let still : slice_get g.kinds at ≡ Some (Rounds parties rounds) = rw first.kinds is in
      let low_before : round_of g place at ≤ round = omega (arith, low, second.later at) in
      omega (
        arith,
        first.to_come at round parties rounds is low_before,
        second.to_come at round parties rounds still low,
      );
  parties = λ all. second.parties (first.parties all);
}

pub moves-wait : (place : ℕ) (f : PlainFloor) (w : Option JobWait) (steps : List Step)
    → Moves place f steps (with_wait f place w) steps
moves-wait place f w steps = record {
  kinds = refl;
  all_waits = length-set f.waits place w;
  all_holds = refl;
  all_rounds = refl;
  waits = λ j other. get_or-set_other f.waits place j w None other;
  holds = λ j other. refl;
  rounds = λ j other. refl;
  room = λ at. omega arith;
  later = λ at. omega arith;
  arrives = λ at. omega arith;
  to_come = λ at round parties rounds is low. omega arith;
  parties = λ all. record { there = all.there; all = all.all };
}

moves-holds : (place : ℕ) (f : PlainFloor) (hs : List Holding) (steps : List Step)
    → Moves place f steps (record f { holds = set f.holds place hs }) steps
moves-holds place f hs steps = record {
  kinds = refl;
  all_waits = refl;
  all_holds = length-set f.holds place hs;
  all_rounds = refl;
  waits = λ j other. refl;
  holds = λ j other. get_or-set_other f.holds place j hs [] other;
  rounds = λ j other. refl;
  room = λ at. omega arith;
  later = λ at. omega arith;
  arrives = λ at. omega arith;
  to_come = λ at round parties rounds is low. omega arith;
  parties = λ all. record { there = all.there; all = all.all };
}

pub waits-cons : (at : ℕ) (step : Step) (steps : List Step)
    → count_by (may_wait at) (step ∷ steps) ≡ cond (may_wait at step) 1 0 + count_by (may_wait at) steps
waits-cons at step steps = sum_by-cons (λ s. cond (may_wait at s) 1 0) step steps

pub arrivals-cons : (at : ℕ) (step : Step) (steps : List Step)
    → count_by (is_arrival at) (step ∷ steps) ≡ cond (is_arrival at step) 1 0 + count_by (is_arrival at) steps
arrivals-cons at step steps = sum_by-cons (λ s. cond (is_arrival at s) 1 0) step steps

-- the step may have to wait at the place
abbrev pub MayWait : ℕ → Step → Type 0
MayWait at step = may_wait at step ≡ true

waits-here : (at : ℕ) (step : Step) (steps : List Step) → MayWait at step
    → count_by (may_wait at) (step ∷ steps) ≡ 1 + count_by (may_wait at) steps
waits-here at step steps may =
    waits-cons at step steps ∙ ap (λ b. cond b 1 0 + count_by (may_wait at) steps) may

pub may-take : (at : ℕ) → MayWait at (Take at)
may-take at = eq-eqb at at refl

pub may-await : (at : ℕ) → MayWait at (Await at)
may-await at = eq-eqb at at refl

pub may-arrive : (at : ℕ) → MayWait at (Arrive at)
may-arrive at = eq-eqb at at refl

-- where there is room for a step that may wait, there is room
pub room-some : (f : PlainFloor) (place at : ℕ) (step : Step) (made steps : List Step) → MayWait at step
    → HasRoom f place made (step ∷ steps) → 0 < room_at f at
room-some f place at step made steps may room = omega (arith, room.for at, waits-here at step steps may)

-- where there is room, there is a resource
resource-there : (room : List ℕ) (at : ℕ) → 0 < get_or room at 0 → at < length room
resource-there room at some = go (cases_lt at (length room))
  where
    go : (at < length room) ⊎ (length room ≤ at) → at < length room
    go (inl below) = below
    go (inr past) = absurd (omega (arith, get_or_past room at 0 past))

-- the step, which may wait at the place, is no one's elsewhere
abbrev pub WaitsOnlyAt : ℕ → Step → Type 0
WaitsOnlyAt at step = (q : ℕ) → q ≢ at → may_wait q step ≡ false

-- a step that may wait lowers the room of its resource by one
pub room-falls : (f : PlainFloor) (at : ℕ) (step : Step) (steps : List Step) → 0 < room_at f at
    → MayWait at step → (q : ℕ)
    → room_at f q + count_by (may_wait q) steps
    ≤ room_at (with_less_room f at) q + count_by (may_wait q) (step ∷ steps)
room-falls f at step steps some may q = go (cases_eq q at)
  where
    go : (q ≡ at) ⊎ (q ≢ at)
        → room_at f q + count_by (may_wait q) steps
        ≤ room_at (with_less_room f at) q + count_by (may_wait q) (step ∷ steps)
    go (inl same) =
        let there : at < length f.room = resource-there f.room at some in
        let counted : count_by (may_wait at) (step ∷ steps) ≡ 1 + count_by (may_wait at) steps
        = waits-here at step steps may in
        let less : room_at (with_less_room f at) at ≡ room_at f at - 1
        = get_or-set_same f.room at (room_at f at - 1) 0 there in
        let enough : ℕ → Type 0 = λ n. room_at f n + count_by (may_wait n) steps
        ≤ room_at (with_less_room f at) n + count_by (may_wait n) (step ∷ steps) in
        subst enough (sym same) (omega (arith, counted, less))
    go (inr other) =
        let kept : room_at (with_less_room f at) q ≡ room_at f q
        = get_or-set_other f.room at q (room_at f at - 1) 0 other in
        omega (arith, waits-cons q step steps, kept)

pub moves-room : (place : ℕ) (f : PlainFloor) (at : ℕ) (step : Step) (steps : List Step) → 0 < room_at f at
    → MayWait at step → Moves place f (step ∷ steps) (with_less_room f at) steps
moves-room place f at step steps some may = record {
  kinds = refl;
  all_waits = refl;
  all_holds = refl;
  all_rounds = refl;
  waits = λ j other. refl;
  holds = λ j other. refl;
  rounds = λ j other. refl;
  room = room-falls f at step steps some may;
  later = λ q. omega arith;
  arrives = λ q. omega (arith, arrivals-cons q step steps);
  to_come = λ q round parties rounds is low. omega arith;
  parties = λ all. record { there = all.there; all = all.all };
}

moves-done : (place : ℕ) (f : PlainFloor) (at round : ℕ) (deed : Deed) (steps : List Step)
    → KeepsBarriers f at round deed → Moves place f steps (with_done_in f at round deed) steps
moves-done place f at round deed steps keeps = record {
  kinds = refl;
  all_waits = refl;
  all_holds = refl;
  all_rounds = refl;
  waits = λ j other. refl;
  holds = λ j other. refl;
  rounds = λ j other. refl;
  room = λ q. omega arith;
  later = λ q. omega arith;
  arrives = λ q. omega arith;
  to_come = λ q r parties rounds is low. keeps q r parties rounds is;
  parties = λ all. record {
    there = λ q parties rounds is. rounds-done f at round deed q rounds (all.there q parties rounds is);
    all = λ q r parties rounds is. omega (arith, all.all q r parties rounds is, keeps q r parties rounds is);
  };
}

-- what can be held, and a latch, is no barrier
pub held-elsewhere : (f : PlainFloor) (at : ℕ) → IsHoldable (slice_get f.kinds at) → IsNoBarrier f at
held-elsewhere f at holdable parties rounds is = rw is at holdable

pub latch-elsewhere : (f : PlainFloor) (at : ℕ) → IsLatch (slice_get f.kinds at) → IsNoBarrier f at
latch-elsewhere f at latch parties rounds is = rw is at latch

pub on_take-moves : (place : ℕ) (f : PlainFloor) (at : ℕ) (answer : FloorTake) (made steps : List Step)
    → IsHoldable (slice_get f.kinds at)
    → HasRoom f place made (Take at ∷ steps) → Moves place f (Take at ∷ steps) (after_take f at place answer) steps
on_take-moves place f at (Now element) made steps holdable room =
    let less : PlainFloor = with_less_room f at in
    let told : PlainFloor = with_done_in less at 0 (takes element) in
    moves-on place f (Take at ∷ steps) less steps _ steps
    (moves-room place f at (Take at) steps (room-some f place at (Take at) made steps (may-take at) room) (may-take at))
    (moves-on place less steps told steps _ steps
    (moves-done place less at 0 (takes element) steps
    (keeps-barriers less at 0 (takes element) (keeps-takes element)))
    (moves-holds place told (holds_of told place ++ record { at = at; element = element } ∷ []) steps))
on_take-moves place f at (Waits number) made steps holdable room =
    let less : PlainFloor = with_less_room f at in
    let told : PlainFloor = with_done_in less at 0 (joins number) in
    moves-on place f (Take at ∷ steps) less steps _ steps
    (moves-room place f at (Take at) steps (room-some f place at (Take at) made steps (may-take at) room) (may-take at))
    (moves-on place less steps told steps _ steps
    (moves-done place less at 0 (joins number) steps
    (keeps-elsewhere less at 0 (joins number) (held-elsewhere less at holdable)))
    (moves-wait place told (Some (record { at = at; round = 0; number = number })) steps))

-- a wait at a latch
pub on_wait-moves : (place : ℕ) (f : PlainFloor) (at : ℕ) (answer : FloorTake) (made steps : List Step)
    → IsLatch (slice_get f.kinds at)
    → HasRoom f place made (Await at ∷ steps) → Moves place f (Await at ∷ steps) (after_wait f at place answer) steps
on_wait-moves place f at (Now element) made steps latch room =
    let less : PlainFloor = with_less_room f at in
    moves-on place f (Await at ∷ steps) less steps _ steps
    (moves-room place f at (Await at) steps (room-some f place at (Await at) made steps (may-await at) room)
    (may-await at))
    (moves-done place less at 0 passes steps (keeps-elsewhere less at 0 passes (latch-elsewhere less at latch)))
on_wait-moves place f at (Waits number) made steps latch room =
    let less : PlainFloor = with_less_room f at in
    let told : PlainFloor = with_done_in less at 0 (joins number) in
    moves-on place f (Await at ∷ steps) less steps _ steps
    (moves-room place f at (Await at) steps (room-some f place at (Await at) made steps (may-await at) room)
    (may-await at))
    (moves-on place less steps told steps _ steps
    (moves-done place less at 0 (joins number) steps
    (keeps-elsewhere less at 0 (joins number) (latch-elsewhere less at latch)))
    (moves-wait place told (Some (record { at = at; round = 0; number = number })) steps))

-- a count down
pub on_down-moves : (place : ℕ) (f : PlainFloor) (at : ℕ) (answer : FloorDown) (steps : List Step)
    → IsLatch (slice_get f.kinds at) → Moves place f steps (after_down f at answer) steps
on_down-moves place f at (Left n) steps latch =
    moves-done place f at 0 (counts n) steps (keeps-elsewhere f at 0 (counts n) (latch-elsewhere f at latch))
on_down-moves place f at Last steps latch =
    moves-done place f at 0 opens steps (keeps-elsewhere f at 0 opens (latch-elsewhere f at latch))
on_down-moves place f at Already steps latch =
    moves-done place f at 0 is_open steps (keeps-elsewhere f at 0 is_open (latch-elsewhere f at latch))

on_give-by : (place : ℕ) (f : PlainFloor) (at : ℕ) (deed : Deed) (steps : List Step) → KeepsBarriers f at 0 deed
    → Moves place f steps (without_oldest (with_done_in f at 0 deed) place at) steps
on_give-by place f at deed steps keeps =
    let told : PlainFloor = with_done_in f at 0 deed in
    moves-on place f steps told steps _ steps (moves-done place f at 0 deed steps keeps)
    (moves-holds place told (without (λ h. h.at) at (holds_of told place)) steps)

pub on_give-moves : (place : ℕ) (f : PlainFloor) (at : ℕ) (answer : FloorGive) (steps : List Step)
    → Moves place f steps (after_give f at place answer) steps
on_give-moves place f at (Free element) steps =
    on_give-by place f at (frees element) steps (keeps-barriers f at 0 (frees element) (keeps-frees element))
on_give-moves place f at (Sent element number) steps =
    on_give-by place f at (sends element number) steps
    (keeps-barriers f at 0 (sends element number) (keeps-sends element number))

-- what came is held, where it can be
came-moves : (place : ℕ) (f : PlainFloor) (at element : ℕ) (steps : List Step)
    → Moves place f steps (with_came f place at element) steps
came-moves place f at element steps = go (is_holdable f at)
  where
    go : (b : Bool) → Moves place f steps (if b then with_newest f place at element else f) steps
    go true = moves-holds place f (holds_of f place ++ record { at = at; element = element } ∷ []) steps
    go false = moves-none place f steps

granted-moves : (place : ℕ) (f : PlainFloor) (deed : ℕ → ℕ → Deed) (wait : Option JobWait) (element : ℕ)
    (steps : List Step)
    → ((w : JobWait) → KeepsBarriers f w.at w.round (deed w.number element))
    → Moves place f steps (with_granted f place deed wait element) steps
granted-moves place f deed None element steps keeps = moves-none place f steps
granted-moves place f deed (Some wait) element steps keeps =
    let told : PlainFloor = with_done_in f wait.at wait.round (deed wait.number element) in
    let over : PlainFloor = with_wait told place None in
    moves-on place f steps told steps _ steps
    (moves-done place f wait.at wait.round (deed wait.number element) steps (keeps wait))
    (moves-on place told steps over steps _ steps (moves-wait place told None steps)
    (came-moves place over wait.at element steps))

pub after_looking-moves : (place : ℕ) (f : PlainFloor) (element : ℕ) (steps : List Step)
    → Moves place f steps (after_look f place (Granted element)) steps
after_looking-moves place f element steps =
    granted-moves place f gets (wait_of f place) element steps
    (λ w. keeps-barriers f w.at w.round (gets w.number element) (keeps-gets w.number element))

pub late-moves : (place : ℕ) (f : PlainFloor) (element : ℕ) (steps : List Step)
    → Moves place f steps (after_leave f place (Late element)) steps
late-moves place f element steps =
    granted-moves place f is_late (wait_of f place) element steps
    (λ w. keeps-barriers f w.at w.round (is_late w.number element) (keeps-late w.number element))

-- and leaves the room as it was
pub late-room : (place : ℕ) (f : PlainFloor) (element at : ℕ)
    → room_at (after_leave f place (Late element)) at ≡ room_at f at
late-room place f element at = go (wait_of f place)
  where
    came : (g : PlainFloor) (q : ℕ) (b : Bool)
        → room_at (if b then with_newest g place q element else g) at ≡ room_at g at
    came g q true = refl
    came g q false = refl

    go : (wait : Option JobWait) → room_at (with_granted f place is_late wait element) at ≡ room_at f at
    go None = refl
    go (Some wait) =
        let over : PlainFloor
        = with_wait (with_done_in f wait.at wait.round (is_late wait.number element)) place None in
        came over wait.at (is_holdable over wait.at)

-- a floor with room has room for what is left, where the job is in the rounds that what it has made then says
pub room-after : (place : ℕ) (f : PlainFloor) (steps : List Step) (g : PlainFloor) (left made then_made : List Step)
    → Moves place f steps g left → HasRoom f place made steps
    → ((at : ℕ) → round_of g place at ≡ count_by (is_arrival at) then_made) → HasRoom g place then_made left
room-after place f steps g left made then_made moves room rounds = record {
  for = λ at. omega (arith, moves.room at, room.for at);
  round = rounds;
  to_come = λ at round parties rs is low high.
      let was : slice_get f.kinds at ≡ Some (Rounds parties rs) = rw moves.kinds at is in
      omega (
        arith,
        moves.to_come at round parties rs was low,
        room.to_come at round parties rs was (omega (arith, low, moves.later at))
            (omega (arith, high, moves.arrives at)),
      );
}

-- also after a look at a wait that was served
pub look-room : (place : ℕ) (f : PlainFloor) (element : ℕ) (made steps : List Step) → HasRoom f place made steps
    → HasRoom (after_look f place (Granted element)) place made steps
look-room place f element made steps room =
    let g : PlainFloor = after_look f place (Granted element) in
    let moved : Moves place f steps g steps = after_looking-moves place f element steps in
    room-after place f steps g steps made made moved room
    (λ q. omega (arith, moved.arrives q, moved.later q, room.round q))
