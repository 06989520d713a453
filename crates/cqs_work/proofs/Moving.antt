-- What a call changes for its job alone, and what it leaves of what the jobs need.
use Rattle.std.proofs.Common.{◌≡◌, ◌≢◌, ◌⊎◌, inl, inr, ℕ, ◌+◌, ◌-◌, ◌<◌, ◌≤◌, Bool, true, false, cond, List, [], ◌∷◌, ◌++◌, Option, Some, None, length, set, get_or, slice_get, count_by, refl, sym, ap, subst, ◌∙◌, lt-ltb, le-ltb, arith}
use Rattle.std.specs.Bool.{if◌then◌else◌}
use Rattle.std.proofs.lemmas.Bool.{cases_eq, cases_lt}
use Rattle.std.proofs.lemmas.List.{get_or-set_other, length-set}
use Rattle.cqs_core.specs.Keyed.{without}
use Rattle.cqs_plan.specs.declared.plans.step.Step.{Step}
use Rattle.cqs_plan.specs.declared.plans.step.Step.TheVariants.{Take, Await, Arrive}
use Rattle.cqs_plan.specs.declared.floors.answers.FloorTake.{FloorTake}
use Rattle.cqs_plan.specs.declared.floors.answers.FloorTake.TheVariants.{Now, Waits}
use Rattle.cqs_plan.specs.declared.floors.answers.FloorLook.TheVariants.{Granted}
use Rattle.cqs_plan.specs.declared.floors.answers.FloorLeave.TheVariants.{Gone, Late}
use Rattle.cqs_plan.specs.PlanSteps.{is_arrival}
use Rattle.cqs_plan.specs.Floor.{PlainFloor, JobWait, Holding, IsJob, HasRound, wait_of, holds_of, own_rounds, round_of, room_at, is_barrier_in, is_holdable, with_done_in, with_less_room, with_wait}
use Rattle.cqs_plan.specs.FloorHistory.{Deed, gets, is_late}
use Rattle.cqs_plan.specs.FloorCalls.{after_take, after_look, after_leave, after_wait, after_arrive, with_granted, with_left}
use Rattle.cqs_turns_report.proofs.ArrivalMoves.{arrived-here, arrived-else, has-place}
use Rattle.cqs_turns_report.proofs.Moved.{MayWait, may-take, may-await, may-arrive, moves-room, arrivals-cons, waits-cons}
use Rattle.cqs_floor_shared.specs.Shared.{parties_in, with_parties}
use Rattle.cqs_floor_shared.specs.Calls.{board_given}
use Rattle.cqs_work.specs.Needs.{IsPartyPlace, waits_in, parties_for, comes_to}
use Rattle.cqs_work.specs.Doing.{AreSameBut, Moves}
use Rattle.cqs_work.proofs.Parties.{comes-fewer, comes-here, comes-elsewhere, parties-here, parties-elsewhere, place-stays}

pub but-same : {X : Type 0} (place : ℕ) (d : X) (xs : List X) → AreSameBut place d xs xs
but-same place d xs = record { long = refl; at = λ j other. refl }

pub but-set : {X : Type 0} (place : ℕ) (d : X) (xs : List X) (x : X) → AreSameBut place d xs (set xs place x)
but-set place d xs x = record {
  long = length-set xs place x;
  at = λ j other. get_or-set_other xs place j x d other;
}

pub but-then : {X : Type 0} (place : ℕ) (d : X) (xs ys zs : List X) → AreSameBut place d xs ys
    → AreSameBut place d ys zs → AreSameBut place d xs zs
but-then place d xs ys zs first second = record {
  long = second.long ∙ first.long;
  at = λ j other. second.at j other ∙ first.at j other;
}

pub moves-fewer : (place : ℕ) (b : PlainFloor) (parties : List (List ℕ)) (steps left : List Step)
    → ((at : ℕ) → waits_in at left ≤ waits_in at steps)
    → ((at : ℕ) → count_by (is_arrival at) left ≤ count_by (is_arrival at) steps)
    → Moves place b parties steps b parties left
moves-fewer place b parties steps left fewer fewer_arrivals = record {
  kinds = refl;
  waits = but-same place None b.waits;
  holds = but-same place [] b.holds;
  rounds = but-same place [] b.rounds;
  room = λ at. omega (arith, fewer at);
  comes = λ at round.
      omega (
        arith,
        comes-fewer round (round_of b place at) (count_by (is_arrival at) left) (count_by (is_arrival at) steps)
            (fewer_arrivals at),
      );
  rows = λ at round there. there;
}

pub moves-none : (place : ℕ) (b : PlainFloor) (parties : List (List ℕ)) (steps : List Step)
    → Moves place b parties steps b parties steps
moves-none place b parties steps =
    moves-fewer place b parties steps steps (λ at. omega arith) (λ at. omega arith)

-- no step is made any more
pub moves-end : (place : ℕ) (b : PlainFloor) (parties : List (List ℕ)) (steps : List Step)
    → Moves place b parties steps b parties []
moves-end place b parties steps =
    moves-fewer place b parties steps [] (λ at. omega arith) (λ at. omega arith)

-- one step less, which needs nothing
pub moves-past : (place : ℕ) (b : PlainFloor) (parties : List (List ℕ)) (step : Step) (rest : List Step)
    → Moves place b parties (step ∷ rest) b parties rest
moves-past place b parties step rest =
    moves-fewer place b parties (step ∷ rest) rest (λ at. omega (arith, waits-cons at step rest))
    (λ at. omega (arith, arrivals-cons at step rest))

pub moves-on : (place : ℕ) (b : PlainFloor) (p : List (List ℕ)) (steps : List Step) (c : PlainFloor)
    (q : List (List ℕ)) (left : List Step) (d : PlainFloor) (r : List (List ℕ)) (last : List Step)
    → Moves place b p steps c q left → Moves place c q left d r last → Moves place b p steps d r last
moves-on place b p steps c q left d r last first second = record {
  kinds = second.kinds ∙ first.kinds;
  waits = but-then place None b.waits c.waits d.waits first.waits second.waits;
  holds = but-then place [] b.holds c.holds d.holds first.holds second.holds;
  rounds = but-then place [] b.rounds c.rounds d.rounds first.rounds second.rounds;
  room = λ at. omega (arith, first.room at, second.room at);
  comes = λ at round. omega (arith, first.comes at round, second.comes at round);
  rows = λ at round there. second.rows at round (first.rows at round there);
}

-- where the job's rounds stay
moves-kept : (place : ℕ) (b : PlainFloor) (p : List (List ℕ)) (steps : List Step) (c : PlainFloor) (q : List (List ℕ))
    (left : List Step) → c.kinds ≡ b.kinds → AreSameBut place None b.waits c.waits → AreSameBut place [] b.holds c.holds
    → c.rounds ≡ b.rounds → ((at : ℕ) → room_at b at + waits_in at left ≤ room_at c at + waits_in at steps)
    → ((at round : ℕ) → parties_in p at round ≤ parties_in q at round)
    → ((at round : ℕ) → IsPartyPlace p at round → IsPartyPlace q at round)
    → ((at : ℕ) → count_by (is_arrival at) left ≤ count_by (is_arrival at) steps)
    → Moves place b p steps c q left
moves-kept place b p steps c q left kinds waits holds same room parties rows fewer = record {
  kinds = kinds;
  waits = waits;
  holds = holds;
  rounds = subst (AreSameBut place [] b.rounds) (sym same) (but-same place [] b.rounds);
  room = room;
  comes = λ at round.
      let first : round_of c place at ≡ round_of b place at = ap (λ rs. get_or (get_or rs place []) at 0) same in
      let moved : parties_for at round (round_of c place at) left ≡ parties_for at round (round_of b place at) left
      = ap (λ n. parties_for at round n left) first in
      let less = comes-fewer round (round_of b place at) (count_by (is_arrival at) left)
      (count_by (is_arrival at) steps) (fewer at) in
      omega (arith, moved, less, parties at round);
  rows = rows;
}

-- a step that may wait and was answered: its room is used up
module _ (place at : ℕ) (b : PlainFloor) (p : List (List ℕ)) (step : Step) (rest : List Step) (may : MayWait at step)
    (some : 0 < room_at b at) where
  room-less : (q : ℕ) → room_at b q + waits_in q rest ≤ room_at (with_less_room b at) q + waits_in q (step ∷ rest)
  room-less q = (moves-room place b at step rest some may).room q

  fewer-arrivals : (q : ℕ) → count_by (is_arrival q) rest ≤ count_by (is_arrival q) (step ∷ rest)
  fewer-arrivals q = omega (arith, arrivals-cons q step rest)

  -- the job was turned away
  pub moves-turned : Moves place b p (step ∷ rest) (with_less_room b at) p []
  moves-turned =
      moves-kept place b p (step ∷ rest) (with_less_room b at) p [] refl (but-same place None b.waits)
      (but-same place [] b.holds) refl (λ q. omega (arith, room-less q)) (λ q r. omega arith)
      (λ q r there. there) (λ q. omega arith)

pub moves-taken : (place at : ℕ) (b : PlainFloor) (p : List (List ℕ)) (answer : FloorTake) (rest : List Step)
    → 0 < room_at b at → Moves place b p (Take at ∷ rest) (after_take b at place answer) p rest
moves-taken place at b p (Now element) rest some =
    moves-kept place b p (Take at ∷ rest) (after_take b at place (Now element)) p rest refl
    (but-same place None b.waits)
    (but-set place [] b.holds (holds_of b place ++ record { at = at; element = element } ∷ [])) refl
    (room-less place at b p (Take at) rest (may-take at) some) (λ q r. omega arith) (λ q r there. there)
    (fewer-arrivals place at b p (Take at) rest (may-take at) some)
moves-taken place at b p (Waits number) rest some =
    moves-kept place b p (Take at ∷ rest) (after_take b at place (Waits number)) p rest refl
    (but-set place None b.waits (Some (record { at = at; round = 0; number = number })))
    (but-same place [] b.holds) refl (room-less place at b p (Take at) rest (may-take at) some) (λ q r. omega arith)
    (λ q r there. there)
    (fewer-arrivals place at b p (Take at) rest (may-take at) some)

pub moves-waited : (place at : ℕ) (b : PlainFloor) (p : List (List ℕ)) (answer : FloorTake) (rest : List Step)
    → 0 < room_at b at → Moves place b p (Await at ∷ rest) (after_wait b at place answer) p rest
moves-waited place at b p (Now element) rest some =
    moves-kept place b p (Await at ∷ rest) (after_wait b at place (Now element)) p rest refl
    (but-same place None b.waits)
    (but-same place [] b.holds) refl (room-less place at b p (Await at) rest (may-await at) some) (λ q r. omega arith)
    (λ q r there. there)
    (fewer-arrivals place at b p (Await at) rest (may-await at) some)
moves-waited place at b p (Waits number) rest some =
    moves-kept place b p (Await at ∷ rest) (after_wait b at place (Waits number)) p rest refl
    (but-set place None b.waits (Some (record { at = at; round = 0; number = number })))
    (but-same place [] b.holds) refl (room-less place at b p (Await at) rest (may-await at) some) (λ q r. omega arith)
    (λ q r there. there)
    (fewer-arrivals place at b p (Await at) rest (may-await at) some)

-- a give, wherever it went
pub moves-given : (place at : ℕ) (b : PlainFloor) (p : List (List ℕ)) (steps : List Step)
    → Moves place b p steps (board_given b at place) p steps
moves-given place at b p steps =
    moves-kept place b p steps (board_given b at place) p steps refl (but-same place None b.waits)
    (but-set place [] b.holds (without (λ h. h.at) at (holds_of b place))) refl (λ q. omega arith) (λ q r. omega arith)
    (λ q r there. there)
    (λ q. omega arith)

-- what was waited for came
module _ (place : ℕ) (b : PlainFloor) (p : List (List ℕ)) (deed : ℕ → ℕ → Deed) (wait : JobWait) (element : ℕ) where
  abbrev over : PlainFloor
  over = with_wait (with_done_in b wait.at wait.round (deed wait.number element)) place None

  abbrev newest : List Holding
  newest = holds_of b place ++ record { at = wait.at; element = element } ∷ []

  abbrev came : Bool → PlainFloor
  came h = if h then record over { holds = set b.holds place newest } else over

  moves-came : (steps : List Step) (h : Bool) → Moves place b p steps (came h) p steps
  moves-came steps true =
      moves-kept place b p steps (record over { holds = set b.holds place newest }) p steps refl
      (but-set place None b.waits None) (but-set place [] b.holds newest) refl (λ q. omega arith) (λ q r. omega arith)
      (λ q r there. there)
      (λ q. omega arith)
  moves-came steps false =
      moves-kept place b p steps over p steps refl (but-set place None b.waits None) (but-same place [] b.holds) refl
      (λ q. omega arith) (λ q r. omega arith) (λ q r there. there) (λ q. omega arith)

  came-rounds : (h : Bool) → (came h).rounds ≡ b.rounds
  came-rounds true = refl
  came-rounds false = refl

moves-granted : (place : ℕ) (b : PlainFloor) (p : List (List ℕ)) (deed : ℕ → ℕ → Deed) (wait : Option JobWait)
    (element : ℕ) (steps : List Step) → Moves place b p steps (with_granted b place deed wait element) p steps
moves-granted place b p deed None element steps = moves-none place b p steps
moves-granted place b p deed (Some wait) element steps =
    moves-came place b p deed wait element steps (is_holdable b wait.at)

-- and its job is in the rounds in which it was
granted-rounds : (place : ℕ) (b : PlainFloor) (deed : ℕ → ℕ → Deed) (wait : Option JobWait) (element : ℕ)
    → (with_granted b place deed wait element).rounds ≡ b.rounds
granted-rounds place b deed None element = refl
granted-rounds place b deed (Some wait) element = came-rounds place b [] deed wait element (is_holdable b wait.at)

pub looked-rounds : (place : ℕ) (b : PlainFloor) (element : ℕ) → (after_look b place (Granted element)).rounds
    ≡ b.rounds
looked-rounds place b element = granted-rounds place b gets (wait_of b place) element

pub moves-looked : (place : ℕ) (b : PlainFloor) (p : List (List ℕ)) (element : ℕ) (steps : List Step)
    → Moves place b p steps (after_look b place (Granted element)) p steps
moves-looked place b p element steps = moves-granted place b p gets (wait_of b place) element steps

-- a job with no more steps comes to no round
comes-none : (at round next : ℕ) → parties_for at round next [] ≡ 0
comes-none at round next = go (cases_lt round next)
  where
    go : (round < next) ⊎ (next ≤ round) → comes_to round next 0 ≡ 0
    go (inl below) = rw (lt-ltb round next below) refl
    go (inr past) = rw (le-ltb round next past, le-ltb round (next + 0) (omega (arith, past))) refl

-- the rounds of the others, where a job takes its arrival back
pub rounds-back : (place : ℕ) (b : PlainFloor) (wait : JobWait)
    → AreSameBut place [] b.rounds (with_left b place (Some wait)).rounds
rounds-back place b wait = back (is_barrier_in b.kinds wait.at)
  where
    row : List ℕ
    row = set (own_rounds b place) wait.at wait.round

    back : (is : Bool) → AreSameBut place [] b.rounds (if is then set b.rounds place row else b.rounds)
    back true = but-set place [] b.rounds row
    back false = but-same place [] b.rounds

-- a wait is gone, and with it an arrival, of a job that makes no more steps
moves-gone : (place : ℕ) (b : PlainFloor) (p q : List (List ℕ)) (wait : Option JobWait)
    → ((at round : ℕ) → parties_in p at round ≤ parties_in q at round)
    → ((at round : ℕ) → IsPartyPlace p at round → IsPartyPlace q at round)
    → Moves place b p [] (with_left b place wait) q []
moves-gone place b p q None more rows =
    moves-kept place b p [] b q [] refl (but-same place None b.waits) (but-same place [] b.holds) refl
    (λ at. omega arith) more rows (λ at. omega arith)
moves-gone place b p q (Some wait) more rows = record {
  kinds = refl;
  waits = but-set place None b.waits None;
  holds = but-same place [] b.holds;
  rounds = rounds-back place b wait;
  room = λ at. omega arith;
  comes = λ at round. omega (
    arith,
    more at round,
    comes-none at round (round_of (with_left b place (Some wait)) place at),
    comes-none at round (round_of b place at),
  );
  rows = rows;
}

pub moves-left : (place : ℕ) (b : PlainFloor) (p q : List (List ℕ))
    → ((at round : ℕ) → parties_in p at round ≤ parties_in q at round)
    → ((at round : ℕ) → IsPartyPlace p at round → IsPartyPlace q at round)
    → Moves place b p [] (after_leave b place Gone) q []
moves-left place b p q more rows = moves-gone place b p q (wait_of b place) more rows

pub moves-late : (place : ℕ) (b : PlainFloor) (p : List (List ℕ)) (element : ℕ) (steps : List Step)
    → Moves place b p steps (after_leave b place (Late element)) p steps
moves-late place b p element steps = moves-granted place b p is_late (wait_of b place) element steps

-- an arrival is one more
pub one-arrival : (at : ℕ) (rest : List Step)
    → count_by (is_arrival at) (Arrive at ∷ rest) ≡ count_by (is_arrival at) rest + 1
one-arrival at rest =
    let one : cond {A = ℕ} (is_arrival at (Arrive at)) 1 0 ≡ 1 = ap (λ b. cond {A = ℕ} b 1 0) (may-arrive at) in
    omega (arith, arrivals-cons at (Arrive at) rest, one)

-- an arrival in the job's round
module _ (place at : ℕ) (b : PlainFloor) (p : List (List ℕ)) (rest : List Step) (job : IsJob b place)
    (has : HasRound (slice_get b.kinds at) (round_of b place at)) (some : 0 < room_at b at)
    (party : 0 < parties_in p at (round_of b place at)) where
  abbrev first : ℕ
  first = round_of b place at

  abbrev then_parties : List (List ℕ)
  then_parties = with_parties p at first (parties_in p at first - 1)

  there : at < length b.kinds
  there = has-place b.kinds at first has

  -- what is needed of a round, by which round it is
  comes-at : (c : PlainFloor) → c.rounds ≡ (after_arrive b at place (Now 0)).rounds → (q r : ℕ)
      → parties_in p q r + parties_for q r (round_of c place q) rest
      ≤ parties_in then_parties q r + parties_for q r (round_of b place q) (Arrive at ∷ rest)
  comes-at c rounds q r = go (cases_eq q at)
    where
      row : (n : ℕ) → round_of c place n ≡ round_of (after_arrive b at place (Now 0)) place n
      row n = ap (λ rs. get_or (get_or rs place []) n 0) rounds

      same-round : (r ≡ first) ⊎ (r ≢ first)
          → parties_in p at r + parties_for at r (round_of c place at) rest
          ≤ parties_in then_parties at r + parties_for at r first (Arrive at ∷ rest)
      same-round (inl here) =
          let n : ℕ = count_by (is_arrival at) rest in
          let moved : parties_for at first (round_of c place at) rest ≡ comes_to first (first + 1) n
          = ap (λ m. comes_to first m n) (row at ∙ arrived-here b place at job there) in
          let counted : parties_for at first first (Arrive at ∷ rest) ≡ comes_to first first (n + 1)
          = ap (comes_to first first) (one-arrival at rest) in
          let At : ℕ → Type 0 = λ m. parties_in p at m + parties_for at m (round_of c place at) rest
          ≤ parties_in then_parties at m + parties_for at m first (Arrive at ∷ rest) in
          subst At (sym here) (omega (arith, moved, counted, comes-here first n, parties-here p at first party, party))
      same-round (inr other) =
          let n : ℕ = count_by (is_arrival at) rest in
          let moved : parties_for at r (round_of c place at) rest ≡ comes_to r (first + 1) n
          = ap (λ m. comes_to r m n) (row at ∙ arrived-here b place at job there) in
          let counted : parties_for at r first (Arrive at ∷ rest) ≡ comes_to r first (n + 1)
          = ap (comes_to r first) (one-arrival at rest) in
          let kept = parties-elsewhere p at first (parties_in p at first - 1) at r (inr other) in
          omega (arith, moved, counted, comes-elsewhere r first n other, kept)

      go : (q ≡ at) ⊎ (q ≢ at)
          → parties_in p q r + parties_for q r (round_of c place q) rest
          ≤ parties_in then_parties q r + parties_for q r (round_of b place q) (Arrive at ∷ rest)
      go (inl same) =
          let At : ℕ → Type 0 = λ m. parties_in p m r + parties_for m r (round_of c place m) rest
          ≤ parties_in then_parties m r + parties_for m r (round_of b place m) (Arrive at ∷ rest) in
          subst At (sym same) (same-round (cases_eq r first))
      go (inr other) =
          let moved : parties_for q r (round_of c place q) rest ≡ parties_for q r (round_of b place q) rest
          = ap (λ m. parties_for q r m rest) (row q ∙ arrived-else b place at q job other) in
          let less = comes-fewer r (round_of b place q) (count_by (is_arrival q) rest)
          (count_by (is_arrival q) (Arrive at ∷ rest))
          (fewer-arrivals place at b p (Arrive at) rest (may-arrive at) some q) in
          let kept = parties-elsewhere p at first (parties_in p at first - 1) q r (inl other) in
          omega (arith, moved, less, kept)

  pub moves-arrived : (answer : FloorTake)
      → Moves place b p (Arrive at ∷ rest) (after_arrive b at place answer) then_parties rest
  moves-arrived (Now element) = record {
    kinds = refl;
    waits = but-same place None b.waits;
    holds = but-same place [] b.holds;
    rounds = but-set place [] b.rounds (set (own_rounds b place) at (first + 1));
    room = room-less place at b p (Arrive at) rest (may-arrive at) some;
    comes = comes-at (after_arrive b at place (Now element)) refl;
    rows = λ q r there. place-stays p at first (parties_in p at first - 1) q r there;
  }
  moves-arrived (Waits number) = record {
    kinds = refl;
    waits = but-set place None b.waits (Some (record { at = at; round = first; number = number }));
    holds = but-same place [] b.holds;
    rounds = but-set place [] b.rounds (set (own_rounds b place) at (first + 1));
    room = room-less place at b p (Arrive at) rest (may-arrive at) some;
    comes = comes-at (after_arrive b at place (Waits number)) refl;
    rows = λ q r there. place-stays p at first (parties_in p at first - 1) q r there;
  }
