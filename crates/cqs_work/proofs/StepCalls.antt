-- What a worker's job does with a step, call by call.
use Rattle.std.proofs.Common.{◌≡◌, ℕ, ◌+◌, ◌-◌, ◌<◌, List, [], ◌∷◌, cond, Option, Some, None, take, drop, get_or, slice_get, count_by, eq-eqb, ne_eqb, ◌≢◌, ◌⊎◌, inl, inr, refl, sym, ap, subst, ◌∙◌, arith}
use Rattle.cqs_plan.specs.declared.plans.step.Step.{Step}
use Rattle.cqs_plan.specs.declared.plans.step.Step.TheVariants.{Take, Give, Down, Await, Arrive, Work}
use Rattle.cqs_plan.specs.declared.floors.answers.FloorTake.{FloorTake}
use Rattle.cqs_plan.specs.declared.floors.answers.FloorTake.TheVariants.{Now, Waits}
use Rattle.cqs_plan.specs.declared.floors.answers.FloorDown.{FloorDown}
use Rattle.cqs_plan.specs.declared.floors.answers.FloorGive.TheVariants.{Free}
use Rattle.cqs_plan.specs.PlanSteps.{is_arrival}
use Rattle.cqs_plan.specs.FloorCalls.{after_take, after_wait, after_arrive}
use Rattle.cqs_plan.specs.Floor.{PlainFloor, IsJob, HasRound, round_of, room_at, with_less_room}
use Rattle.cqs_turns_report.specs.declared.actors.Actor.{Actor}
use Rattle.cqs_turns_report.specs.declared.states.End.TheVariants as end
use Rattle.cqs_turns_report.specs.declared.states.Progress.{Progress}
use Rattle.cqs_turns_report.specs.declared.states.Progress.TheVariants.{Stepping, Working, Waiting, Ended}
use Rattle.cqs_turns_report.specs.Ready.{IsReady, wait_in, steps_left}
use Rattle.cqs_turns_report.specs.Roles.{role}
use Rattle.cqs_turns_report.proofs.ArrivalMoves.{arrived-here, arrived-else, has-place}
use Rattle.cqs_turns_report.proofs.Moved.{may-take, may-await, may-arrive}
use Rattle.cqs_turns_report.proofs.Readied.{on_take-ready, waiting-ready, on_pass-ready, on_wait-ready, on_last-ready, on_arrive-ready, on_give-ready}
use Rattle.std.proofs.lemmas.Bool.{cases_eq}
use Rattle.cqs_floor_shared.specs.declared.shared.SharedGive.{SharedGive}
use Rattle.cqs_floor_shared.specs.Shared.{kind_at, parties_at}
use Rattle.cqs_floor_shared.specs.Calls.{Takes, Waits as Waits_at, Arrives, Gives, Downs, element_held}
use Rattle.cqs_work.specs.Desk.{Desk, with_answer}
use Rattle.cqs_work.specs.Gated.{HasTold}
use Rattle.cqs_work.specs.Heard.{Heard, Hears}
use Rattle.cqs_work.specs.Heard as answer
use Rattle.cqs_work.specs.Roles.{same, made_so, give_one, count_down, take_step, wait_step, arrive_step, make_step}
use Rattle.cqs_work.specs.Needs.{IsInRounds}
use Rattle.cqs_work.specs.Doing.{Moves, CanAct, Did, after_stop}
use Rattle.cqs_work.specs.Adds.{Adds, Keeps}
use Rattle.cqs_work.proofs.Lasting.{later-none}
use Rattle.cqs_work.proofs.Adding.{call-keeps, keeps-none, given-plain, counted-plain}
use Rattle.cqs_work.proofs.Accounts.{take-later, wait-later, arrive-later, down-later, give-later}
use Rattle.cqs_work.proofs.Gating.{told-none}
use Rattle.cqs_work.proofs.HeardLemmas.{came-is, gave-is, counted-is}
use Rattle.cqs_work.proofs.Moving.{moves-past, moves-on, moves-turned, moves-taken, moves-waited, moves-given, moves-arrived}
use Rattle.cqs_work.specs.Needs.{IsPartyPlace, CanGoBackIn}
use Rattle.cqs_work.proofs.GoingBack.{take-back, wait-back, arrive-back}
use Rattle.cqs_work.proofs.Parties.{party-place, place-stays}
use Rattle.cqs_work.proofs.StepNeeds.{made-count, party-some, steps-split, step-ready, step-provided, step-room, rounds-kept, take-resource, take-room, wait-resource, wait-room, give-resource, give-holds}
use Rattle.cqs_work.proofs.StepAdds.{stop_of, adds-plain, latch-else, round-else, latch-some, round-some, take-adds, else-adds}

-- what the job did with a step
module _ {X : Type 0} (a : Actor) (f : Desk) (next : ℕ) (step : Step) (can : CanAct a f.floor (Stepping next))
    (its_step : slice_get a.job.now.steps next ≡ Some step) (go after : Heard → X) (g : Desk) (q : Progress) where
  pub did : Hears f g go after → g.floor.board.kinds ≡ f.floor.board.kinds
      → IsReady g.floor.board a.place (wait_in q) (steps_left a.job.now.steps q)
      → IsInRounds g.floor.board a.place a.job.now.steps q
      → Moves a.place f.floor.board f.floor.parties (step ∷ drop (next + 1) a.job.now.steps) g.floor.board
      g.floor.parties
      (steps_left a.job.now.steps q) → Adds a.job.now a.place f (Stepping next) g q
      → CanGoBackIn g.floor a.place a.job.now.steps q
      → Did a f (Stepping next) go after g q
  did hears kinds ready rounds moves adds back = record {
    hears = hears;
    stands = record { kinds = kinds ∙ can.stands.kinds; ready = ready };
    rounds = rounds;
    moves = subst (λ steps. Moves a.place f.floor.board f.floor.parties steps g.floor.board g.floor.parties
        (steps_left a.job.now.steps q)) (sym (steps-split a f.floor next step can its_step)) moves;
    back = back;
    adds = adds;
  }

-- a job that was turned away
turned-ready : (b : PlainFloor) (place at : ℕ) (steps : List Step) → IsReady b place None steps
    → IsReady (with_less_room b at) place None []
turned-ready b place at steps ready = record {
  job = record { waits = ready.job.waits; holds = ready.job.holds; rounds = ready.job.rounds; each = ready.job.each };
  waits = ready.waits;
  holdable = ready.holdable;
  makeable = tt;
}

-- a take
take-by : (a : Actor) (f g : Desk) (next at : ℕ) (got : Option FloorTake) → CanAct a f.floor (Stepping next)
    → slice_get a.job.now.steps next ≡ Some (Take at) → Takes f.floor at a.place got g.floor
    → g.waits ≡ with_answer f.waits at 0 a.place got
    → HasTold f.gate g.gate 1
    → Did a f (Stepping next) (take_step a next at) (made_so (stop_of next at 0 got)) g
    (after_stop next (stop_of next at 0 got))
take-by a f g next at (Some (Now element)) can its_step comes waits told =
    let b : PlainFloor = after_take f.floor.board at a.place (Now element) in
    did a f next (Take at) can its_step (take_step a next at) (made_so None) g (Stepping (next + 1))
    (record {
      later = take-later f.floor at a.place _ g.floor comes (take-resource a f.floor next at can its_step)
          can.stands.ready.job can.stands.ready.waits (take-room a f.floor next at can its_step);
      answers = answer.come (Some (Now element)) comes.drew comes.with_it ∷ [];
      told = told;
      plays = λ more. ap (made_so None) (came-is f at 0 a.place b f.floor.parties
          (Some (Now element)) g comes waits more);
    })
    (ap (λ c. c.kinds) comes.board)
    (rw comes.board (on_take-ready f.floor.board a.place at element (drop (next + 1) a.job.now.steps)
    (step-ready a f.floor next (Take at) can its_step)))
    (rounds-kept a f.floor next (Take at) can its_step (λ q. refl) g.floor.board
    (λ q. ap (λ c. round_of c a.place q) comes.board))
    (rw (comes.board, comes.parties) (moves-taken a.place at f.floor.board f.floor.parties (Now element)
    (drop (next + 1) a.job.now.steps)
    (step-room a f.floor next (Take at) can its_step at (may-take at))))
    (take-adds a f g next at _ its_step (take-resource a f.floor next at can its_step) (ap (λ c. c.kinds) comes.board)
    comes waits)
    tt
take-by a f g next at (Some (Waits number)) can its_step comes waits told =
    let b : PlainFloor = after_take f.floor.board at a.place (Waits number) in
    did a f next (Take at) can its_step (take_step a next at) (made_so (Some (Waiting (next + 1) at 0 number))) g
    (Waiting (next + 1) at 0 number)
    (record {
      later = take-later f.floor at a.place _ g.floor comes (take-resource a f.floor next at can its_step)
          can.stands.ready.job can.stands.ready.waits (take-room a f.floor next at can its_step);
      answers = answer.come (Some (Waits number)) comes.drew comes.with_it ∷ [];
      told = told;
      plays = λ more. ap (made_so (Some (Waiting (next + 1) at 0 number)))
          (came-is f at 0 a.place b f.floor.parties (Some (Waits number)) g comes waits more);
    })
    (ap (λ c. c.kinds) comes.board)
    (rw comes.board (waiting-ready f.floor.board a.place at number (drop (next + 1) a.job.now.steps)
    (step-ready a f.floor next (Take at) can its_step)))
    (rounds-kept a f.floor next (Take at) can its_step (λ q. refl) g.floor.board
    (λ q. ap (λ c. round_of c a.place q) comes.board))
    (rw (comes.board, comes.parties) (moves-taken a.place at f.floor.board f.floor.parties (Waits number)
    (drop (next + 1) a.job.now.steps)
    (step-room a f.floor next (Take at) can its_step at (may-take at))))
    (take-adds a f g next at _ its_step (take-resource a f.floor next at can its_step) (ap (λ c. c.kinds) comes.board)
    comes waits)
    (take-back a f.floor next (Take at) can its_step at number (take-resource a f.floor next at can its_step) g.floor
    comes.board)
take-by a f g next at None can its_step comes waits told =
    let b : PlainFloor = with_less_room f.floor.board at in
    did a f next (Take at) can its_step (take_step a next at) (made_so (Some (Ended end.Crowded))) g (Ended end.Crowded)
    (record {
      later = take-later f.floor at a.place _ g.floor comes (take-resource a f.floor next at can its_step)
          can.stands.ready.job can.stands.ready.waits (take-room a f.floor next at can its_step);
      answers = answer.come None comes.drew comes.with_it ∷ [];
      told = told;
      plays = λ more. ap (made_so (Some (Ended end.Crowded))) (came-is f at 0 a.place b f.floor.parties None g comes
          waits more);
    })
    (ap (λ c. c.kinds) comes.board)
    (rw comes.board (turned-ready f.floor.board a.place at (Take at ∷ drop (next + 1) a.job.now.steps)
    (step-ready a f.floor next (Take at) can its_step)))
    tt
    (rw (comes.board, comes.parties) (moves-turned a.place at f.floor.board f.floor.parties (Take at)
    (drop (next + 1) a.job.now.steps)
    (may-take at) (step-room a f.floor next (Take at) can its_step at (may-take at))))
    (take-adds a f g next at _ its_step (take-resource a f.floor next at can its_step) (ap (λ c. c.kinds) comes.board)
    comes waits)
    tt

pub take-did : (a : Actor) (f g : Desk) (next at : ℕ) (got known : Option FloorTake) → CanAct a f.floor (Stepping next)
    → slice_get a.job.now.steps next ≡ Some (Take at) → Takes f.floor at a.place got g.floor
    → got ≡ known → g.waits ≡ with_answer f.waits at 0 a.place known
    → HasTold f.gate g.gate 1
    → Did a f (Stepping next) (take_step a next at) (made_so (stop_of next at 0 known)) g
    (after_stop next (stop_of next at 0 known))
take-did a f g next at got known can its_step comes is waits told =
    let Goal : Option FloorTake → Type 0 = λ o.
    Did a f (Stepping next) (take_step a next at) (made_so (stop_of next at 0 o)) g
    (after_stop next (stop_of next at 0 o)) in
    subst Goal is
    (take-by a f g next at got can its_step comes (waits ∙ ap (with_answer f.waits at 0 a.place) (sym is)) told)

-- a wait at a latch
wait-by : (a : Actor) (f g : Desk) (next at : ℕ) (got : Option FloorTake) → CanAct a f.floor (Stepping next)
    → slice_get a.job.now.steps next ≡ Some (Await at) → Waits_at f.floor at a.place got g.floor
    → g.waits ≡ with_answer f.waits at 0 a.place got
    → HasTold f.gate g.gate 1
    → Did a f (Stepping next) (wait_step a next at) (made_so (stop_of next at 0 got)) g
    (after_stop next (stop_of next at 0 got))
wait-by a f g next at (Some (Now element)) can its_step comes waits told =
    let b : PlainFloor = after_wait f.floor.board at a.place (Now element) in
    did a f next (Await at) can its_step (wait_step a next at) (made_so None) g (Stepping (next + 1))
    (record {
      later = wait-later f.floor at a.place _ g.floor comes (wait-resource a f.floor next at can its_step)
          can.stands.ready.job can.stands.ready.waits (wait-room a f.floor next at can its_step);
      answers = answer.come (Some (Now element)) comes.drew comes.with_it ∷ [];
      told = told;
      plays = λ more. ap (made_so None) (came-is f at 0 a.place b f.floor.parties
          (Some (Now element)) g comes waits more);
    })
    (ap (λ c. c.kinds) comes.board)
    (rw comes.board (on_pass-ready f.floor.board a.place at element (drop (next + 1) a.job.now.steps)
    (step-ready a f.floor next (Await at) can its_step)))
    (rounds-kept a f.floor next (Await at) can its_step (λ q. refl) g.floor.board
    (λ q. ap (λ c. round_of c a.place q) comes.board))
    (rw (comes.board, comes.parties) (moves-waited a.place at f.floor.board f.floor.parties (Now element)
    (drop (next + 1) a.job.now.steps)
    (step-room a f.floor next (Await at) can its_step at (may-await at))))
    (else-adds a f g next at 0 (Await at) _ _ _ its_step (may-await at) (λ q. refl)
    (latch-some (kind_at f.floor at) (wait-resource a f.floor next at can its_step))
    (latch-else (kind_at f.floor at) (wait-resource a f.floor next at can its_step)) (ap (λ c. c.kinds) comes.board)
    comes waits)
    tt
wait-by a f g next at (Some (Waits number)) can its_step comes waits told =
    let b : PlainFloor = after_wait f.floor.board at a.place (Waits number) in
    did a f next (Await at) can its_step (wait_step a next at) (made_so (Some (Waiting (next + 1) at 0 number))) g
    (Waiting (next + 1) at 0 number)
    (record {
      later = wait-later f.floor at a.place _ g.floor comes (wait-resource a f.floor next at can its_step)
          can.stands.ready.job can.stands.ready.waits (wait-room a f.floor next at can its_step);
      answers = answer.come (Some (Waits number)) comes.drew comes.with_it ∷ [];
      told = told;
      plays = λ more. ap (made_so (Some (Waiting (next + 1) at 0 number)))
          (came-is f at 0 a.place b f.floor.parties (Some (Waits number)) g comes waits more);
    })
    (ap (λ c. c.kinds) comes.board)
    (rw comes.board (on_wait-ready f.floor.board a.place at number (drop (next + 1) a.job.now.steps)
    (step-ready a f.floor next (Await at) can its_step)))
    (rounds-kept a f.floor next (Await at) can its_step (λ q. refl) g.floor.board
    (λ q. ap (λ c. round_of c a.place q) comes.board))
    (rw (comes.board, comes.parties) (moves-waited a.place at f.floor.board f.floor.parties (Waits number)
    (drop (next + 1) a.job.now.steps)
    (step-room a f.floor next (Await at) can its_step at (may-await at))))
    (else-adds a f g next at 0 (Await at) _ _ _ its_step (may-await at) (λ q. refl)
    (latch-some (kind_at f.floor at) (wait-resource a f.floor next at can its_step))
    (latch-else (kind_at f.floor at) (wait-resource a f.floor next at can its_step)) (ap (λ c. c.kinds) comes.board)
    comes waits)
    (wait-back a f.floor next (Await at) can its_step at number (wait-resource a f.floor next at can its_step) g.floor
    comes.board)
wait-by a f g next at None can its_step comes waits told =
    let b : PlainFloor = with_less_room f.floor.board at in
    did a f next (Await at) can its_step (wait_step a next at) (made_so (Some (Ended end.Crowded))) g
    (Ended end.Crowded)
    (record {
      later = wait-later f.floor at a.place _ g.floor comes (wait-resource a f.floor next at can its_step)
          can.stands.ready.job can.stands.ready.waits (wait-room a f.floor next at can its_step);
      answers = answer.come None comes.drew comes.with_it ∷ [];
      told = told;
      plays = λ more. ap (made_so (Some (Ended end.Crowded))) (came-is f at 0 a.place b f.floor.parties None g comes
          waits more);
    })
    (ap (λ c. c.kinds) comes.board)
    (rw comes.board (turned-ready f.floor.board a.place at (Await at ∷ drop (next + 1) a.job.now.steps)
    (step-ready a f.floor next (Await at) can its_step)))
    tt
    (rw (comes.board, comes.parties) (moves-turned a.place at f.floor.board f.floor.parties (Await at)
    (drop (next + 1) a.job.now.steps)
    (may-await at) (step-room a f.floor next (Await at) can its_step at (may-await at))))
    (else-adds a f g next at 0 (Await at) _ _ _ its_step (may-await at) (λ q. refl)
    (latch-some (kind_at f.floor at) (wait-resource a f.floor next at can its_step))
    (latch-else (kind_at f.floor at) (wait-resource a f.floor next at can its_step)) (ap (λ c. c.kinds) comes.board)
    comes waits)
    tt

pub wait-did : (a : Actor) (f g : Desk) (next at : ℕ) (got known : Option FloorTake) → CanAct a f.floor (Stepping next)
    → slice_get a.job.now.steps next ≡ Some (Await at) → Waits_at f.floor at a.place got g.floor
    → got ≡ known → g.waits ≡ with_answer f.waits at 0 a.place known
    → HasTold f.gate g.gate 1
    → Did a f (Stepping next) (wait_step a next at) (made_so (stop_of next at 0 known)) g
    (after_stop next (stop_of next at 0 known))
wait-did a f g next at got known can its_step comes is waits told =
    let Goal : Option FloorTake → Type 0 = λ o.
    Did a f (Stepping next) (wait_step a next at) (made_so (stop_of next at 0 o)) g
    (after_stop next (stop_of next at 0 o)) in
    subst Goal is
    (wait-by a f g next at got can its_step comes (waits ∙ ap (with_answer f.waits at 0 a.place) (sym is)) told)

-- an arrival
module _ (a : Actor) (f : Desk) (next at : ℕ) (can : CanAct a f.floor (Stepping next))
    (its_step : slice_get a.job.now.steps next ≡ Some (Arrive at)) where
  abbrev round : ℕ
  round = round_of f.floor.board a.place at

  pub arrives-in : HasRound (kind_at f.floor at) round
  arrives-in = (step-ready a f.floor next (Arrive at) can its_step).makeable.0

  pub arrive-room : 0 < room_at f.floor.board at
  arrive-room = step-room a f.floor next (Arrive at) can its_step at (may-arrive at)

  pub arrive-party : 0 < parties_at f.floor at round
  arrive-party =
      party-some at round (drop (next + 1) a.job.now.steps) (parties_at f.floor at round)
      ((step-provided a f.floor next (Arrive at) can its_step).parties at round)

  rounds-next : (b : PlainFloor) → b.rounds ≡ (after_arrive f.floor.board at a.place (Now 0)).rounds → (q : ℕ)
      → round_of b a.place q ≡ count_by (is_arrival q) (take (next + 1) a.job.now.steps)
  rounds-next b rounds q = go (cases_eq q at)
    where
      job : IsJob f.floor.board a.place
      job = can.stands.ready.job

      row : round_of b a.place q ≡ round_of (after_arrive f.floor.board at a.place (Now 0)) a.place q
      row = ap (λ rs. get_or (get_or rs a.place []) q 0) rounds

      go : (q ≡ at) ⊎ (q ≢ at) → round_of b a.place q ≡ count_by (is_arrival q) (take (next + 1) a.job.now.steps)
      go (inl here) =
          let one : cond {A = ℕ} (is_arrival q (Arrive at)) 1 0 ≡ 1
          = ap (λ b. cond {A = ℕ} b 1 0) (eq-eqb at q (sym here)) in
          let moved : round_of b a.place q ≡ round_of f.floor.board a.place q + 1
          = row ∙ ap (round_of (after_arrive f.floor.board at a.place (Now 0)) a.place) here
          ∙ arrived-here f.floor.board a.place at job (has-place f.floor.board.kinds at round arrives-in)
          ∙ ap (λ n. round_of f.floor.board a.place n + 1) (sym here) in
          omega (arith, moved, can.rounds q, made-count q a.job.now.steps next (Arrive at) its_step, one)
      go (inr other) =
          let none : cond {A = ℕ} (is_arrival q (Arrive at)) 1 0 ≡ 0
          = ap (λ b. cond {A = ℕ} b 1 0) (ne_eqb at q (λ e. other (sym e))) in
          let kept : round_of b a.place q ≡ round_of f.floor.board a.place q
          = row ∙ arrived-else f.floor.board a.place at q job other in
          omega (arith, kept, can.rounds q, made-count q a.job.now.steps next (Arrive at) its_step, none)

  arrive-by : (g : Desk) (got : Option FloorTake) → Arrives f.floor at a.place got g.floor
      → g.waits ≡ with_answer f.waits at round a.place got → HasTold f.gate g.gate 1
      → Did a f (Stepping next) (arrive_step a next at) (made_so (stop_of next at round got)) g
      (after_stop next (stop_of next at round got))
  arrive-by g (Some (Now element)) comes waits told =
      let b : PlainFloor = after_arrive f.floor.board at a.place (Now element) in
      did a f next (Arrive at) can its_step (arrive_step a next at) (made_so None) g (Stepping (next + 1))
      (record {
        later = arrive-later f.floor at a.place _ g.floor comes arrives-in can.stands.ready.job can.stands.ready.waits
            arrive-room;
        answers = answer.come (Some (Now element)) comes.drew comes.with_it ∷ [];
        told = told;
        plays = λ more. ap (made_so None) (came-is f at round a.place b _ (Some (Now element)) g comes waits more);
      })
      (ap (λ c. c.kinds) comes.board)
      (rw comes.board (on_last-ready f.floor.board a.place at element (drop (next + 1) a.job.now.steps)
      (step-ready a f.floor next (Arrive at) can its_step)))
      (rounds-next g.floor.board (ap (λ c. c.rounds) comes.board))
      (rw (comes.board, comes.parties) (moves-arrived a.place at f.floor.board f.floor.parties
      (drop (next + 1) a.job.now.steps)
      can.stands.ready.job arrives-in arrive-room arrive-party (Now element)))
      (else-adds a f g next at round (Arrive at) _ _ _ its_step (may-arrive at) (λ q. refl)
      (round-some (kind_at f.floor at) round arrives-in) (round-else (kind_at f.floor at) round arrives-in)
      (ap (λ c. c.kinds) comes.board) comes waits)
      tt
  arrive-by g (Some (Waits number)) comes waits told =
      let b : PlainFloor = after_arrive f.floor.board at a.place (Waits number) in
      did a f next (Arrive at) can its_step (arrive_step a next at)
      (made_so (Some (Waiting (next + 1) at round number))) g (Waiting (next + 1) at round number)
      (record {
        later = arrive-later f.floor at a.place _ g.floor comes arrives-in can.stands.ready.job can.stands.ready.waits
            arrive-room;
        answers = answer.come (Some (Waits number)) comes.drew comes.with_it ∷ [];
        told = told;
        plays = λ more. ap (made_so (Some (Waiting (next + 1) at round number)))
            (came-is f at round a.place b _ (Some (Waits number)) g comes waits more);
      })
      (ap (λ c. c.kinds) comes.board)
      (rw comes.board (on_arrive-ready f.floor.board a.place at number (drop (next + 1) a.job.now.steps)
      (step-ready a f.floor next (Arrive at) can its_step)))
      (rounds-next g.floor.board (ap (λ c. c.rounds) comes.board))
      (rw (comes.board, comes.parties) (moves-arrived a.place at f.floor.board f.floor.parties
      (drop (next + 1) a.job.now.steps)
      can.stands.ready.job arrives-in arrive-room arrive-party (Waits number)))
      (else-adds a f g next at round (Arrive at) _ _ _ its_step (may-arrive at) (λ q. refl)
      (round-some (kind_at f.floor at) round arrives-in) (round-else (kind_at f.floor at) round arrives-in)
      (ap (λ c. c.kinds) comes.board) comes waits)
      (arrive-back a f.floor next (Arrive at) can its_step at number arrives-in g.floor comes.board
      (subst (λ ps. IsPartyPlace ps at round) (sym comes.parties)
      (place-stays f.floor.parties at round (parties_at f.floor at round - 1) at round
      (party-place f.floor.parties at round arrive-party))))
  arrive-by g None comes waits told =
      let b : PlainFloor = with_less_room f.floor.board at in
      did a f next (Arrive at) can its_step (arrive_step a next at) (made_so (Some (Ended end.Crowded))) g
      (Ended end.Crowded)
      (record {
        later = arrive-later f.floor at a.place _ g.floor comes arrives-in can.stands.ready.job can.stands.ready.waits
            arrive-room;
        answers = answer.come None comes.drew comes.with_it ∷ [];
        told = told;
        plays = λ more. ap (made_so (Some (Ended end.Crowded))) (came-is f at round a.place b _ None g comes waits
            more);
      })
      (ap (λ c. c.kinds) comes.board)
      (rw comes.board (turned-ready f.floor.board a.place at (Arrive at ∷ drop (next + 1) a.job.now.steps)
      (step-ready a f.floor next (Arrive at) can its_step)))
      tt
      (rw (comes.board, comes.parties) (moves-turned a.place at f.floor.board f.floor.parties (Arrive at)
      (drop (next + 1) a.job.now.steps) (may-arrive at) arrive-room))
      (else-adds a f g next at round (Arrive at) _ _ _ its_step (may-arrive at) (λ q. refl)
      (round-some (kind_at f.floor at) round arrives-in) (round-else (kind_at f.floor at) round arrives-in)
      (ap (λ c. c.kinds) comes.board) comes waits)
      tt

  -- the code counts the round from the steps before
  pub arrive-did : (g : Desk) (got known : Option FloorTake) (counted : ℕ) → Arrives f.floor at a.place got g.floor
      → got ≡ known → g.waits ≡ with_answer f.waits at counted a.place known
      → counted ≡ count_by (is_arrival at) (take next a.job.now.steps) → HasTold f.gate g.gate 1
      → Did a f (Stepping next) (arrive_step a next at) (made_so (stop_of next at counted known)) g
      (after_stop next (stop_of next at counted known))
  arrive-did g got known counted comes is waits count told =
      let here : g.waits ≡ with_answer f.waits at round a.place got
      = waits ∙ ap (with_answer f.waits at counted a.place) (sym is)
      ∙ ap (λ r. with_answer f.waits at r a.place got) (count ∙ sym (can.rounds at)) in
      let Goal : ℕ → Option FloorTake → Type 0 = λ r o.
      Did a f (Stepping next) (arrive_step a next at) (made_so (stop_of next at r o)) g
      (after_stop next (stop_of next at r o)) in
      subst (λ r. Goal r known) (can.rounds at ∙ sym count) (subst (Goal round) is (arrive-by g got comes here told))

-- a count down
pub down-did : (a : Actor) (f g : Desk) (next at : ℕ) (got : FloorDown) → CanAct a f.floor (Stepping next)
    → slice_get a.job.now.steps next ≡ Some (Down at) → Downs f.floor at got g.floor → g.waits ≡ f.waits
    → HasTold f.gate g.gate 1
    → Did a f (Stepping next) (count_down a at) same g (Stepping (next + 1))
down-did a f g next at got can its_step downs waits told =
    let ready : IsReady f.floor.board a.place None (Down at ∷ drop (next + 1) a.job.now.steps)
    = step-ready a f.floor next (Down at) can its_step in
    did a f next (Down at) can its_step (count_down a at) same g (Stepping (next + 1))
    (record {
      later = down-later f.floor at got g.floor downs;
      answers = answer.counted got ∷ [];
      told = told;
      plays = λ more. counted-is f (role a) at got g downs waits more;
    })
    (ap (λ c. c.kinds) downs.board)
    (rw downs.board (record {
      job = ready.job;
      waits = ready.waits;
      holdable = ready.holdable;
      makeable = ready.makeable.1;
    }))
    (rounds-kept a f.floor next (Down at) can its_step (λ q. refl) g.floor.board
    (λ q. ap (λ c. round_of c a.place q) downs.board))
    (rw (downs.board, downs.parties) (moves-past a.place f.floor.board f.floor.parties (Down at)
    (drop (next + 1) a.job.now.steps)))
    (adds-plain a f g next (Down at) (Stepping (next + 1)) its_step refl (λ q. refl) tt
    (call-keeps f at _ g downs.sees (ap (λ c. c.kinds) downs.board)
    (counted-plain f.floor.number got) waits downs.came (ap (λ c. c.room) downs.board)))
    tt

-- a give
pub given-keeps : (place : ℕ) (f g : Desk) (at : ℕ) (got : SharedGive) → Gives f.floor at place got g.floor
    → g.waits ≡ f.waits → Keeps f g
given-keeps place f g at got gives waits =
    call-keeps f at _ g gives.sees (ap (λ c. c.kinds) gives.board)
    (given-plain (kind_at f.floor at) f.floor.number (element_held f.floor.board at place) got) waits gives.came
    (ap (λ c. c.room) gives.board)

pub give-did : (a : Actor) (f g : Desk) (next at : ℕ) (got : SharedGive) → CanAct a f.floor (Stepping next)
    → slice_get a.job.now.steps next ≡ Some (Give at) → Gives f.floor at a.place got g.floor → g.waits ≡ f.waits
    → HasTold f.gate g.gate 1
    → Did a f (Stepping next) (give_one a at) same g (Stepping (next + 1))
give-did a f g next at got can its_step gives waits told =
    did a f next (Give at) can its_step (give_one a at) same g (Stepping (next + 1))
    (record {
      later = give-later f.floor at a.place got g.floor gives (give-resource a f.floor next at can its_step)
          can.stands.ready.job
          (give-holds a f.floor next at can its_step);
      answers = answer.gave got ∷ [];
      told = told;
      plays = λ more. gave-is f (role a) at got g gives waits more;
    })
    (ap (λ c. c.kinds) gives.board)
    (rw gives.board (on_give-ready f.floor.board a.place at (Free 0) (drop (next + 1) a.job.now.steps)
    (step-ready a f.floor next (Give at) can its_step)))
    (rounds-kept a f.floor next (Give at) can its_step (λ q. refl) g.floor.board
    (λ q. ap (λ c. round_of c a.place q) gives.board))
    (rw (gives.board, gives.parties) (moves-on a.place f.floor.board f.floor.parties
    (Give at ∷ drop (next + 1) a.job.now.steps)
    f.floor.board f.floor.parties (drop (next + 1) a.job.now.steps) _ f.floor.parties (drop (next + 1) a.job.now.steps)
    (moves-past a.place f.floor.board f.floor.parties (Give at) (drop (next + 1) a.job.now.steps))
    (moves-given a.place at f.floor.board f.floor.parties (drop (next + 1) a.job.now.steps))))
    (adds-plain a f g next (Give at) (Stepping (next + 1)) its_step refl (λ q. refl) tt
    (given-keeps a.place f g at got gives waits))
    tt

-- work
pub work-did : (a : Actor) (f : Desk) (next turns : ℕ) → CanAct a f.floor (Stepping next)
    → slice_get a.job.now.steps next ≡ Some (Work turns)
    → Did a f (Stepping next) (make_step a next (Work turns)) (made_so (Some (Working (next + 1) (a.turn + turns)))) f
    (Working (next + 1) (a.turn + turns))
work-did a f next turns can its_step =
    let ready : IsReady f.floor.board a.place None (Work turns ∷ drop (next + 1) a.job.now.steps)
    = step-ready a f.floor next (Work turns) can its_step in
    did a f next (Work turns) can its_step (make_step a next (Work turns))
    (made_so (Some (Working (next + 1) (a.turn + turns)))) f (Working (next + 1) (a.turn + turns))
    (record { later = later-none f.floor; answers = []; told = told-none f.gate; plays = λ more. refl }) refl
    (record { job = ready.job; waits = ready.waits; holdable = ready.holdable; makeable = ready.makeable.1 })
    (rounds-kept a f.floor next (Work turns) can its_step (λ q. refl) f.floor.board (λ q. refl))
    (moves-past a.place f.floor.board f.floor.parties (Work turns) (drop (next + 1) a.job.now.steps))
    (adds-plain a f f next (Work turns) (Working (next + 1) (a.turn + turns)) its_step refl (λ q. refl) tt
    (keeps-none f))
    tt
