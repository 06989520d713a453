-- A job that waits could make the step again at which it waits, if the wait were gone.
use Rattle.std.proofs.Common.{◌≡◌, ◌≢◌, ℕ, zero, suc, ◌+◌, ◌-◌, ◌<◌, ◌≤◌, Bool, true, false, List, [], ◌∷◌, Option, Some, None, length, set, get_or, take, drop, slice_get, count_by, refl, sym, ap, ◌∙◌, subst, arith}
use Rattle.std.specs.Bool.{if◌then◌else◌}
use Rattle.std.specs.Option.{option_map_or}
use Rattle.std.proofs.lemmas.List.{get_or-set_same, set-set, set-get_or}
use Rattle.cqs_plan.specs.declared.plans.kind.Kind.{Kind}
use Rattle.cqs_plan.specs.declared.plans.kind.Kind.TheVariants.{Semaphore, Mutex, Pool, Latch, Rounds}
use Rattle.cqs_plan.specs.declared.plans.step.Step.{Step}
use Rattle.cqs_plan.specs.declared.plans.step.Step.TheVariants.{Take, Give, Down, Await, Arrive, Work}
use Rattle.cqs_plan.specs.declared.floors.answers.FloorTake.{FloorTake}
use Rattle.cqs_plan.specs.declared.floors.answers.FloorTake.TheVariants.{Now, Waits}
use Rattle.cqs_plan.specs.FloorCalls.{take_answer, wait_answer, arrive_answer, after_take, after_wait, after_arrive}
use Rattle.cqs_plan.specs.Language.{is_barrier}
use Rattle.cqs_plan.specs.PlanSteps.{is_arrival}
use Rattle.cqs_plan.specs.Floor.{PlainFloor, JobWait, IsHoldable, IsJob, IsLatch, HasRound, is_barrier_in, own_rounds, round_of, with_arrived}
use Rattle.cqs_turns_report.specs.declared.states.Progress.{Progress}
use Rattle.cqs_turns_report.specs.declared.states.Progress.TheVariants.{Stepping, Working, Waiting, Ended}
use Rattle.cqs_turns_report.specs.Ready.{CanMake, HasArrived, HasRoom, IsBack, IsBackIn, IsReady, row_back}
use Rattle.cqs_turns_report.specs.Turns.{Role, Scene, after_coming, after_step, on_arrive, on_take, on_wait, places_held}
use Rattle.cqs_turns_report.proofs.ArrivalMoves.{arrived-here, arrived-own, has-place}

-- what can be held, and a latch, is no barrier
held-none : (k : Option Kind) → IsHoldable k → option_map_or is_barrier k false ≡ false
held-none None holdable = absurd holdable
held-none (Some (Semaphore permits)) holdable = refl
held-none (Some Mutex) holdable = refl
held-none (Some (Pool elements)) holdable = refl
held-none (Some (Latch count)) holdable = absurd holdable
held-none (Some (Rounds parties rounds)) holdable = absurd holdable

latch-none : (k : Option Kind) → IsLatch k → option_map_or is_barrier k false ≡ false
latch-none None latch = absurd latch
latch-none (Some (Semaphore permits)) latch = absurd latch
latch-none (Some Mutex) latch = absurd latch
latch-none (Some (Pool elements)) latch = absurd latch
latch-none (Some (Latch count)) latch = refl
latch-none (Some (Rounds parties rounds)) latch = absurd latch

-- one with a round is
round-some : (k : Option Kind) (round : ℕ) → HasRound k round → option_map_or is_barrier k false ≡ true
round-some None round has = absurd has
round-some (Some (Semaphore permits)) round has = absurd has
round-some (Some Mutex) round has = absurd has
round-some (Some (Pool elements)) round has = absurd has
round-some (Some (Latch count)) round has = absurd has
round-some (Some (Rounds parties rounds)) round has = refl

-- a step that is left is among the steps
drop-below : (n : ℕ) (steps : List Step) (step : Step) (rest : List Step) → drop n steps ≡ step ∷ rest
    → n + 1 ≤ length steps
drop-below zero [] step rest split = absurd (cc)
drop-below (suc n) [] step rest split = absurd (cc)
drop-below zero (x ∷ steps) step rest split = omega arith
drop-below (suc n) (x ∷ steps) step rest split = omega (arith, drop-below n steps step rest split)

-- the floor g has what the job holds as f, which had its next steps and rounds so, and its row goes back to that of f
back-by : (f g : PlainFloor) (place : ℕ) (whole : List Step) (next : ℕ) (step : Step) (rest : List Step)
    (wait : JobWait)
    → drop next whole ≡ step ∷ rest → g.kinds ≡ f.kinds → places_held g place ≡ places_held f place
    → row_back g.kinds (own_rounds g place) wait ≡ own_rounds f place
    → CanMake f.kinds (places_held f place) (own_rounds f place) (step ∷ rest)
    → ((q : ℕ) → round_of f place q ≡ count_by (is_arrival q) (take next whole))
    → (is_barrier_in g.kinds wait.at ≡ true → HasArrived g place wait)
    → IsBack g place whole (next + 1) wait
back-by f g place whole next step rest wait split kinds held row can rounds arrived =
    let one : (next + 1) - 1 ≡ next = omega arith in
    record {
      some = omega arith;
      below = drop-below next whole step rest split;
      makeable = rw (kinds, held, one, split)
          (subst (λ own. CanMake f.kinds (places_held f place) own (step ∷ rest))
          (sym row ∙ ap (λ ks. row_back ks (own_rounds g place) wait) kinds) can);
      rounds = λ q. rw one (ap (λ own. get_or own q 0) row ∙ rounds q);
      arrived = arrived;
    }

module _ (r : Role) (next : ℕ) (rest : List Step) (s : Scene) where
  abbrev f : PlainFloor
  f = s.floor

  abbrev Rounds-so : Type 0
  Rounds-so = (q : ℕ) → round_of f r.place q ≡ count_by (is_arrival q) (take next r.job.steps)

  -- a take that waits
  take-back : (at number : ℕ) → drop next r.job.steps ≡ Take at ∷ rest
      → IsReady f r.place None (Take at ∷ rest) → Rounds-so
      → IsBack (after_take f at r.place (Waits number)) r.place r.job.steps (next + 1)
      (record { at = at; round = 0; number = number })
  take-back at number split ready rounds =
      let none : is_barrier_in f.kinds at ≡ false = held-none (slice_get f.kinds at) ready.makeable.0 in
      back-by f (after_take f at r.place (Waits number)) r.place r.job.steps next (Take at) rest
      (record { at = at; round = 0; number = number }) split refl refl (rw none refl) ready.makeable rounds
      (λ is. absurd (cc))

  -- a wait at a latch
  wait-back : (at number : ℕ) → drop next r.job.steps ≡ Await at ∷ rest
      → IsReady f r.place None (Await at ∷ rest) → Rounds-so
      → IsBack (after_wait f at r.place (Waits number)) r.place r.job.steps (next + 1)
      (record { at = at; round = 0; number = number })
  wait-back at number split ready rounds =
      let none : is_barrier_in f.kinds at ≡ false = latch-none (slice_get f.kinds at) ready.makeable.0 in
      back-by f (after_wait f at r.place (Waits number)) r.place r.job.steps next (Await at) rest
      (record { at = at; round = 0; number = number }) split refl refl (rw none refl) ready.makeable rounds
      (λ is. absurd (cc))

  -- an arrival that waits: taken back, the job is in its round again
  arrive-back : (at number : ℕ) → drop next r.job.steps ≡ Arrive at ∷ rest
      → IsReady f r.place None (Arrive at ∷ rest) → Rounds-so
      → IsBack (after_arrive f at r.place (Waits number)) r.place r.job.steps (next + 1)
      (record { at = at; round = round_of f r.place at; number = number })
  arrive-back at number split ready rounds =
      let g : PlainFloor = after_arrive f at r.place (Waits number) in
      let round : ℕ = round_of f r.place at in
      let wait : JobWait = record { at = at; round = round; number = number } in
      let is : is_barrier_in f.kinds at ≡ true = round-some (slice_get f.kinds at) round ready.makeable.0 in
      let own : own_rounds g r.place ≡ set (own_rounds f r.place) at (round + 1)
      = arrived-own f r.place at ready.job in
      let row : set (own_rounds g r.place) at round ≡ own_rounds f r.place
      = ap (λ xs. set xs at round) own ∙ set-set (own_rounds f r.place) at (round + 1) round
      ∙ set-get_or (own_rounds f r.place) at 0 in
      let arrived : HasArrived g r.place wait = record {
        round = ready.makeable.0;
        last = omega (arith, arrived-here f r.place at ready.job (has-place f.kinds at round ready.makeable.0));
      } in
      back-by f g r.place r.job.steps next (Arrive at) rest wait split refl refl (rw is row) ready.makeable rounds
      (λ barrier. arrived)

  -- of any step
  pub step-back : (step : Step) → drop next r.job.steps ≡ step ∷ rest
      → IsReady f r.place None (step ∷ rest) → HasRoom f r.place (take next r.job.steps) (step ∷ rest)
      → (p : Progress) → (after_step r next step s).stops ≡ Some p
      → IsBackIn (after_step r next step s).scene.floor r.place r.job.steps p
  step-back (Work turns) split ready room p stops =
      let same : p ≡ Working (next + 1) (r.turn + turns) = cc in rw same tt
  step-back (Give at) split ready room p stops = absurd (cc)
  step-back (Down at) split ready room p stops = absurd (cc)
  step-back (Take at) split ready room p stops = by (take_answer f at r.place) stops
    where
      by : (answer : FloorTake) → (after_coming next at 0 (on_take r at) answer s).stops ≡ Some p
          → IsBackIn (after_coming next at 0 (on_take r at) answer s).scene.floor r.place r.job.steps p
      by (Now element) is = absurd (cc)
      by (Waits number) is =
          let same : p ≡ Waiting (next + 1) at 0 number = cc in rw same (take-back at number split ready room.round)
  step-back (Await at) split ready room p stops = by (wait_answer f at) stops
    where
      by : (answer : FloorTake) → (after_coming next at 0 (on_wait r at) answer s).stops ≡ Some p
          → IsBackIn (after_coming next at 0 (on_wait r at) answer s).scene.floor r.place r.job.steps p
      by (Now element) is = absurd (cc)
      by (Waits number) is =
          let same : p ≡ Waiting (next + 1) at 0 number = cc in rw same (wait-back at number split ready room.round)
  step-back (Arrive at) split ready room p stops = by (arrive_answer f at r.place) stops
    where
      by : (answer : FloorTake)
          → (after_coming next at (round_of f r.place at) (on_arrive r at) answer s).stops ≡ Some p
          → IsBackIn (after_coming next at (round_of f r.place at) (on_arrive r at) answer s).scene.floor r.place
          r.job.steps p
      by (Now element) is = absurd (cc)
      by (Waits number) is =
          let same : p ≡ Waiting (next + 1) at (round_of f r.place at) number = cc in
          rw same (arrive-back at number split ready room.round)
