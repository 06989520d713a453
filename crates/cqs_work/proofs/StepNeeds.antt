-- What the next step of a worker's job needs, and that it is there.
use Rattle.std.proofs.Common.{◌≡◌, ℕ, suc, ◌+◌, ◌<◌, ◌≤◌, List, ◌∷◌, cond, Option, Some, None, take, drop, slice_get, count_by, refl, ap, subst, ◌∙◌, arith}
use Rattle.std.proofs.lemmas.List.{drop_more}
use Rattle.std.proofs.lemmas.List.Sums.{sum_by_push}
use Rattle.std.proofs.lemmas.Option.{get_or_from_slice_get}
use Rattle.cqs_core.proofs.Places.{get-below}
use Rattle.cqs_core.proofs.Histories.{take-next}
use Rattle.cqs_plan.specs.declared.plans.step.Step.{Step}
use Rattle.cqs_plan.specs.declared.plans.step.Step.TheVariants.{Take, Give, Down, Await, Arrive, Work}
use Rattle.cqs_plan.specs.declared.floors.answers.FloorTake.{FloorTake}
use Rattle.cqs_plan.specs.declared.floors.answers.FloorTake.TheVariants.{Now, Waits}
use Rattle.cqs_plan.specs.PlanSteps.{is_arrival, may_wait}
use Rattle.cqs_plan.specs.Floor.{PlainFloor, IsHoldable, IsLatch, IsHolding, round_of, room_at}
use Rattle.cqs_turns_report.specs.declared.actors.Actor.{Actor}
use Rattle.cqs_turns_report.specs.declared.states.Progress.TheVariants.{Stepping}
use Rattle.cqs_turns_report.specs.Ready.{IsReady}
use Rattle.cqs_turns_report.specs.Turns.{places_held}
use Rattle.cqs_turns_report.proofs.Moved.{MayWait, may-take, may-await, waits-cons}
use Rattle.cqs_turns_report.proofs.Readied.{can-give, holds-given}
use Rattle.cqs_floor_shared.specs.Shared.{Shared, kind_at}
use Rattle.cqs_floor_shared.specs.Calls.{board_waited, board_arrived, Waits as Waits_at, Arrives}
use Rattle.cqs_work.specs.Needs.{waits_in, parties_for, comes_to, IsProvided}
use Rattle.cqs_work.specs.Doing.{CanAct}
use Rattle.cqs_work.proofs.Parties.{comes-next}
use Rattle.cqs_work.proofs.Moving.{one-arrival}

pub drop-at : {X : Type 0} (xs : List X) (i : ℕ) (x : X) → slice_get xs i ≡ Some x → drop i xs ≡ x ∷ drop (i + 1) xs
drop-at xs i x got =
    drop_more xs i x (get-below xs i x got) ∙ ap (λ y. y ∷ drop (i + 1) xs) (get_or_from_slice_get xs i x x got)

-- the arrivals up to and with a step
pub made-count : (at : ℕ) (steps : List Step) (next : ℕ) (step : Step) → slice_get steps next ≡ Some step
    → count_by (is_arrival at) (take (next + 1) steps)
    ≡ count_by (is_arrival at) (take next steps) + cond {A = ℕ} (is_arrival at step) 1 0
made-count at steps next step got =
    let one_more : next + 1 ≡ suc next = omega arith in
    rw one_more (ap (count_by (is_arrival at)) (take-next steps next step got)
    ∙ sum_by_push (λ s. cond {A = ℕ} (is_arrival at s) 1 0) (take next steps) step)

-- what is needed is there
room-some : (at : ℕ) (step : Step) (rest : List Step) (room : ℕ) → MayWait at step → waits_in at (step ∷ rest) ≤ room
    → 0 < room
room-some at step rest room may enough =
    let one : cond {A = ℕ} (may_wait at step) 1 0 ≡ 1 = ap (λ b. cond {A = ℕ} b 1 0) may in
    omega (arith, enough, waits-cons at step rest, one)

pub party-some : (at first : ℕ) (rest : List Step) (parties : ℕ)
    → parties_for at first first (Arrive at ∷ rest) ≤ parties → 0 < parties
party-some at first rest parties enough =
    let comes : parties_for at first first (Arrive at ∷ rest) ≡ comes_to first first (count_by (is_arrival at) rest + 1)
    = ap (comes_to first first) (one-arrival at rest) in
    omega (arith, enough, comes, comes-next first (count_by (is_arrival at) rest))

module _ (a : Actor) (f : Shared) (next : ℕ) (step : Step) (can : CanAct a f (Stepping next))
    (its_step : slice_get a.job.now.steps next ≡ Some step) where
  abbrev rest : List Step
  rest = drop (next + 1) a.job.now.steps

  pub steps-split : drop next a.job.now.steps ≡ step ∷ rest
  steps-split = drop-at a.job.now.steps next step its_step

  pub step-ready : IsReady f.board a.place None (step ∷ rest)
  step-ready = subst (λ steps. IsReady f.board a.place None steps) steps-split can.stands.ready

  pub step-provided : IsProvided f a.place (step ∷ rest)
  step-provided = subst (IsProvided f a.place) steps-split can.provided

  pub step-room : (at : ℕ) → MayWait at step → 0 < room_at f.board at
  step-room at may = room-some at step rest (room_at f.board at) may (step-provided.room at)

  -- the job that made no arrival is in the rounds that the next step asks for
  pub rounds-kept : ((q : ℕ) → cond {A = ℕ} (is_arrival q step) 1 0 ≡ 0) → (b : PlainFloor)
      → ((q : ℕ) → round_of b a.place q ≡ round_of f.board a.place q) → (q : ℕ)
      → round_of b a.place q ≡ count_by (is_arrival q) (take (next + 1) a.job.now.steps)
  rounds-kept none b kept q =
      omega (arith, kept q, can.rounds q, made-count q a.job.now.steps next step its_step, none q)

-- the numbers of steps and turns stay small
pub next-small : (a : Actor) (f : Shared) (next : ℕ) (step : Step) → CanAct a f (Stepping next)
    → slice_get a.job.now.steps next ≡ Some step → next + 1 ≤ 64
next-small a f next step can its_step = omega (arith, get-below a.job.now.steps next step its_step, can.few_steps)

pub work-small : (a : Actor) (f : Shared) (next turns : ℕ) → CanAct a f (Stepping next)
    → slice_get a.job.now.steps next ≡ Some (Work turns) → a.turn + turns ≤ 41000
work-small a f next turns can its_step =
    let few : turns ≤ 1000 = (step-ready a f next (Work turns) can its_step).makeable.0 in
    omega (arith, few, can.turn)

-- what the calls of steps ask for
pub take-resource : (a : Actor) (f : Shared) (next at : ℕ) → CanAct a f (Stepping next)
    → slice_get a.job.now.steps next ≡ Some (Take at) → IsHoldable (kind_at f at)
take-resource a f next at can its_step = (step-ready a f next (Take at) can its_step).makeable.0

pub take-room : (a : Actor) (f : Shared) (next at : ℕ) → CanAct a f (Stepping next)
    → slice_get a.job.now.steps next ≡ Some (Take at) → 0 < room_at f.board at
take-room a f next at can its_step = step-room a f next (Take at) can its_step at (may-take at)

pub wait-resource : (a : Actor) (f : Shared) (next at : ℕ) → CanAct a f (Stepping next)
    → slice_get a.job.now.steps next ≡ Some (Await at) → IsLatch (kind_at f at)
wait-resource a f next at can its_step = (step-ready a f next (Await at) can its_step).makeable.0

pub wait-room : (a : Actor) (f : Shared) (next at : ℕ) → CanAct a f (Stepping next)
    → slice_get a.job.now.steps next ≡ Some (Await at) → 0 < room_at f.board at
wait-room a f next at can its_step = step-room a f next (Await at) can its_step at (may-await at)

pub down-resource : (a : Actor) (f : Shared) (next at : ℕ) → CanAct a f (Stepping next)
    → slice_get a.job.now.steps next ≡ Some (Down at) → IsLatch (kind_at f at)
down-resource a f next at can its_step = (step-ready a f next (Down at) can its_step).makeable.0

pub give-resource : (a : Actor) (f : Shared) (next at : ℕ) → CanAct a f (Stepping next)
    → slice_get a.job.now.steps next ≡ Some (Give at) → IsHoldable (kind_at f at)
give-resource a f next at can its_step =
    can-give f.board a.place at (drop (next + 1) a.job.now.steps) (step-ready a f next (Give at) can its_step)

pub give-holds : (a : Actor) (f : Shared) (next at : ℕ) → CanAct a f (Stepping next)
    → slice_get a.job.now.steps next ≡ Some (Give at) → IsHolding f.board at a.place
give-holds a f next at can its_step =
    holds-given f.board a.place at (drop (next + 1) a.job.now.steps) (step-ready a f next (Give at) can its_step)

-- nothing is held of a latch or a barrier
wait-held-by : (b : PlainFloor) (place at : ℕ) (got : Option FloorTake)
    → places_held (board_waited b at place got) place ≡ places_held b place
wait-held-by b place at (Some (Now element)) = refl
wait-held-by b place at (Some (Waits number)) = refl
wait-held-by b place at None = refl

pub wait-held : (f g : Shared) (a : Actor) (at : ℕ) (got : Option FloorTake) → Waits_at f at a.place got g
    → places_held g.board a.place ≡ places_held f.board a.place
wait-held f g a at got comes = ap (λ b. places_held b a.place) comes.board ∙ wait-held-by f.board a.place at got

arrive-held-by : (b : PlainFloor) (place at : ℕ) (got : Option FloorTake)
    → places_held (board_arrived b at place got) place ≡ places_held b place
arrive-held-by b place at (Some (Now element)) = refl
arrive-held-by b place at (Some (Waits number)) = refl
arrive-held-by b place at None = refl

pub arrive-held : (f g : Shared) (a : Actor) (at : ℕ) (got : Option FloorTake) → Arrives f at a.place got g
    → places_held g.board a.place ≡ places_held f.board a.place
arrive-held f g a at got comes = ap (λ b. places_held b a.place) comes.board ∙ arrive-held-by f.board a.place at got
