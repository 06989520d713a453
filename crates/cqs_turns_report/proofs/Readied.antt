-- What keeps a job ready: after each call of the floor it can go on with the steps that are left.
use Rattle.std.proofs.Common.{◌≡◌, ℕ, ◌+◌, ◌-◌, length, List, [], ◌∷◌, ◌++◌, Bool, true, false, Option, Some, None, map, get_or, slice_get, drop, refl, sym, ap, ◌∙◌, subst, arith}
use Rattle.std.specs.Bool.{if◌then◌else◌}
use Rattle.std.proofs.lemmas.List.{map-append, get_or-set_same, length-set}
use Rattle.cqs_core.specs.Keyed.{without}
use Rattle.cqs_plan.specs.declared.plans.step.Step.{Step}
use Rattle.cqs_plan.specs.declared.plans.step.Step.TheVariants.{Take, Give, Down, Await, Arrive}
use Rattle.cqs_plan.specs.declared.floors.answers.FloorTake.{FloorTake}
use Rattle.cqs_plan.specs.declared.floors.answers.FloorTake.TheVariants.{Now, Waits}
use Rattle.cqs_plan.specs.declared.floors.answers.FloorGive.{FloorGive}
use Rattle.cqs_plan.specs.declared.floors.answers.FloorGive.TheVariants.{Free, Sent}
use Rattle.cqs_plan.specs.declared.floors.answers.FloorLook.TheVariants.{Granted}
use Rattle.cqs_plan.specs.declared.floors.answers.FloorLeave.{FloorLeave}
use Rattle.cqs_plan.specs.declared.floors.answers.FloorLeave.TheVariants.{Gone, Late}
use Rattle.cqs_plan.specs.declared.floors.answers.FloorDown.{FloorDown}
use Rattle.cqs_plan.specs.declared.floors.answers.FloorDown.TheVariants.{Left, Last, Already}
use Rattle.cqs_plan.specs.declared.plans.resource.Resource.{Resource}
use Rattle.cqs_plan.specs.Floor.{PlainFloor, JobWait, Holding, IsJob, IsHoldable, IsHolding, is_holdable, wait_of, holds_of, own_rounds, round_of, with_done_in, with_wait, with_newest, with_came, without_oldest}
use Rattle.cqs_plan.specs.FloorHistory.{Deed, gets, is_late, joins, completes}
use Rattle.cqs_plan.specs.FloorCalls.{after_take, after_give, after_look, after_leave, after_down, after_wait, after_arrive, with_arrival, with_granted, with_left}
use Rattle.cqs_plan.specs.Runnable.{kinds_of}
use Rattle.cqs_turns_report.specs.Ready.{IsReady, IsBack, AreHoldable, CanMake, coming, is_holdable_in, row_back, rounds_next, with_place}
use Rattle.cqs_turns_report.specs.Roles.{is_holdable_at, left_with}
use Rattle.cqs_turns_report.specs.Turns.{places_held}
use Rattle.cqs_turns_report.proofs.Held.{oldest-there, map-without, without-head}
use Rattle.cqs_turns_report.proofs.ArrivalMoves.{arrived-own}
use Rattle.cqs_turns_report.proofs.Leaving.{left-job, own-back}
use Rattle.cqs_turns_report.proofs.HoldablePlaces.{held-kind, holdable-at, holdable-less, holdable-push, holdable-same, holdable-without, latch-kind, round-kind}

-- a job that can give has what it gives
pub can-give : (f : PlainFloor) (place at : ℕ) (steps : List Step) → IsReady f place None (Give at ∷ steps)
    → IsHoldable (slice_get f.kinds at)
can-give f place at steps ready = holdable-at f.kinds at (places_held f place) ready.makeable.0 ready.holdable

pub holds-given : (f : PlainFloor) (place at : ℕ) (steps : List Step) → IsReady f place None (Give at ∷ steps)
    → IsHolding f at place
holds-given f place at steps ready = oldest-there at (holds_of f place) ready.makeable.0

-- what the job holds after a call
places-newest : (f : PlainFloor) (place at element : ℕ) → IsJob f place
    → places_held (with_newest f place at element) place ≡ places_held f place ++ at ∷ []
places-newest f place at element job =
    let newest : Holding = record { at = at; element = element } in
    ap (map (λ h. h.at)) (get_or-set_same f.holds place (holds_of f place ++ newest ∷ []) [] job.holds)
    ∙ map-append (λ h. h.at) (holds_of f place) (newest ∷ [])

-- what came is held where it can be
places-came : (f : PlainFloor) (place at element : ℕ) → IsJob f place
    → places_held (with_came f place at element) place ≡ with_place (is_holdable f at) (places_held f place) at
places-came f place at element job = go (is_holdable f at)
  where
    go : (b : Bool)
        → places_held (if b then with_newest f place at element else f) place ≡ with_place b (places_held f place) at
    go true = places-newest f place at element job
    go false = refl

-- of what came nothing but what is held changes
record Keeps (f g : PlainFloor) : Type 0 where
  kinds : g.kinds ≡ f.kinds
  waits : g.waits ≡ f.waits
  rounds : g.rounds ≡ f.rounds
  holds : length g.holds ≡ length f.holds

came-keeps : (f : PlainFloor) (place at element : ℕ) → Keeps f (with_came f place at element)
came-keeps f place at element = go (is_holdable f at)
  where
    go : (b : Bool) → Keeps f (if b then with_newest f place at element else f)
    go true = record {
      kinds = refl;
      waits = refl;
      rounds = refl;
      holds = length-set f.holds place (holds_of f place ++ record { at = at; element = element } ∷ []);
    }
    go false = record { kinds = refl; waits = refl; rounds = refl; holds = refl }

places-without : (f : PlainFloor) (place at : ℕ) → IsJob f place
    → places_held (without_oldest f place at) place ≡ without (λ p. p) at (places_held f place)
places-without f place at job =
    ap (map (λ h. h.at)) (get_or-set_same f.holds place (without (λ h. h.at) at (holds_of f place)) [] job.holds)
    ∙ map-without at (holds_of f place)

ready-at : (g : PlainFloor) (place : ℕ) (wait : Option JobWait) (steps : List Step) (held rounds : List ℕ)
    → IsJob g place
    → wait_of g place ≡ wait → coming g.kinds (places_held g place) wait ≡ held → own_rounds g place ≡ rounds
    → AreHoldable g.kinds held
    → CanMake g.kinds held rounds steps → IsReady g place wait steps
ready-at g place wait steps held rounds job waits same same_rounds holdable makeable =
    record { job = job; waits = waits; holdable = rw same holdable; makeable = rw (same, same_rounds) makeable }

-- a job stays ready where its steps are no more
pub ready-to-end : (f : PlainFloor) (place : ℕ) (wait : Option JobWait) (steps : List Step)
    → IsReady f place wait steps → IsReady f place wait []
ready-to-end f place wait steps ready =
    record { job = ready.job; waits = ready.waits; holdable = ready.holdable; makeable = tt }

pub on_take-ready : (f : PlainFloor) (place at element : ℕ) (steps : List Step)
    → IsReady f place None (Take at ∷ steps) → IsReady (after_take f at place (Now element)) place None steps
on_take-ready f place at element steps ready =
    let g : PlainFloor = after_take f at place (Now element) in
    let newest : Holding = record { at = at; element = element } in
    let job : IsJob g place = record {
      waits = ready.job.waits;
      holds = omega (arith, ready.job.holds, length-set f.holds place (holds_of f place ++ newest ∷ []));
      rounds = ready.job.rounds;
      each = ready.job.each;
    } in
    ready-at g place None steps (places_held f place ++ at ∷ []) (own_rounds f place) job ready.waits
    (places-newest f place at element ready.job) refl
    (holdable-push f.kinds (places_held f place) at ready.holdable ready.makeable.0) ready.makeable.1

-- the job waits, and holds and arrives as before
waits-job : (f : PlainFloor) (place : ℕ) (wait : Option JobWait) → IsJob f place → IsJob (with_wait f place wait) place
waits-job f place wait job = record {
  waits = omega (arith, job.waits, length-set f.waits place wait);
  holds = job.holds;
  rounds = job.rounds;
  each = job.each;
}

pub waiting-ready : (f : PlainFloor) (place at number : ℕ) (steps : List Step)
    → IsReady f place None (Take at ∷ steps)
    → IsReady (after_take f at place (Waits number)) place
    (Some (record { at = at; round = 0; number = number })) steps
waiting-ready f place at number steps ready =
    let g : PlainFloor = after_take f at place (Waits number) in
    let wait : Option JobWait = Some (record { at = at; round = 0; number = number }) in
    let job : IsJob g place = record {
      waits = omega (arith, ready.job.waits, length-set f.waits place wait);
      holds = ready.job.holds;
      rounds = ready.job.rounds;
      each = ready.job.each;
    } in
    let held : is_holdable_in f.kinds at ≡ true = held-kind (slice_get f.kinds at) ready.makeable.0 in
    ready-at g place wait steps (places_held f place ++ at ∷ []) (own_rounds f place) job
    (get_or-set_same f.waits place wait None ready.job.waits) (rw held refl) refl
    (holdable-push f.kinds (places_held f place) at ready.holdable ready.makeable.0) ready.makeable.1

-- a latch: a count down, one who passes, and one who waits
pub on_down-ready : (f : PlainFloor) (place at : ℕ) (answer : FloorDown) (steps : List Step)
    → IsReady f place None (Down at ∷ steps) → IsReady (after_down f at answer) place None steps
on_down-ready f place at (Left n) steps ready = record {
  job = record {
    waits = ready.job.waits;
    holds = ready.job.holds;
    rounds = ready.job.rounds;
    each = ready.job.each;
  };
  waits = ready.waits;
  holdable = ready.holdable;
  makeable = ready.makeable.1;
}
on_down-ready f place at Last steps ready = record {
  job = record {
    waits = ready.job.waits;
    holds = ready.job.holds;
    rounds = ready.job.rounds;
    each = ready.job.each;
  };
  waits = ready.waits;
  holdable = ready.holdable;
  makeable = ready.makeable.1;
}
on_down-ready f place at Already steps ready = record {
  job = record {
    waits = ready.job.waits;
    holds = ready.job.holds;
    rounds = ready.job.rounds;
    each = ready.job.each;
  };
  waits = ready.waits;
  holdable = ready.holdable;
  makeable = ready.makeable.1;
}

-- a count down changes nothing of what is held
pub on_down-held : (f : PlainFloor) (place at : ℕ) (answer : FloorDown)
    → places_held (after_down f at answer) place ≡ places_held f place
on_down-held f place at (Left n) = refl
on_down-held f place at Last = refl
on_down-held f place at Already = refl

pub on_pass-ready : (f : PlainFloor) (place at element : ℕ) (steps : List Step)
    → IsReady f place None (Await at ∷ steps) → IsReady (after_wait f at place (Now element)) place None steps
on_pass-ready f place at element steps ready = record {
  job = record {
    waits = ready.job.waits;
    holds = ready.job.holds;
    rounds = ready.job.rounds;
    each = ready.job.each;
  };
  waits = ready.waits;
  holdable = ready.holdable;
  makeable = ready.makeable.1;
}

pub on_wait-ready : (f : PlainFloor) (place at number : ℕ) (steps : List Step)
    → IsReady f place None (Await at ∷ steps)
    → IsReady (after_wait f at place (Waits number)) place
    (Some (record { at = at; round = 0; number = number })) steps
on_wait-ready f place at number steps ready =
    let g : PlainFloor = after_wait f at place (Waits number) in
    let wait : Option JobWait = Some (record { at = at; round = 0; number = number }) in
    let job : IsJob g place = record {
      waits = omega (arith, ready.job.waits, length-set f.waits place wait);
      holds = ready.job.holds;
      rounds = ready.job.rounds;
      each = ready.job.each;
    } in
    let held : is_holdable_in f.kinds at ≡ false = latch-kind (slice_get f.kinds at) ready.makeable.0 in
    ready-at g place wait steps (places_held f place) (own_rounds f place) job
    (get_or-set_same f.waits place wait None ready.job.waits) (rw held refl) refl
    ready.holdable ready.makeable.1

pub on_wait-held : (f : PlainFloor) (place at : ℕ) (answer : FloorTake)
    → places_held (after_wait f at place answer) place ≡ places_held f place
on_wait-held f place at (Now element) = refl
on_wait-held f place at (Waits number) = refl

-- a barrier: one who arrives is in its next round
arrival-job : (f : PlainFloor) (place at : ℕ) (deed : Deed) → IsJob f place → IsJob (with_arrival f at place deed) place
arrival-job f place at deed job = record {
  waits = job.waits;
  holds = job.holds;
  rounds = omega (arith, job.rounds, length-set f.rounds place (rounds_next (own_rounds f place) (Arrive at)));
  each = ap length (arrived-own f place at job)
      ∙ length-set (own_rounds f place) at (round_of f place at + 1) ∙ job.each;
}

pub on_last-ready : (f : PlainFloor) (place at element : ℕ) (steps : List Step)
    → IsReady f place None (Arrive at ∷ steps) → IsReady (after_arrive f at place (Now element)) place None steps
on_last-ready f place at element steps ready =
    let g : PlainFloor = after_arrive f at place (Now element) in
    ready-at g place None steps (places_held f place) (rounds_next (own_rounds f place) (Arrive at))
    (arrival-job f place at completes ready.job) ready.waits refl (arrived-own f place at ready.job)
    ready.holdable ready.makeable.1

pub on_arrive-ready : (f : PlainFloor) (place at number : ℕ) (steps : List Step)
    → IsReady f place None (Arrive at ∷ steps)
    → IsReady (after_arrive f at place (Waits number)) place
    (Some (record { at = at; round = round_of f place at; number = number })) steps
on_arrive-ready f place at number steps ready =
    let g : PlainFloor = after_arrive f at place (Waits number) in
    let wait : Option JobWait = Some (record { at = at; round = round_of f place at; number = number }) in
    let held : is_holdable_in f.kinds at ≡ false
    = round-kind (slice_get f.kinds at) (round_of f place at) ready.makeable.0 in
    ready-at g place wait steps (places_held f place) (rounds_next (own_rounds f place) (Arrive at))
    (waits-job (with_arrival f at place (joins number)) place wait
    (arrival-job f place at (joins number) ready.job))
    (get_or-set_same f.waits place wait None ready.job.waits) (rw held refl) (arrived-own f place at ready.job)
    ready.holdable ready.makeable.1

pub on_arrive-held : (f : PlainFloor) (place at : ℕ) (answer : FloorTake)
    → places_held (after_arrive f at place answer) place ≡ places_held f place
on_arrive-held f place at (Now element) = refl
on_arrive-held f place at (Waits number) = refl

-- what a give leaves, where the job could give
on_give-held : (f : PlainFloor) (place at : ℕ) (answer : FloorGive) → IsJob f place
    → places_held (after_give f at place answer) place ≡ without (λ p. p) at (places_held f place)
on_give-held f place at (Free element) job = places-without f place at job
on_give-held f place at (Sent element number) job = places-without f place at job

on_give-job : (f : PlainFloor) (place at : ℕ) (answer : FloorGive) → IsJob f place
    → IsJob (after_give f at place answer) place
on_give-job f place at (Free element) job = record {
  waits = job.waits;
  holds = omega (arith, job.holds, length-set f.holds place (without (λ h. h.at) at (holds_of f place)));
  rounds = job.rounds;
  each = job.each;
}
on_give-job f place at (Sent element number) job = record {
  waits = job.waits;
  holds = omega (arith, job.holds, length-set f.holds place (without (λ h. h.at) at (holds_of f place)));
  rounds = job.rounds;
  each = job.each;
}

-- what the job holds, as the code and the floor have it, after a give
pub on_give-left : (f g : PlainFloor) (place at : ℕ) (answer : FloorGive) (held left : List ℕ) → IsJob f place
    → held ≡ places_held f place → left ≡ without (λ p. p) at held → g ≡ after_give f at place answer
    → left ≡ places_held g place
on_give-left f g place at answer held left job before fewer after =
    fewer ∙ ap (without (λ p. p) at) before ∙ sym (on_give-held f place at answer job)
    ∙ ap (λ h. places_held h place) (sym after)

on_give-kinds : (f : PlainFloor) (place at : ℕ) (answer : FloorGive) → (after_give f at place answer).kinds ≡ f.kinds
on_give-kinds f place at (Free element) = refl
on_give-kinds f place at (Sent element number) = refl

on_give-waits : (f : PlainFloor) (place at : ℕ) (answer : FloorGive) → (after_give f at place answer).waits ≡ f.waits
on_give-waits f place at (Free element) = refl
on_give-waits f place at (Sent element number) = refl

on_give-rounds : (f : PlainFloor) (place at : ℕ) (answer : FloorGive) → (after_give f at place answer).rounds ≡ f.rounds
on_give-rounds f place at (Free element) = refl
on_give-rounds f place at (Sent element number) = refl

pub on_give-ready : (f : PlainFloor) (place at : ℕ) (answer : FloorGive) (steps : List Step)
    → IsReady f place None (Give at ∷ steps) → IsReady (after_give f at place answer) place None steps
on_give-ready f place at answer steps ready =
    let g : PlainFloor = after_give f at place answer in
    let rest : List ℕ = without (λ p. p) at (places_held f place) in
    ready-at g place None steps rest (own_rounds f place) (on_give-job f place at answer ready.job)
    (ap (λ waits. get_or waits place None) (on_give-waits f place at answer) ∙ ready.waits)
    (on_give-held f place at answer ready.job)
    (ap (λ rounds. get_or rounds place []) (on_give-rounds f place at answer))
    (rw (on_give-kinds f place at answer) (holdable-without f.kinds at (places_held f place) ready.holdable))
    (rw (on_give-kinds f place at answer) ready.makeable.1)

-- a job gives back the oldest of all
pub first-given : (f : PlainFloor) (place at : ℕ) (rest : List ℕ) (answer : FloorGive) → IsJob f place
    → places_held f place ≡ at ∷ rest → places_held (after_give f at place answer) place ≡ rest
first-given f place at rest answer job first =
    on_give-held f place at answer job ∙ ap (without (λ p. p) at) first ∙ without-head at rest

pub first-ready : (f : PlainFloor) (place at : ℕ) (answer : FloorGive)
    → IsReady f place None [] → IsReady (after_give f at place answer) place None []
first-ready f place at answer ready =
    let g : PlainFloor = after_give f at place answer in
    let rest : List ℕ = without (λ p. p) at (places_held f place) in
    ready-at g place None [] rest (own_rounds f place) (on_give-job f place at answer ready.job)
    (ap (λ waits. get_or waits place None) (on_give-waits f place at answer) ∙ ready.waits)
    (on_give-held f place at answer ready.job)
    (ap (λ rounds. get_or rounds place []) (on_give-rounds f place at answer))
    (rw (on_give-kinds f place at answer) (holdable-without f.kinds at (places_held f place) ready.holdable))
    tt

-- what was waited for came
came-ready : (f : PlainFloor) (place : ℕ) (deed : ℕ → ℕ → Deed) (wait : JobWait)
    (element : ℕ) (steps : List Step)
    → IsReady f place (Some wait) steps → IsReady (with_granted f place deed (Some wait) element) place None steps
came-ready f place deed wait element steps ready =
    let over : PlainFloor = with_wait (with_done_in f wait.at wait.round (deed wait.number element)) place None in
    let g : PlainFloor = with_came over place wait.at element in
    let keeps : Keeps over g = came-keeps over place wait.at element in
    let own_over : IsJob over place =
    waits-job (with_done_in f wait.at wait.round (deed wait.number element)) place None (record {
      waits = ready.job.waits;
      holds = ready.job.holds;
      rounds = ready.job.rounds;
      each = ready.job.each;
    }) in
    let job : IsJob g place = record {
      waits = rw keeps.waits own_over.waits;
      holds = omega (arith, keeps.holds, own_over.holds);
      rounds = rw keeps.rounds own_over.rounds;
      each = rw (keeps.rounds, keeps.kinds) own_over.each;
    } in
    ready-at g place None steps (coming f.kinds (places_held f place) (Some wait)) (own_rounds f place) job
    (ap (λ waits. get_or waits place None) keeps.waits
    ∙ get_or-set_same f.waits place None None ready.job.waits)
    (places-came over place wait.at element own_over)
    (ap (λ rounds. get_or rounds place []) keeps.rounds) (rw keeps.kinds ready.holdable) (rw keeps.kinds ready.makeable)

granted-ready : (f : PlainFloor) (place : ℕ) (deed : ℕ → ℕ → Deed) (wait : JobWait) (element : ℕ)
    (steps : List Step)
    → IsReady f place (Some wait) steps
    → IsReady (with_granted f place deed (wait_of f place) element) place None steps
granted-ready f place deed wait element steps ready =
    let Goes : Option JobWait → Type 0 = λ o. IsReady (with_granted f place deed o element) place None steps in
    subst Goes (sym ready.waits) (came-ready f place deed wait element steps ready)

pub after_looking-ready : (f : PlainFloor) (place : ℕ) (wait : JobWait) (element : ℕ) (steps : List Step)
    → IsReady f place (Some wait) steps → IsReady (after_look f place (Granted element)) place None steps
after_looking-ready f place wait element steps ready =
    granted-ready f place gets wait element steps ready

went-ready : (f : PlainFloor) (place : ℕ) (wait : JobWait) (steps : List Step)
    → IsReady f place (Some wait) steps → IsReady (with_left f place (Some wait)) place None []
went-ready f place wait steps ready =
    let g : PlainFloor = with_left f place (Some wait) in
    ready-at g place None [] (places_held f place) (own_rounds g place) (left-job f place wait ready.job)
    (get_or-set_same f.waits place None None ready.job.waits) refl refl
    (holdable-less f.kinds (places_held f place) wait.at (is_holdable_in f.kinds wait.at) ready.holdable) tt

-- a job whose wait is gone can make the step again at which it waited
pub retry-ready : (f : PlainFloor) (place : ℕ) (wait : JobWait) (next : ℕ) (whole steps : List Step)
    → IsReady f place (Some wait) steps → IsBack f place whole next wait
    → IsReady (after_leave f place Gone) place None (drop (next - 1) whole)
retry-ready f place wait next whole steps ready back =
    let g : PlainFloor = with_left f place (Some wait) in
    let Goes : Option JobWait → Type 0 = λ o. IsReady (with_left f place o) place None (drop (next - 1) whole) in
    subst Goes (sym ready.waits)
    (ready-at g place None (drop (next - 1) whole) (places_held f place)
    (row_back f.kinds (own_rounds f place) wait) (left-job f place wait ready.job)
    (get_or-set_same f.waits place None None ready.job.waits) refl (own-back f place wait ready.job)
    (holdable-less f.kinds (places_held f place) wait.at (is_holdable_in f.kinds wait.at) ready.holdable)
    back.makeable)

-- a job that left the line, or was late, can give back all that it holds
pub leave-ready : (f : PlainFloor) (place : ℕ) (wait : JobWait) (answer : FloorLeave) (steps : List Step)
    → IsReady f place (Some wait) steps → IsReady (after_leave f place answer) place None []
leave-ready f place wait Gone steps ready =
    let Goes : Option JobWait → Type 0 = λ o. IsReady (with_left f place o) place None [] in
    subst Goes (sym ready.waits) (went-ready f place wait steps ready)
leave-ready f place wait (Late element) steps ready =
    ready-to-end _ place None steps (granted-ready f place is_late wait element steps ready)

-- what a job holds whose wait is over
granted-held : (f : PlainFloor) (place : ℕ) (deed : ℕ → ℕ → Deed) (wait : JobWait) (element : ℕ)
    → IsJob f place → wait_of f place ≡ Some wait
    → places_held (with_granted f place deed (wait_of f place) element) place
    ≡ with_place (is_holdable_in f.kinds wait.at) (places_held f place) wait.at
granted-held f place deed wait element job waits =
    let Holds : Option JobWait → Type 0 = λ o.
    places_held (with_granted f place deed o element) place
    ≡ with_place (is_holdable_in f.kinds wait.at) (places_held f place) wait.at in
    let over : PlainFloor = with_wait (with_done_in f wait.at wait.round (deed wait.number element)) place None in
    let own_over : IsJob over place =
    waits-job (with_done_in f wait.at wait.round (deed wait.number element)) place None (record {
      waits = job.waits;
      holds = job.holds;
      rounds = job.rounds;
      each = job.each;
    }) in
    subst Holds (sym waits) (places-came over place wait.at element own_over)

-- of a look, by the plan's resources
pub look-held : (f : PlainFloor) (resources : List Resource) (place : ℕ) (wait : JobWait) (element : ℕ)
    → f.kinds ≡ kinds_of resources → IsJob f place → wait_of f place ≡ Some wait
    → places_held (after_look f place (Granted element)) place
    ≡ with_place (is_holdable_at resources wait.at) (places_held f place) wait.at
look-held f resources place wait element same job waits =
    granted-held f place gets wait element job waits
    ∙ ap (λ b. with_place b (places_held f place) wait.at) (holdable-same f.kinds resources wait.at same)

-- and of a leave
pub leave-held : (f : PlainFloor) (resources : List Resource) (place : ℕ) (wait : JobWait) (answer : FloorLeave)
    → f.kinds ≡ kinds_of resources → IsJob f place → wait_of f place ≡ Some wait
    → places_held (after_leave f place answer) place ≡ left_with resources (places_held f place) wait.at answer
leave-held f resources place wait Gone same job waits =
    let Holds : Option JobWait → Type 0 = λ o. places_held (with_left f place o) place ≡ places_held f place in
    subst Holds (sym waits) refl
leave-held f resources place wait (Late element) same job waits =
    granted-held f place is_late wait element job waits
    ∙ ap (λ b. with_place b (places_held f place) wait.at) (holdable-same f.kinds resources wait.at same)
