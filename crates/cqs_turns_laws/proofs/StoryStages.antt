-- What a job holds at each stage of its story, and how far the machine has it then.
use Rattle.std.proofs.Common.{◌≡◌, ◌⊎◌, inl, inr, ℕ, zero, suc, ◌+◌, ◌<◌, ◌≤◌, List, [], ◌∷◌, ◌++◌, Bool, true, false, ◌&&◌, ◌||◌, not, nat_lt, cond, Option, Some, None, length, map, drop, slice_get, refl, sym, ap, subst, ◌∙◌, eqb-true, leb-true, leb-false, ltb-true, ltb-false, arith}
use Rattle.std.specs.Option.{option_map, option_map_or}
use Rattle.std.proofs.lemmas.Bool.{cases_lt, or_parts}
use Rattle.std.proofs.lemmas.List.Sums.{sum_by_push}
use Rattle.std.proofs.lemmas.List.{drop-drop, get_or-set_same, map-append}
use Rattle.cqs_core.proofs.Places.{get-drop}
use Rattle.cqs_plan.specs.declared.plans.job.Job.{Job}
use Rattle.cqs_plan.specs.declared.plans.step.Step.{Step}
use Rattle.cqs_plan.specs.declared.plans.step.Step.TheVariants.{Take, Give, Down, Await, Arrive, Work}
use Rattle.cqs_plan.specs.declared.floors.answers.FloorTake.TheVariants.{Now}
use Rattle.cqs_plan.specs.declared.floors.answers.FloorGive.{FloorGive}
use Rattle.cqs_plan.specs.declared.floors.answers.FloorGive.TheVariants.{Free, Sent}
use Rattle.cqs_plan.specs.declared.floors.answers.FloorDown.{FloorDown}
use Rattle.cqs_plan.specs.declared.floors.answers.FloorDown.TheVariants.{Left, Last, Already}
use Rattle.cqs_plan.specs.declared.floors.answers.FloorLeave.{FloorLeave}
use Rattle.cqs_plan.specs.declared.floors.answers.FloorLeave.TheVariants as leave
use Rattle.cqs_plan.specs.PlanSteps.{may_wait}
use Rattle.cqs_plan.specs.Floor.{PlainFloor, Holding, IsJob, IsLatch, HasRound, holds_of}
use Rattle.cqs_plan.specs.Language.{can_hold}
use Rattle.cqs_plan.specs.declared.plans.kind.Kind.{Kind}
use Rattle.cqs_plan.specs.declared.plans.kind.Kind.TheVariants as kind
use Rattle.cqs_plan.specs.declared.plans.resource.Resource.{Resource}
use Rattle.cqs_plan.specs.FloorCalls.{after_take}
use Rattle.cqs_plan.specs.Runnable.{IsMakeable, kinds_of}
use Rattle.cqs_turns_report.specs.declared.states.End.TheVariants as end
use Rattle.cqs_turns_report.specs.declared.lines.Told.{Told}
use Rattle.cqs_turns_report.specs.declared.states.Patience.{Patience}
use Rattle.cqs_turns_report.specs.declared.states.Progress.{Progress}
use Rattle.cqs_turns_report.specs.declared.states.Progress.TheVariants.{Stepping, Working, Waiting, Ended}
use Rattle.cqs_turns_report.specs.Ready.{held_next, is_holdable_in, with_place}
use Rattle.cqs_turns_report.specs.Roles.{is_holdable_at, left_with}
use Rattle.cqs_turns_report.specs.Turns.{Role, give_told, down_told, is_due, is_outwaited, is_over_time, may_retry, end_of, places_held}
use Rattle.cqs_turns_report.proofs.HoldablePlaces.{held-kind, holdable-same}
use Rattle.cqs_turns_laws.specs.Stories.{Story, TellsOf, Stage, AtStep, InWait, Closing, Over, GoesOn, CountsAs, IsDue, IsInTime, IsOutwaited, MayWaitOn, is_retry, lasts, retries_in}
use Rattle.cqs_turns_laws.specs.Events.{Line}
use Rattle.cqs_turns_laws.specs.Stories as story

-- what is told of a give, and of a count down
pub give-tells : (at : ℕ) (answer : FloorGive) → TellsOf (Give at) (give_told at answer)
give-tells at (Free element) = story.gives_free at element
give-tells at (Sent element number) = story.gives_sent at element number

pub down-tells : (at : ℕ) (answer : FloorDown) → TellsOf (Down at) (down_told at answer)
down-tells at (Left left) = story.downs_left at left
down-tells at Last = story.downs_open at
down-tells at Already = story.downs_already at

-- what a job holds at a stage
abbrev pub held_at : Stage → List ℕ
held_at (AtStep next from held) = held
held_at (InWait next at round number since held) = held
held_at (Closing end turn held) = held
held_at (Over end) = []

-- how far the machine has a job that is at this stage of its story, before its turn, and since when it waits
abbrev pub IsAt : Job → ℕ → ℕ → Progress → Stage → Type 0
IsAt job turn moved (Stepping next) stage = (held : List ℕ) × (stage ≡ AtStep next turn held)
IsAt job turn moved (Working next until) stage =
    (from : ℕ) × (held : List ℕ) × (stage ≡ AtStep next from held) × (until ≤ turn → from ≡ turn)
    × (turn ≤ until → from ≡ until)
IsAt job turn moved (Waiting next at round number) stage =
    (index since : ℕ) × (held : List ℕ) × (step : Step) × (next ≡ index + 1)
    × (slice_get job.steps index ≡ Some step) × (may_wait at step ≡ true)
    × (stage ≡ InWait index at round number since held) × (since < turn)
    × MayWaitOn turn job since × (moved ≡ since)
IsAt job turn moved (Ended end) stage = stage ≡ Over end

pub counts-as : (job : Job) (turn moved : ℕ) (p : Progress) (stage : Stage) → IsAt job turn moved p stage
    → CountsAs turn job p stage
counts-as job turn moved (Stepping next) stage at = subst (GoesOn turn job) (sym at.1) (omega arith)
counts-as job turn moved (Working next until) stage at =
    subst (GoesOn turn job) (sym at.2) (by (cases_lt turn until))
  where
    by : (turn < until) ⊎ (until ≤ turn) → turn ≤ at.0
    by (inl below) = omega (arith, below, at.4 (omega (arith, below)))
    by (inr past) = omega (arith, at.3 past)
counts-as job turn moved (Waiting next place round number) stage at = subst (GoesOn turn job) (sym at.7) at.9
counts-as job turn moved (Ended end) stage at = at

-- what can be held, by its kind
latch-unheld : (k : Option Kind) → IsLatch k → option_map_or can_hold k false ≡ false
latch-unheld None latch = absurd latch
latch-unheld (Some (kind.Semaphore permits)) latch = absurd latch
latch-unheld (Some kind.Mutex) latch = absurd latch
latch-unheld (Some (kind.Pool elements)) latch = absurd latch
latch-unheld (Some (kind.Latch count)) latch = refl
latch-unheld (Some (kind.Rounds parties rounds)) latch = absurd latch

round-unheld : (k : Option Kind) (round : ℕ) → HasRound k round → option_map_or can_hold k false ≡ false
round-unheld None round has = absurd has
round-unheld (Some (kind.Semaphore permits)) round has = absurd has
round-unheld (Some kind.Mutex) round has = absurd has
round-unheld (Some (kind.Pool elements)) round has = absurd has
round-unheld (Some (kind.Latch count)) round has = absurd has
round-unheld (Some (kind.Rounds parties rounds)) round has = refl

-- what a job holds whose wait was served has the step's own, if that can be held
pub came-held : (resources : List Resource) (at : ℕ) (step : Step) (Holds : ℕ → Type 0) (round : ℕ → ℕ)
    (held : List ℕ) → may_wait at step ≡ true → IsMakeable (kinds_of resources) Holds round step
    → with_place (is_holdable_at resources at) held at ≡ held_next held step
came-held resources at (Take place) Holds round held may able =
    let here : place ≡ at = eqb-true place at may in
    let kind_is : is_holdable_in (kinds_of resources) at ≡ true
    = held-kind (slice_get (kinds_of resources) at) (rw here at able) in
    let own : is_holdable_at resources at ≡ true
    = sym (holdable-same (kinds_of resources) resources at refl) ∙ kind_is in
    rw (here, own) refl
came-held resources at (Await place) Holds round held may able =
    let here : place ≡ at = eqb-true place at may in
    let kind_is : is_holdable_in (kinds_of resources) at ≡ false
    = latch-unheld (slice_get (kinds_of resources) at) (rw here at able) in
    let own : is_holdable_at resources at ≡ false
    = sym (holdable-same (kinds_of resources) resources at refl) ∙ kind_is in
    rw own refl
came-held resources at (Arrive place) Holds round held may able =
    let here : place ≡ at = eqb-true place at may in
    let kind_is : is_holdable_in (kinds_of resources) at ≡ false
    = round-unheld (slice_get (kinds_of resources) at) (round at) (rw here at able) in
    let own : is_holdable_at resources at ≡ false
    = sym (holdable-same (kinds_of resources) resources at refl) ∙ kind_is in
    rw own refl
came-held resources at (Give place) Holds round held may able = absurd (cc)
came-held resources at (Down place) Holds round held may able = absurd (cc)
came-held resources at (Work turns) Holds round held may able = absurd (cc)

-- what a job holds that left its wait
abbrev pub held_left : List ℕ → Step → FloorLeave → List ℕ
held_left held step leave.Gone = held
held_left held step (leave.Late element) = held_next held step

pub left-held : (resources : List Resource) (at : ℕ) (step : Step) (held : List ℕ) (answer : FloorLeave)
    → with_place (is_holdable_at resources at) held at ≡ held_next held step
    → left_with resources held at answer ≡ held_left held step answer
left-held resources at step held leave.Gone same = refl
left-held resources at step held (leave.Late element) same = same

-- what a job holds that takes
pub take-held : (f : PlainFloor) (place at element : ℕ) → IsJob f place
    → places_held (after_take f at place (Now element)) place ≡ places_held f place ++ at ∷ []
take-held f place at element job =
    let newest : Holding = record { at = at; element = element } in
    ap (map (λ h. h.at)) (get_or-set_same f.holds place (holds_of f place ++ newest ∷ []) [] job.holds)
    ∙ map-append (λ h. h.at) (holds_of f place) (newest ∷ [])

-- a job that begins to work in this turn goes on in the turn that its story says
pub works-so : (turn turns : ℕ) → (turn + turns ≤ suc turn → turn + lasts turns ≡ suc turn)
    × (suc turn ≤ turn + turns → turn + lasts turns ≡ turn + turns)
works-so turn zero = (λ past. omega arith, λ early. absurd (omega (arith, early)))
works-so turn (suc n) = (λ past. omega (arith, past), λ early. refl)

-- the deadline has come, or has not
pub has-come : (deadline : Option ℕ) (turn : ℕ) → is_due deadline turn ≡ true
    → (d : ℕ) × (deadline ≡ Some d) × (d ≤ turn)
has-come None turn due = absurd (cc)
has-come (Some d) turn due = (d, refl, leb-true d turn due)

pub not-come : (deadline : Option ℕ) (turn d : ℕ) → is_due deadline turn ≡ false → deadline ≡ Some d → turn < d
not-come None turn d due is = absurd (cc)
not-come (Some e) turn d due is =
    let same : e ≡ d = cc in
    let before : turn < e = leb-false e turn due in
    omega (arith, same, before)

-- a wait since a turn has lasted too long, or not
pub outwaited-so : (r : Role) (x : Patience) → is_outwaited r x ≡ true → IsOutwaited r.job x.since r.turn
outwaited-so r x out = go r.job.within refl out
  where
    go : (o : Option ℕ) → r.job.within ≡ o → is_due (option_map (λ w. x.since + w) o) r.turn ≡ true
        → IsOutwaited r.job x.since r.turn
    go None is due = absurd (cc)
    go (Some w) is due = (w, is, leb-true (x.since + w) r.turn due)

pub waits-on : (r : Role) (x : Patience) (w : ℕ) → is_outwaited r x ≡ false → r.job.within ≡ Some w
    → r.turn < x.since + w
waits-on r x w calm is =
    let out : is_due (Some (x.since + w)) r.turn ≡ false
    = ap (λ o. is_due (option_map (λ n. x.since + n) o) r.turn) (sym is) ∙ calm in
    leb-false (x.since + w) r.turn out

-- who isn't over time is in time
pub in-time : (r : Role) (x : Patience) → is_over_time r x ≡ false → IsInTime r.job x.since r.turn
in-time r x calm =
    let both = or_parts (is_due r.job.deadline r.turn) (is_outwaited r x) calm in
    record {
      deadline = λ d has. not-come r.job.deadline r.turn d both.0 has;
      within = λ w has. waits-on r x w both.1 has;
    }

-- who is over time is due, or has waited too long
pub over-time : (r : Role) (x : Patience) → is_over_time r x ≡ true
    → IsDue r.job r.turn ⊎ IsOutwaited r.job x.since r.turn
over-time r x over = go (is_due r.job.deadline r.turn) refl (is_outwaited r x) refl over
  where
    go : (a : Bool) → is_due r.job.deadline r.turn ≡ a → (b : Bool) → is_outwaited r x ≡ b → (a || b) ≡ true
        → IsDue r.job r.turn ⊎ IsOutwaited r.job x.since r.turn
    go true due b out is = inl (has-come r.job.deadline r.turn due)
    go false due true out is = inr (outwaited-so r x out)
    go false due false out is = absurd (cc)

-- who may retry isn't due, and has a retry left; who may not is due, or has none
pub may-so : (r : Role) (x : Patience) → may_retry r x ≡ true
    → (is_due r.job.deadline r.turn ≡ false) × (x.used < r.job.retry)
may-so r x may = go (is_due r.job.deadline r.turn) refl may
  where
    go : (a : Bool) → is_due r.job.deadline r.turn ≡ a → (not a && nat_lt x.used r.job.retry) ≡ true
        → (is_due r.job.deadline r.turn ≡ false) × (x.used < r.job.retry)
    go true due is = absurd (cc)
    go false due is = (due, ltb-true x.used r.job.retry is)

pub may-not : (r : Role) (x : Patience) → may_retry r x ≡ false → IsDue r.job r.turn ⊎ (r.job.retry ≤ x.used)
may-not r x may = go (is_due r.job.deadline r.turn) refl may
  where
    go : (a : Bool) → is_due r.job.deadline r.turn ≡ a → (not a && nat_lt x.used r.job.retry) ≡ false
        → IsDue r.job r.turn ⊎ (r.job.retry ≤ x.used)
    go true due is = inl (has-come r.job.deadline r.turn due)
    go false due is = inr (ltb-false x.used r.job.retry is)

-- one more line that tells of no retry, and one that does
pub count-plain : (lines : List Line) (line : Line) → is_retry line.told ≡ false
    → retries_in (lines ++ line ∷ []) ≡ retries_in lines
count-plain lines line plain =
    omega (
      arith,
      sum_by_push (λ (x : Line). cond (is_retry x.told) 1 0) lines line,
      ap (λ b. cond {A = ℕ} b 1 0) plain,
    )

pub count-retry : (lines : List Line) (line : Line) → is_retry line.told ≡ true
    → retries_in (lines ++ line ∷ []) ≡ retries_in lines + 1
count-retry lines line is =
    omega (
      arith,
      sum_by_push (λ (x : Line). cond (is_retry x.told) 1 0) lines line,
      ap (λ b. cond {A = ℕ} b 1 0) is,
    )

-- a step that is made at once tells of no retry
pub tells-plain : {step : Step} {t : Told} → TellsOf step t → is_retry t ≡ false
tells-plain (story.takes at element) = refl
tells-plain (story.gives_free at element) = refl
tells-plain (story.gives_sent at element number) = refl
tells-plain (story.downs_left at left) = refl
tells-plain (story.downs_open at) = refl
tells-plain (story.downs_already at) = refl
tells-plain (story.passes at) = refl
tells-plain (story.arrives_last at round) = refl

-- no job retries more often than it may
pub retries-few : (job : Job) {lines : List Line} {stage : Stage} → Story job lines stage
    → retries_in lines ≤ job.retry
retries-few job story.begins = omega arith
retries-few job (story.works lines next from turns held is before) = retries-few job before
retries-few job (story.makes lines next from held step line is tells_of now before) =
    omega (arith, retries-few job before, count-plain lines line (tells-plain tells_of))
retries-few job (story.waits lines next from at round number held step line is may words now before) =
    omega (arith, retries-few job before, count-plain lines line (ap is_retry words))
retries-few job (story.is_served lines next at round number since element held step line is words later calm before) =
    omega (arith, retries-few job before, count-plain lines line (ap is_retry words))
retries-few job (story.tries_again lines next at round number since held line words later out early left before) =
    omega (arith, left, count-retry lines line (ap is_retry words))
retries-few job (story.gives_up lines next at round number since held line words later why before) =
    omega (arith, retries-few job before, count-plain lines line (ap is_retry words))
retries-few job (story.is_late lines next at round number since held step line is words later why before) =
    omega (arith, retries-few job before, count-plain lines line (ap is_retry words))
retries-few job (story.has_made_all lines next from held past before) = retries-few job before
retries-few job (story.gives_back lines e at held line tells_of before) =
    omega (arith, retries-few job before, count-plain lines line (tells-plain tells_of))
retries-few job (story.is_done lines line words before) =
    omega (arith, retries-few job before, count-plain lines line (ap is_retry words))
retries-few job (story.has_left lines e turn which before) = retries-few job before

pub ends-of : (answer : FloorLeave) → (end_of answer ≡ end.GaveUp) ⊎ (end_of answer ≡ end.Late)
ends-of leave.Gone = inl refl
ends-of (leave.Late element) = inr refl

-- the next step, and those after it
pub step-there : (steps : List Step) (next : ℕ) (step : Step) (rest : List Step) → drop next steps ≡ step ∷ rest
    → slice_get steps next ≡ Some step
step-there steps next step rest split =
    sym (get-drop next steps 0 next (omega arith)) ∙ ap (λ xs. slice_get xs 0) split

pub steps-past : (steps : List Step) (next : ℕ) → drop next steps ≡ [] → length steps ≤ next
steps-past [] next split = omega arith
steps-past (step ∷ steps) zero split = absurd (cc)
steps-past (step ∷ steps) (suc next) split = omega (arith, steps-past steps next split)

pub rest-there : (steps : List Step) (next : ℕ) (step : Step) (rest : List Step) → drop next steps ≡ step ∷ rest
    → drop (next + 1) steps ≡ rest
rest-there steps next step rest split = sym (drop-drop 1 next steps) ∙ ap (drop 1) split
