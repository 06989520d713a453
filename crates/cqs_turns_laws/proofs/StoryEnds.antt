-- What the stories of jobs say of their ends: nobody gives up early, and who is done has made all steps.
use Rattle.std.proofs.Common.{◌≡◌, ◌⊎◌, inl, inr, ℕ, zero, suc, ◌+◌, ◌<◌, ◌≤◌, ◌==◌, List, [], ◌∷◌, ◌++◌, Bool, true, false, Option, Some, None, length, map, take, filter, filter_map, sum_by, slice_get, refl, sym, ap, subst, ◌∙◌, eq-eqb, eqb-true, append_assoc, arith}
use Rattle.std.proofs.lemmas.Bool.{cases_lt}
use Rattle.std.proofs.lemmas.List.{append-nil, map-append, take_all}
use Rattle.std.proofs.lemmas.List.Elements.{filter-append, filter_map-append}
use Rattle.std.proofs.lemmas.List.Sums.{sum_by_push}
use Rattle.cqs_core.proofs.Places.{get-there}
use Rattle.cqs_plan.specs.declared.plans.job.Job.{Job}
use Rattle.cqs_plan.specs.declared.plans.step.Step.{Step}
use Rattle.cqs_plan.specs.declared.plans.step.Step.TheVariants.{Take, Give, Down, Await, Arrive, Work}
use Rattle.cqs_plan.specs.declared.plans.kind.Kind.{Kind}
use Rattle.cqs_plan.specs.declared.plans.kind.Kind.TheVariants as kind
use Rattle.cqs_plan.specs.declared.plans.resource.Resource.{Resource}
use Rattle.cqs_plan.specs.Floor.{IsHoldable, IsLatch, HasRound}
use Rattle.cqs_plan.specs.PlanSteps.{may_wait}
use Rattle.cqs_plan.specs.Runnable.{IsMakeable, AreMakeable, kinds_of}
use Rattle.std.specs.Option.{option_map}
use Rattle.cqs_turns_report.specs.declared.lines.Told.{Told}
use Rattle.cqs_turns_report.specs.declared.lines.Told.TheVariants as told
use Rattle.cqs_turns_report.specs.declared.states.End.{End}
use Rattle.cqs_turns_report.specs.declared.states.End.TheVariants as end
use Rattle.cqs_turns_report.specs.declared.states.Progress.TheVariants.{Ended}
use Rattle.cqs_turns_report.specs.Turns.{machine_after}
use Rattle.cqs_turns_laws.specs.Endings.{HasCome, HasMadeAllSteps, MayEnd, NobodyGivesUpEarly, WhoIsDoneMadeAllSteps, is_told, made_step, turns_of, waited_for}
use Rattle.cqs_turns_laws.specs.Events.{Line}
use Rattle.cqs_turns_laws.specs.Stories.{TellsOf, Stage, AtStep, InWait, Closing, Over, Story, IsDue, IsOutwaited, lasts, AreStories, own_lines, retries_in}
use Rattle.cqs_turns_laws.specs.Stories as story
use Rattle.cqs_turns_laws.proofs.Everywhere.{all-jobs}
use Rattle.cqs_turns_laws.proofs.StoryLines.{each-push}
use Rattle.cqs_turns_laws.proofs.JobStories.{every-job-has-its-story}

-- the steps of a job that are told, and those that its lines tell to be made
abbrev told_steps : List Step → List Step
told_steps steps = filter is_told steps

abbrev made : List Resource → List Line → List Step
made resources lines = filter_map (λ line. made_step resources line.told) lines

abbrev gives : List ℕ → List Step
gives back = map (λ at. Give at) back

abbrev worked : List Step → ℕ
worked steps = sum_by turns_of steps

made-push : (resources : List Resource) (lines : List Line) (line : Line) (step : Step)
    → made_step resources line.told ≡ Some step
    → made resources (lines ++ line ∷ []) ≡ made resources lines ++ step ∷ []
made-push resources lines line step is =
    let one : made resources (line ∷ []) ≡ step ∷ [] = rw is refl in
    filter_map-append (λ (x : Line). made_step resources x.told) lines (line ∷ [])
    ∙ ap (λ xs. made resources lines ++ xs) one

made-still : (resources : List Resource) (lines : List Line) (line : Line) → made_step resources line.told ≡ None
    → made resources (lines ++ line ∷ []) ≡ made resources lines
made-still resources lines line is =
    let none : made resources (line ∷ []) ≡ [] = rw is refl in
    filter_map-append (λ (x : Line). made_step resources x.told) lines (line ∷ [])
    ∙ ap (λ xs. made resources lines ++ xs) none
    ∙ append-nil (made resources lines)

-- the steps up to the next one, and that
take-next : (steps : List Step) (next : ℕ) (step : Step) → slice_get steps next ≡ Some step
    → take (suc next) steps ≡ take next steps ++ step ∷ []
take-next [] next step got = absurd (cc)
take-next (s ∷ steps) zero step got = let own : s ≡ step = cc in rw own refl
take-next (s ∷ steps) (suc next) step got = ap (λ xs. s ∷ xs) (take-next steps next step got)

steps-next : (steps : List Step) (next : ℕ) (step : Step) → slice_get steps next ≡ Some step
    → is_told step ≡ true → told_steps (take (next + 1) steps) ≡ told_steps (take next steps) ++ step ∷ []
steps-next steps next step got is =
    let one : told_steps (step ∷ []) ≡ step ∷ [] = rw is refl in
    let same : next + 1 ≡ suc next = omega arith in
    ap (λ n. told_steps (take n steps)) same ∙ ap told_steps (take-next steps next step got)
    ∙ filter-append is_told (take next steps) (step ∷ []) ∙ ap (λ xs. told_steps (take next steps) ++ xs) one

steps-still : (steps : List Step) (next : ℕ) (step : Step) → slice_get steps next ≡ Some step
    → is_told step ≡ false → told_steps (take (next + 1) steps) ≡ told_steps (take next steps)
steps-still steps next step got is =
    let none : told_steps (step ∷ []) ≡ [] = rw is refl in
    let same : next + 1 ≡ suc next = omega arith in
    ap (λ n. told_steps (take n steps)) same ∙ ap told_steps (take-next steps next step got)
    ∙ filter-append is_told (take next steps) (step ∷ []) ∙ ap (λ xs. told_steps (take next steps) ++ xs) none
    ∙ append-nil (told_steps (take next steps))

worked-next : (steps : List Step) (next : ℕ) (step : Step) → slice_get steps next ≡ Some step
    → worked (take (next + 1) steps) ≡ worked (take next steps) + turns_of step
worked-next steps next step got =
    let same : next + 1 ≡ suc next = omega arith in
    ap (λ n. worked (take n steps)) same ∙ ap worked (take-next steps next step got)
    ∙ sum_by_push turns_of (take next steps) step

lasts-all : (turns : ℕ) → turns ≤ lasts turns
lasts-all zero = omega arith
lasts-all (suc n) = omega arith

-- a step that is told of isn't `work`
record IsMade (resources : List Resource) (step : Step) (t : Told) : Type 0 where
  line : made_step resources t ≡ Some step
  told_so : is_told step ≡ true
  idle : turns_of step ≡ 0

told-made : (resources : List Resource) {step : Step} {t : Told} → TellsOf step t → IsMade resources step t
told-made resources (story.takes at element) = record { line = refl; told_so = refl; idle = refl }
told-made resources (story.gives_free at element) = record { line = refl; told_so = refl; idle = refl }
told-made resources (story.gives_sent at element number) = record { line = refl; told_so = refl; idle = refl }
told-made resources (story.downs_left at left) = record { line = refl; told_so = refl; idle = refl }
told-made resources (story.downs_open at) = record { line = refl; told_so = refl; idle = refl }
told-made resources (story.downs_already at) = record { line = refl; told_so = refl; idle = refl }
told-made resources (story.passes at) = record { line = refl; told_so = refl; idle = refl }
told-made resources (story.arrives_last at round) = record { line = refl; told_so = refl; idle = refl }

-- what is waited for, by its kind
holdable-wait : (k : Kind) (at : ℕ) → IsHoldable (Some k) → waited_for k at ≡ Take at
holdable-wait (kind.Semaphore permits) at holdable = refl
holdable-wait kind.Mutex at holdable = refl
holdable-wait (kind.Pool elements) at holdable = refl
holdable-wait (kind.Latch count) at holdable = absurd holdable
holdable-wait (kind.Rounds parties rounds) at holdable = absurd holdable

latch-wait : (k : Kind) (at : ℕ) → IsLatch (Some k) → waited_for k at ≡ Await at
latch-wait (kind.Semaphore permits) at latch = absurd latch
latch-wait kind.Mutex at latch = absurd latch
latch-wait (kind.Pool elements) at latch = absurd latch
latch-wait (kind.Latch count) at latch = refl
latch-wait (kind.Rounds parties rounds) at latch = absurd latch

round-wait : (k : Kind) (round at : ℕ) → HasRound (Some k) round → waited_for k at ≡ Arrive at
round-wait (kind.Semaphore permits) round at has = absurd has
round-wait kind.Mutex round at has = absurd has
round-wait (kind.Pool elements) round at has = absurd has
round-wait (kind.Latch count) round at has = absurd has
round-wait (kind.Rounds parties rounds) round at has = refl

-- the kind of a resource decides what is waited for there
module _ (Is : Option Kind → Type 0) (none : Is None → ⊥) (step : Step) (at : ℕ)
    (by : (k : Kind) → Is (Some k) → waited_for k at ≡ step) where
  waits-by : (resources : List Resource) (i : ℕ) → Is (slice_get (kinds_of resources) i)
      → option_map (λ resource. waited_for resource.kind at) (slice_get resources i) ≡ Some step
  waits-by [] i is = absurd (none is)
  waits-by (resource ∷ resources) zero is = ap Some (by resource.kind is)
  waits-by (resource ∷ resources) (suc i) is = waits-by resources i is

-- a step that may have to wait there is what is waited for there, and isn't `work`
record IsWaited (resources : List Resource) (at : ℕ) (step : Step) : Type 0 where
  made_so : option_map (λ resource. waited_for resource.kind at) (slice_get resources at) ≡ Some step
  told_so : is_told step ≡ true
  idle : turns_of step ≡ 0

waits-there : (resources : List Resource) (at : ℕ) (step : Step) (Holds : ℕ → Type 0) (round : ℕ → ℕ)
    → may_wait at step ≡ true → IsMakeable (kinds_of resources) Holds round step → IsWaited resources at step
waits-there resources at (Take place) Holds round may able =
    let here : place ≡ at = eqb-true place at may in
    rw here (record {
      made_so = waits-by IsHoldable (λ no. no) (Take at) at (λ k is. holdable-wait k at is) resources at
          (rw here at able);
      told_so = refl;
      idle = refl;
    })
waits-there resources at (Await place) Holds round may able =
    let here : place ≡ at = eqb-true place at may in
    rw here (record {
      made_so = waits-by IsLatch (λ no. no) (Await at) at (λ k is. latch-wait k at is) resources at (rw here at able);
      told_so = refl;
      idle = refl;
    })
waits-there resources at (Arrive place) Holds round may able =
    let here : place ≡ at = eqb-true place at may in
    rw here (record {
      made_so = waits-by (λ o. HasRound o (round at)) (λ no. no) (Arrive at) at
          (λ k is. round-wait k (round at) at is) resources at
          (rw here at able);
      told_so = refl;
      idle = refl;
    })
waits-there resources at (Give place) Holds round may able = absurd (cc)
waits-there resources at (Down place) Holds round may able = absurd (cc)
waits-there resources at (Work turns) Holds round may able = absurd (cc)

module _ (resources : List Resource) (job : Job) (able : AreMakeable (kinds_of resources) job.steps) where
  -- all steps are made, and then this was given back
  record AllMade (lines : List Line) (turn : ℕ) : Type 0 where
    back : List ℕ
    steps : made resources lines ≡ told_steps job.steps ++ gives back
    time : worked job.steps ≤ turn

  -- what a story says of the steps that are made at a stage
  abbrev Says : List Line → Stage → Type 0
  Says lines (AtStep next from held) =
      (made resources lines ≡ told_steps (take next job.steps)) × (worked (take next job.steps) ≤ from)
  Says lines (InWait next at round number since held) =
      (made resources lines ≡ told_steps (take next job.steps)) × (worked (take next job.steps) ≤ since)
      × (step : Step) × (slice_get job.steps next ≡ Some step) × (may_wait at step ≡ true)
  Says lines (Closing end.Done turn held) = AllMade lines turn
  Says lines (Closing end.GaveUp turn held) = Unit {0}
  Says lines (Closing end.Late turn held) = Unit {0}
  Says lines (Closing end.Crowded turn held) = Unit {0}
  Says lines (Over end.Done) = HasMadeAllSteps resources job lines
  Says lines (Over end.GaveUp) = Unit {0}
  Says lines (Over end.Late) = Unit {0}
  Says lines (Over end.Crowded) = Unit {0}

  says-given : (lines : List Line) (e : End) (at : ℕ) (held more : List ℕ) (line : Line)
      → made_step resources line.told ≡ Some (Give at) → Says lines (Closing e line.turn held)
      → Says (lines ++ line ∷ []) (Closing e line.turn more)
  says-given lines end.Done at held more line is says = record {
    back = says.back ++ at ∷ [];
    steps = made-push resources lines line (Give at) is ∙ ap (λ xs. xs ++ Give at ∷ []) says.steps
        ∙ append_assoc (told_steps job.steps) (gives says.back) (Give at ∷ [])
        ∙ ap (λ xs. told_steps job.steps ++ xs) (sym (map-append (λ p. Give p) says.back (at ∷ [])));
    time = says.time;
  }
  says-given lines end.GaveUp at held more line is says = tt
  says-given lines end.Late at held more line is says = tt
  says-given lines end.Crowded at held more line is says = tt

  left-says : (lines : List Line) (e : End) → (e ≡ end.GaveUp) ⊎ (e ≡ end.Late) → Says lines (Over e)
  left-says lines e (inl is) = rw is tt
  left-says lines e (inr is) = rw is tt

  says : {lines : List Line} {stage : Stage} → Story job lines stage → Says lines stage
  says story.begins = (refl, omega arith)
  says (story.works lines next from turns held is before) =
      let so = says before in (
        so.0 ∙ sym (steps-still job.steps next (Work turns) is refl),
        omega (arith, so.1, worked-next job.steps next (Work turns) is, lasts-all turns),
      )
  says (story.makes lines next from held step line is tells_of now before) =
      let so = says before in
      let one = told-made resources tells_of in (
        made-push resources lines line step one.line ∙ ap (λ xs. xs ++ step ∷ []) so.0
            ∙ sym (steps-next job.steps next step is one.told_so),
        omega (arith, so.1, now, worked-next job.steps next step is, one.idle),
      )
  says (story.waits lines next from at round number held step line is may words now before) =
      let so = says before in
      let none : made_step resources line.told ≡ None = rw words refl in (
        made-still resources lines line none ∙ so.0,
        omega (arith, so.1, now),
        step,
        is,
        may,
      )
  says (story.is_served lines next at round number since element held step line is words later early before) =
      let so = says before in
      let there = waits-there resources at so.2 _ _ so.4 (able.at next so.2 so.3) in
      let some : made_step resources line.told ≡ Some so.2 = rw words there.made_so in (
        made-push resources lines line so.2 some ∙ ap (λ xs. xs ++ so.2 ∷ []) so.0
            ∙ sym (steps-next job.steps next so.2 so.3 there.told_so),
        omega (arith, so.1, later, worked-next job.steps next so.2 so.3, there.idle),
      )
  says (story.tries_again lines next at round number since held line words later out early left before) =
      let so = says before in
      let none : made_step resources line.told ≡ None = rw words refl in
      (made-still resources lines line none ∙ so.0, omega (arith, so.1, later))
  says (story.gives_up lines next at round number since held line words later why before) = tt
  says (story.is_late lines next at round number since held step line is words later why before) = tt
  says (story.has_made_all lines next from held past before) =
      let so = says before in
      let all : take next job.steps ≡ job.steps = take_all next job.steps past in
      record {
        back = [];
        steps = so.0 ∙ ap told_steps all ∙ sym (append-nil (told_steps job.steps));
        time = omega (arith, so.1, ap worked all);
      }
  says (story.gives_back lines e at held line tells_of before) =
      let one = told-made resources tells_of in
      says-given lines e at (at ∷ held) held line one.line (says before)
  says (story.is_done lines line words before) =
      let so = says before in
      let none : made_step resources line.told ≡ None = rw words refl in
      record {
        earlier = lines;
        last = line;
        lines = refl;
        done = words;
        back = so.back;
        steps = made-still resources lines line none ∙ so.steps;
        worked = so.time;
      }
  says (story.has_left lines e turn which before) = left-says lines e which

module _ (job : Job) where
  -- the line gives up, or is late, only where the job may
  abbrev IsTimely : Line → Type 0
  IsTimely line =
      (at round number : ℕ) → (line.told ≡ told.GaveUp at round number) ⊎ (line.told ≡ told.Late at round number)
      → MayEnd job line.turn

  out-ends : (since turn : ℕ) → IsOutwaited job since turn → MayEnd job turn
  out-ends since turn out = inr (out.0, out.1, omega (arith, out.2))

  late-ends : (since turn : ℕ) → IsDue job turn ⊎ IsOutwaited job since turn → MayEnd job turn
  late-ends since turn (inl due) = inl due
  late-ends since turn (inr out) = out-ends since turn out

  up-ends : (since turn n : ℕ) → IsDue job turn ⊎ (IsOutwaited job since turn × (job.retry ≤ n)) → MayEnd job turn
  up-ends since turn n (inl due) = inl due
  up-ends since turn n (inr out) = out-ends since turn out.0

  -- a line that tells something else
  else-timely : (line : Line) (leaves : Told → Bool)
      → ((at round number : ℕ) → leaves (told.GaveUp at round number) ≡ true)
      → ((at round number : ℕ) → leaves (told.Late at round number) ≡ true) → leaves line.told ≡ false → IsTimely line
  else-timely line leaves gone late not at round number (inl is) =
      let yes : leaves line.told ≡ true = rw is (gone at round number) in absurd (cc)
  else-timely line leaves gone late not at round number (inr is) =
      let yes : leaves line.told ≡ true = rw is (late at round number) in absurd (cc)

  -- a line tells that its wait is over, unserved or late
  leaves_wait : Told → Bool
  leaves_wait (told.GaveUp at round number) = true
  leaves_wait (told.Late at round number) = true
  leaves_wait (told.Takes at element) = false
  leaves_wait (told.Retries at round number) = false
  leaves_wait (told.Waits at round number) = false
  leaves_wait (told.Served at round number element) = false
  leaves_wait (told.GivesFree at element) = false
  leaves_wait (told.GivesSent at element number) = false
  leaves_wait (told.Passes at) = false
  leaves_wait (told.DownsLeft at left) = false
  leaves_wait (told.DownsOpen at) = false
  leaves_wait (told.DownsAlready at) = false
  leaves_wait (told.ArrivesLast at round) = false
  leaves_wait told.Done = false

  stays : (line : Line) → leaves_wait line.told ≡ false → IsTimely line
  unfolding leaves_wait
  stays line not = else-timely line leaves_wait (λ at round number. refl) (λ at round number. refl) not

  made-stays : {step : Step} {t : Told} → TellsOf step t → leaves_wait t ≡ false
  unfolding leaves_wait
  made-stays (story.takes at element) = refl
  made-stays (story.gives_free at element) = refl
  made-stays (story.gives_sent at element number) = refl
  made-stays (story.downs_left at left) = refl
  made-stays (story.downs_open at) = refl
  made-stays (story.downs_already at) = refl
  made-stays (story.passes at) = refl
  made-stays (story.arrives_last at round) = refl

  words-stay : (line : Line) (t : Told) → line.told ≡ t → leaves_wait t ≡ false → IsTimely line
  words-stay line t is not = stays line (ap leaves_wait is ∙ not)

  timely : {lines : List Line} {stage : Stage} → Story job lines stage
      → (n : ℕ) (x : Line) → slice_get lines n ≡ Some x → IsTimely x
  unfolding leaves_wait
  timely story.begins n x got = absurd (cc)
  timely (story.works lines next from turns held is before) n x got = timely before n x got
  timely (story.makes lines next from held step line is tells_of now before) n x got =
      each-push IsTimely lines line (timely before) (stays line (made-stays tells_of)) n x got
  timely (story.waits lines next from at round number held step line is may words now before) n x got =
      each-push IsTimely lines line (timely before) (words-stay line (told.Waits at round number) words refl) n x got
  timely (story.is_served lines next at round number since element held step line is words later early before) n x got =
      each-push IsTimely lines line (timely before) (words-stay line (told.Served at round number element) words refl)
      n x got
  timely (story.tries_again lines next at round number since held line words later out early left before) n x got =
      each-push IsTimely lines line (timely before) (words-stay line (told.Retries at round number) words refl) n x got
  timely (story.gives_up lines next at round number since held line words later why before) n x got =
      each-push IsTimely lines line (timely before)
      (λ p q k either. up-ends since line.turn (retries_in lines) why) n x got
  timely (story.is_late lines next at round number since held step line is words later why before) n x got =
      each-push IsTimely lines line (timely before) (λ p q k either. late-ends since line.turn why) n x got
  timely (story.has_made_all lines next from held past before) n x got = timely before n x got
  timely (story.gives_back lines e at held line tells_of before) n x got =
      each-push IsTimely lines line (timely before) (stays line (made-stays tells_of)) n x got
  timely (story.is_done lines line words before) n x got =
      each-push IsTimely lines line (timely before) (words-stay line told.Done words refl) n x got
  timely (story.has_left lines e turn which before) n x got = timely before n x got

-- a line is one of its job's own
own-there : (lines : List Line) (n : ℕ) (line : Line) → slice_get lines n ≡ Some line
    → (m : ℕ) × (slice_get (own_lines line.job lines) m ≡ Some line)
own-there [] n line got = absurd (cc)
own-there (x ∷ lines) zero line got =
    let same : x ≡ line = cc in
    let own : line.job == line.job ≡ true = eq-eqb line.job line.job refl in
    (0, rw (same, own) refl)
own-there (x ∷ lines) (suc n) line got =
    let rest = own-there lines n line got in by (x.job == line.job) refl rest
  where
    by : (b : Bool) → x.job == line.job ≡ b → (m : ℕ) × (slice_get (own_lines line.job lines) m ≡ Some line)
        → (m : ℕ) × (slice_get (own_lines line.job (x ∷ lines)) m ≡ Some line)
    by true is rest = (suc rest.0, rw is rest.1)
    by false is rest = (rest.0, rw is rest.1)

pub nobody-gives-up-early : NobodyGivesUpEarly
nobody-gives-up-early plan turns runnable =
    let all = every-job-has-its-story plan turns runnable in
    (all.0, all.1, λ n at round number line got either. come all.0 all.2 n at round number line got either)
  where
    come : (lines : List Line) → AreStories plan turns (machine_after plan turns).progress lines
        → (n at round number : ℕ) (line : Line) → slice_get lines n ≡ Some line
        → (line.told ≡ told.GaveUp at round number) ⊎ (line.told ≡ told.Late at round number) → HasCome plan line
    come lines stories n at round number line got either = by (cases_lt line.job (length plan.jobs)) where
      own : (m : ℕ) × (slice_get (own_lines line.job lines) m ≡ Some line)
      own = own-there lines n line got

      by : (line.job < length plan.jobs) ⊎ (length plan.jobs ≤ line.job) → HasCome plan line
      by (inl below) =
          let job = get-there plan.jobs line.job below in
          let within : line.job < length (machine_after plan turns).progress
          = omega (arith, all-jobs plan turns, below) in
          let p = get-there (machine_after plan turns).progress line.job within in
          let has = stories.jobs line.job job.0 p.0 job.1 p.1 in
          record { job = job.0; is = job.1; may = timely job.0 has.story own.0 line own.1 at round number either }
      by (inr past) =
          let none : own_lines line.job lines ≡ [] = stories.nobody line.job past in
          let no : slice_get [] own.0 ≡ Some line = rw none at own.1 in absurd (cc)

pub who-is-done-made-all-steps : WhoIsDoneMadeAllSteps
who-is-done-made-all-steps plan turns runnable =
    let all = every-job-has-its-story plan turns runnable in (
      all.0,
      all.1,
      λ place job there done.
          let has = all.2.jobs place job (Ended end.Done) there done in
          let is : has.stage ≡ Over end.Done = has.counts in
          says plan.resources job (runnable.steps.at place job there)
          (subst (λ x. Story job (own_lines place all.0) x) is has.story),
    )
