-- Each event of a job adds a line to its story, and none to another's.
use Rattle.std.proofs.Common.{◌≡◌, ◌≢◌, ◌⊎◌, inl, inr, ℕ, zero, suc, ◌+◌, ◌<◌, ◌≤◌, List, [], nat_lt, Some, length, map, set, get_or, replicate, slice_get, refl, sym, ap, subst, ◌∙◌, lt-ltb, le-ltb, arith}
use Rattle.std.specs.Bool.{if◌then◌else◌}
use Rattle.std.proofs.lemmas.Bool.{cases_eq, cases_lt}
use Rattle.std.proofs.lemmas.List.{get_or-replicate, get_or-set_other}
use Rattle.std.proofs.lemmas.Option.{get_or_from_slice_get}
use Rattle.cqs_core.proofs.Places.{get-below, get-set_here, get-set_else, get-there}
use Rattle.cqs_plan.specs.declared.plans.job.Job.{Job}
use Rattle.cqs_plan.specs.declared.plans.plan.Plan.{Plan}
use Rattle.cqs_plan.specs.Runnable.{IsRunnable, AreMakeable, kinds_of}
use Rattle.cqs_turns_report.specs.declared.states.Patience.{Patience}
use Rattle.cqs_turns_report.specs.declared.states.Progress.{Progress}
use Rattle.cqs_turns_report.specs.declared.states.Progress.TheVariants.{Stepping}
use Rattle.cqs_turns_report.specs.Ready.{IsReady, wait_in, steps_left}
use Rattle.cqs_turns_report.specs.Running.{IsRunning}
use Rattle.cqs_turns_report.specs.Turns.{Role, Scene, Acted, Machine, after_acting, fresh, one_job, opening_machine, machine_after, patience_after, places_held}
use Rattle.cqs_turns_report.proofs.Opened.{opening-running}
use Rattle.cqs_turns_report.proofs.TurnKept.{Acts, acts, acts-again}
use Rattle.cqs_turns_laws.specs.Events.{Line, EveryReportHasItsLines}
use Rattle.cqs_turns_laws.specs.Stories.{Stage, AtStep, Story, AreInOrder, own_lines, retries_in, EveryJobHasItsStory}
use Rattle.cqs_turns_laws.specs.Stories as story
use Rattle.cqs_turns_laws.proofs.Everywhere.{always-in}
use Rattle.cqs_turns_laws.proofs.OwnTurn.{patience_at, role_of}
use Rattle.cqs_turns_laws.proofs.Kept.{has-patience, one-job-is, with_acted}
use Rattle.cqs_turns_laws.proofs.Lifting.{IsActor, IsToldByEvents}
use Rattle.cqs_turns_laws.proofs.Telling.{IsTelling, told-by-events, opening-tells}
use Rattle.cqs_turns_laws.proofs.StoryLines.{IsPast, past-in, past-out, past-over}
use Rattle.cqs_turns_laws.proofs.StoryStages.{held_at, IsAt, counts-as, retries-few}
use Rattle.cqs_turns_laws.proofs.StorySteps.{Turns, after_acting-walks}

-- in which turn a job has its next turn, where the job at this place is the next that acts
abbrev next_turn : ℕ → ℕ → ℕ → ℕ
next_turn turn next place = if nat_lt place next then suc turn else turn

turn-here : (turn place : ℕ) → next_turn turn place place ≡ turn
turn-here turn place = rw (le-ltb place place (omega arith)) refl

turn-gone : (turn place : ℕ) → next_turn turn (place + 1) place ≡ suc turn
turn-gone turn place = rw (lt-ltb place (place + 1) (omega arith)) refl

turn-first : (turn place : ℕ) → next_turn turn 0 place ≡ turn
turn-first turn place = rw (le-ltb place 0 (omega arith)) refl

turn-else : (turn place j : ℕ) → j ≢ place → next_turn turn (place + 1) j ≡ next_turn turn place j
turn-else turn place j other = by (cases_lt j place)
  where
    by : (j < place) ⊎ (place ≤ j) → next_turn turn (place + 1) j ≡ next_turn turn place j
    by (inl below) = rw (lt-ltb j place below, lt-ltb j (place + 1) (omega (arith, below))) refl
    by (inr past) =
        let beyond : place + 1 ≤ j = omega (arith, past, other) in
        rw (le-ltb j place past, le-ltb j (place + 1) beyond) refl

turn-over : (turn all place : ℕ) → place < all → next_turn turn all place ≡ next_turn (suc turn) 0 place
turn-over turn all place below = rw (lt-ltb place all below) (sym (turn-first (suc turn) place))

module _ (plan : Plan) (P : Scene → List Line → Type 0) (told_so : IsToldByEvents plan P) where
  -- the job has its story, and is as far as that says
  pub record IsTold (turn : ℕ) (job : Job) (x : Patience) (p : Progress) (places : List ℕ) (own : List Line)
      : Type 0 where
    pub stage : Stage
    pub story : Story job own stage
    pub count : retries_in own ≡ x.used
    pub is : IsAt job turn x.since p stage
    pub held : places ≡ held_at stage

  -- the machine runs, and its lines are the stories of its jobs
  pub record IsStoried (turn next : ℕ) (m : Machine) : Type 0 where
    pub running : IsRunning plan m
    pub lines : List Line
    pub holds : P m.scene lines
    pub jobs : (place : ℕ) (job : Job) (p : Progress) → slice_get plan.jobs place ≡ Some job
        → slice_get m.progress place ≡ Some p
        → IsTold (next_turn turn next place) job (patience_at m place) p (places_held m.scene.floor place)
        (own_lines place lines)
    pub nobody : (place : ℕ) → length plan.jobs ≤ place → own_lines place lines ≡ []
    pub past : (n : ℕ) (x : Line) → slice_get lines n ≡ Some x → IsPast turn next x
    pub order : AreInOrder lines

  module _ (runnable : IsRunnable plan) (turn place : ℕ) (job : Job) (m : Machine)
      (there : slice_get plan.jobs place ≡ Some job) (storied : IsStoried turn place m) (p : Progress)
      (got : slice_get m.progress place ≡ Some p) where
    abbrev role : Role
    role = role_of plan.resources turn place job

    abbrev x : Patience
    x = patience_at m place

    abbrev a : Acted
    a = after_acting role x p m.scene

    abbrev y : Patience
    y = patience_after role x p m.scene

    own-patience : slice_get m.patience place ≡ Some x
    own-patience = has-patience plan m place job storied.running there

    ready : IsReady m.scene.floor place (wait_in p) (steps_left job.steps p)
    ready = storied.running.ready place job p there got

    abbrev able : AreMakeable (kinds_of plan.resources) job.steps
    able = runnable.steps.at place job there

    abbrev actor : IsActor plan role
    actor = record { resources = refl; job = there }

    turned : Acts plan m role a y
    turned = acts plan m role x storied.running runnable there own-patience p got

    walks : Turns plan P told_so role actor able storied.lines a y
    walks =
        let own = storied.jobs place job p there got in
        let is : IsAt job turn x.since p own.stage
        = subst (λ n. IsAt job n x.since p own.stage) (turn-here turn place) own.is in
        after_acting-walks plan P told_so role actor able storied.lines x p own.stage m.scene storied.running.kinds is
        ready (acts-again plan m role x storied.running runnable there own-patience p got) (record {
          lines = storied.lines;
          holds = storied.holds;
          story = own.story;
          count = own.count;
          others = λ j other. refl;
          held = own.held;
          past = λ n x got. past-in turn place x (storied.past n x got);
          order = storied.order;
        })

    told-after : (j : ℕ) (other_job : Job) (q : Progress) → slice_get plan.jobs j ≡ Some other_job
        → slice_get (set m.progress place a.progress) j ≡ Some q → (j ≡ place) ⊎ (j ≢ place)
        → IsTold (next_turn turn (place + 1) j) other_job (get_or (set m.patience place y) j fresh) q
        (places_held a.scene.floor j) (own_lines j walks.walked.lines)
    told-after j other_job q is now (inl here) =
        let own_job : job ≡ other_job = cc in
        let own : slice_get (set m.progress place a.progress) place ≡ Some a.progress
        = get-set_here m.progress place p a.progress got in
        let again : slice_get (set m.progress place a.progress) place ≡ Some q = rw here at now in
        let same : a.progress ≡ q = cc in
        let patience : get_or (set m.patience place y) place fresh ≡ y
        = get_or_from_slice_get (set m.patience place y) place y fresh
        (get-set_here m.patience place x y own-patience) in
        rw (here, turn-gone turn place, ← own_job, ← same, patience)
        (record {
          stage = walks.stage;
          story = walks.walked.story;
          count = walks.walked.count;
          is = walks.is;
          held = walks.walked.held;
        })
    told-after j other_job q is now (inr other) =
        let was : slice_get m.progress j ≡ Some q
        = sym (get-set_else m.progress place j a.progress (λ same. other (sym same))) ∙ now in
        let old = storied.jobs j other_job q is was in
        let patience : get_or (set m.patience place y) j fresh ≡ patience_at m j
        = get_or-set_other m.patience place j y fresh other in
        rw patience (record {
          stage = old.stage;
          story = subst (λ ls. Story other_job ls old.stage) (sym (walks.walked.others j other)) old.story;
          count = ap retries_in (walks.walked.others j other) ∙ old.count;
          is = subst (λ n. IsAt other_job n (patience_at m j).since q old.stage) (sym (turn-else turn place j other))
              old.is;
          held = ap (map (λ h. h.at)) (turned.holds j other) ∙ old.held;
        })

    storied-after : IsStoried turn (place + 1) (with_acted m place a y)
    storied-after = record {
      running = turned.running;
      lines = walks.walked.lines;
      holds = walks.walked.holds;
      jobs = λ j other_job q is now. told-after j other_job q is now (cases_eq j place);
      nobody = λ j past.
          let below : place < length plan.jobs = get-below plan.jobs place job there in
          walks.walked.others j (λ same. omega (arith, same, below, past)) ∙ storied.nobody j past;
      past = walks.walked.past;
      order = walks.walked.order;
    }

  one-job-storied : IsRunnable plan → (turn place : ℕ) (job : Job) (m : Machine)
      → slice_get plan.jobs place ≡ Some job → IsStoried turn place m
      → IsStoried turn (place + 1) (one_job plan.resources turn place job m)
  one-job-storied runnable turn place job m there storied =
      let below : place < length m.progress
      = omega (arith, storied.running.jobs, get-below plan.jobs place job there) in
      let own : (p : Progress) × (slice_get m.progress place ≡ Some p) = get-there m.progress place below in
      subst (IsStoried turn (place + 1)) (sym (one-job-is plan.resources turn place job m own.0 own.1))
      (storied-after runnable turn place job m there storied own.0 own.1)

  later-storied : (turn : ℕ) (m : Machine) → IsStoried turn (length plan.jobs) m → IsStoried (suc turn) 0 m
  later-storied turn m storied = record {
    running = storied.running;
    lines = storied.lines;
    holds = storied.holds;
    jobs = λ place job p there got.
        let same : next_turn turn (length plan.jobs) place ≡ next_turn (suc turn) 0 place
        = turn-over turn (length plan.jobs) place (get-below plan.jobs place job there) in
        rw (← same) (storied.jobs place job p there got);
    nobody = storied.nobody;
    past = λ n x got. past-out turn (length plan.jobs) x (storied.past n x got);
    order = storied.order;
  }

  begun : (n place : ℕ) (p : Progress) → slice_get (replicate n (Stepping 0)) place ≡ Some p → p ≡ Stepping 0
  begun zero place p got = absurd (cc)
  begun (suc n) zero p got = cc
  begun (suc n) (suc place) p got = begun n place p got

  opening-storied : IsRunnable plan → P (opening_machine plan).scene [] → IsStoried 0 0 (opening_machine plan)
  opening-storied runnable opens = record {
    running = opening-running plan runnable;
    lines = [];
    holds = opens;
    jobs = λ place job p there got.
        let patience : get_or (replicate (length plan.jobs) fresh) place fresh ≡ fresh
        = get_or-replicate (length plan.jobs) place fresh fresh (get-below plan.jobs place job there) in
        rw (begun (length plan.jobs) place p got, turn-first 0 place, patience)
        (record {
          stage = AtStep 0 0 [];
          story = story.begins;
          count = refl;
          is = ([], refl);
          held = ap (map (λ h. h.at)) (get_or-replicate (length plan.jobs) place [] []
              (get-below plan.jobs place job there));
        });
    nobody = λ place past. refl;
    past = λ n x got. absurd (cc);
    order = λ i j x y below got then_got. absurd (cc);
  }

  pub always-storied : IsRunnable plan → P (opening_machine plan).scene [] → (turns : ℕ)
      → IsStoried turns 0 (machine_after plan turns)
  always-storied runnable opens turns =
      always-in plan IsStoried (opening-storied runnable opens) later-storied (one-job-storied runnable) turns

pub told-of : (plan : Plan) (turns : ℕ) → IsRunnable plan
    → IsStoried plan (IsTelling plan) (told-by-events plan) turns 0 (machine_after plan turns)
told-of plan turns runnable =
    always-storied plan (IsTelling plan) (told-by-events plan) runnable (opening-tells plan) turns

pub every-report-has-its-lines : EveryReportHasItsLines
every-report-has-its-lines plan turns runnable =
    let all = told-of plan turns runnable in
    (all.lines, record { text = all.holds.text; tell = all.holds.tell })

pub every-job-has-its-story : EveryJobHasItsStory
every-job-has-its-story plan turns runnable =
    let all = told-of plan turns runnable in (
      all.lines,
      record { text = all.holds.text; tell = all.holds.tell },
      record {
        jobs = λ place job p there got.
            let own = all.jobs place job p there got in
            let x : Patience = patience_at (machine_after plan turns) place in
            let is : IsAt job turns x.since p own.stage
            = subst (λ n. IsAt job n x.since p own.stage) (turn-first turns place) own.is in
            record {
              stage = own.stage;
              story = own.story;
              counts = counts-as job turns x.since p own.stage is;
              few_retries = retries-few job own.story;
            };
        nobody = all.nobody;
        early = λ n line got. past-over turns line (all.past n line got);
        order = all.order;
      },
    )
