-- The machine keeps running: the turn of one job leaves every job ready and in its rounds, and room for all that is
-- left.
use Rattle.std.proofs.Common.{◌≡◌, ◌≢◌, ◌⊎◌, inl, inr, ℕ, zero, suc, ◌+◌, ◌-◌, ◌<◌, ◌≤◌, nat_lt, Bool, true, false, cond, List, [], ◌∷◌, Option, Some, None, length, map, set, take, drop, get_or, slice_get, count_by, refl, sym, ap, subst, ◌∙◌, lt-ltb, le-ltb, arith}
use Rattle.std.specs.Prelude.{IsTrue}
use Rattle.std.specs.List.{list_any}
use Rattle.std.specs.Option.{option_map}
use Rattle.std.proofs.lemmas.Bool.{cases_eq, cases_lt, leb-true}
use Rattle.std.proofs.lemmas.List.{length-set}
use Rattle.std.proofs.lemmas.List.Sums.{sum_by-cons, sum_by-take-le}
use Rattle.std.proofs.lemmas.Option.{slice_get-map}
use Rattle.cqs_core.proofs.Places.{get-set_here, get-set_else, get-below, get-there}
use Rattle.cqs_plan.specs.declared.plans.kind.Kind.TheVariants.{Rounds}
use Rattle.cqs_plan.specs.declared.plans.step.Step.{Step}
use Rattle.cqs_plan.specs.declared.plans.job.Job.{Job}
use Rattle.cqs_plan.specs.declared.plans.plan.Plan.{Plan}
use Rattle.cqs_plan.specs.declared.plans.resource.Resource.{Resource}
use Rattle.cqs_plan.specs.Arriving.{arrives, arriving, has_parties}
use Rattle.cqs_plan.specs.PlanSteps.{is_arrival, may_wait}
use Rattle.cqs_plan.specs.Floor.{PlainFloor, JobWait, room_at, round_of, times_at}
use Rattle.cqs_plan.specs.Runnable.{IsRunnable, kinds_of}
use Rattle.cqs_turns_report.specs.declared.states.Patience.{Patience}
use Rattle.cqs_turns_report.specs.declared.states.Progress.{Progress}
use Rattle.cqs_turns_report.specs.declared.states.Progress.TheVariants.{Stepping, Working, Waiting, Ended}
use Rattle.cqs_turns_report.specs.Ready.{IsReady, IsBackIn, HasArrived, HasRoom, HasRoomFor, wait_in, steps_left}
use Rattle.cqs_turns_report.specs.Running.{IsRunning, IsInRounds, retries_left, waits_left}
use Rattle.cqs_turns_report.specs.Turns.{Role, Scene, Acted, Machine, places_held}
use Rattle.cqs_turns_report.proofs.Moved.{Others}
use Rattle.cqs_turns_report.proofs.Turned.{Turned}

waits-set : (at : ℕ) (jobs : List Job) (progress : List Progress) (place : ℕ) (job : Job) (p q : Progress)
    → slice_get jobs place ≡ Some job → slice_get progress place ≡ Some p
    → waits_left at jobs (set progress place q) + count_by (may_wait at) (steps_left job.steps p)
    ≡ waits_left at jobs progress + count_by (may_wait at) (steps_left job.steps q)
waits-set at [] progress place job p q got_job got = absurd (cc)
waits-set at (j ∷ jobs) [] place job p q got_job got = absurd (cc)
waits-set at (j ∷ jobs) (x ∷ progress) zero job p q got_job got =
    let same_job : j ≡ job = cc in
    let same : x ≡ p = cc in
    rw (same_job, same) (omega arith)
waits-set at (j ∷ jobs) (x ∷ progress) (suc place) job p q got_job got =
    omega (arith, waits-set at jobs progress place job p q got_job got)

waits-of : (at : ℕ) (jobs : List Job) (progress : List Progress) (place : ℕ) (job : Job) (p : Progress)
    → slice_get jobs place ≡ Some job → slice_get progress place ≡ Some p
    → count_by (may_wait at) (steps_left job.steps p) ≤ waits_left at jobs progress
waits-of at [] progress place job p got_job got = absurd (cc)
waits-of at (j ∷ jobs) [] place job p got_job got = absurd (cc)
waits-of at (j ∷ jobs) (x ∷ progress) zero job p got_job got =
    let same_job : j ≡ job = cc in
    let same : x ≡ p = cc in
    rw (same_job, same) (omega arith)
waits-of at (j ∷ jobs) (x ∷ progress) (suc place) job p got_job got =
    omega (arith, waits-of at jobs progress place job p got_job got)

-- a row passes its test only where the job passes its own
one-at-most : (row : List ℕ) (y : Job) (at round : ℕ) → (round < get_or row at 0 → arrives at y ≡ true)
    → cond {A = ℕ} (nat_lt round (get_or row at 0)) 1 0 ≤ cond {A = ℕ} (arrives at y) 1 0
one-at-most row y at round tells = go (cases_lt round (get_or row at 0))
  where
    go : (round < get_or row at 0) ⊎ (get_or row at 0 ≤ round)
        → cond {A = ℕ} (nat_lt round (get_or row at 0)) 1 0 ≤ cond {A = ℕ} (arrives at y) 1 0
    go (inl past) =
        let comes : cond {A = ℕ} (arrives at y) 1 0 ≡ 1 = ap (λ b. cond {A = ℕ} b 1 0) (tells past) in
        let is : cond {A = ℕ} (nat_lt round (get_or row at 0)) 1 0 ≡ 1
        = ap (λ b. cond {A = ℕ} b 1 0) (lt-ltb round (get_or row at 0) past) in
        omega (arith, comes, is)
    go (inr low) =
        let none : cond {A = ℕ} (nat_lt round (get_or row at 0)) 1 0 ≡ 0
        = ap (λ b. cond {A = ℕ} b 1 0) (le-ltb round (get_or row at 0) low) in
        omega (arith, none)

-- what is told of the jobs of rows
abbrev Tells : List (List ℕ) → List Job → ℕ → ℕ → Type 0
Tells rows jobs at round =
    (j : ℕ) (y : Job) → slice_get jobs j ≡ Some y → round < get_or (get_or rows j []) at 0 → arrives at y ≡ true

rows-at-most : (rows : List (List ℕ)) (jobs : List Job) (at round : ℕ) → length rows ≡ length jobs
    → Tells rows jobs at round
    → count_by (λ row. nat_lt round (get_or row at 0)) rows ≤ count_by (arrives at) jobs
rows-at-most [] jobs at round same each = omega arith
rows-at-most (row ∷ rows) [] at round same each = absurd (omega (arith, same))
rows-at-most (row ∷ rows) (y ∷ jobs) at round same each =
    omega (
      arith,
      one-at-most row y at round (each 0 y refl),
      sum_by-cons (λ r. cond (nat_lt round (get_or r at 0)) 1 0) row rows,
      sum_by-cons (λ j. cond (arrives at j) 1 0) y jobs,
      rows-at-most rows jobs at round (omega (arith, same)) (λ j z there. each (suc j) z there),
    )

-- of jobs that arrive one isn't past the round
rows-below : (rows : List (List ℕ)) (jobs : List Job) (place at round : ℕ) (job : Job) → length rows ≡ length jobs
    → Tells rows jobs at round
    → slice_get jobs place ≡ Some job → arrives at job ≡ true → get_or (get_or rows place []) at 0 ≤ round
    → count_by (λ row. nat_lt round (get_or row at 0)) rows < count_by (arrives at) jobs
rows-below rows [] place at round job same each got comes low = absurd (cc)
rows-below [] (x ∷ jobs) place at round job same each got comes low = absurd (omega (arith, same))
rows-below (row ∷ rows) (x ∷ jobs) zero at round job same each got comes low =
    let is : x ≡ job = cc in
    let none : cond {A = ℕ} (nat_lt round (get_or row at 0)) 1 0 ≡ 0
    = ap (λ b. cond {A = ℕ} b 1 0) (le-ltb round (get_or row at 0) low) in
    let own : cond {A = ℕ} (arrives at x) 1 0 ≡ 1 = ap (λ b. cond {A = ℕ} b 1 0) (ap (arrives at) is ∙ comes) in
    omega (
      arith,
      none,
      own,
      sum_by-cons (λ r. cond (nat_lt round (get_or r at 0)) 1 0) row rows,
      sum_by-cons (λ j. cond (arrives at j) 1 0) x jobs,
      rows-at-most rows jobs at round (omega (arith, same)) (λ j y there. each (suc j) y there),
    )
rows-below (row ∷ rows) (x ∷ jobs) (suc place) at round job same each got comes low =
    omega (
      arith,
      one-at-most row x at round (each 0 x refl),
      sum_by-cons (λ r. cond (nat_lt round (get_or r at 0)) 1 0) row rows,
      sum_by-cons (λ j. cond (arrives at j) 1 0) x jobs,
      rows-below rows jobs place at round job (omega (arith, same)) (λ j y there. each (suc j) y there) got comes low,
    )

-- a job with an arrival among its steps arrives
arrives-by : (at : ℕ) (step : Step) (steps : List Step) (b : Bool) → is_arrival at step ≡ b
    → (0 < count_by (is_arrival at) steps → list_any (is_arrival at) steps ≡ true)
    → 0 < count_by (is_arrival at) (step ∷ steps) → list_any (is_arrival at) (step ∷ steps) ≡ true
arrives-by at step steps true is later some = rw is refl
arrives-by at step steps false is later some =
    let none : cond {A = ℕ} (is_arrival at step) 1 0 ≡ 0 = ap (λ b. cond {A = ℕ} b 1 0) is in
    rw is (later (omega (arith, some, none, sum_by-cons (λ s. cond (is_arrival at s) 1 0) step steps)))

arrives-some : (at : ℕ) (steps : List Step) → 0 < count_by (is_arrival at) steps
    → list_any (is_arrival at) steps ≡ true
arrives-some at [] some = absurd (omega arith)
arrives-some at (step ∷ steps) some =
    arrives-by at step steps (is_arrival at step) refl (arrives-some at steps) some

-- a job past a round arrives
past-arrives : (f : PlainFloor) (place at round : ℕ) (job : Job) (p : Progress) → IsInRounds f place job.steps p
    → round < round_of f place at → arrives at job ≡ true
past-arrives f place at round job (Stepping next) rounds past =
    arrives-some at job.steps
    (omega (arith, past, rounds at, sum_by-take-le (λ s. cond (is_arrival at s) 1 0) job.steps next))
past-arrives f place at round job (Working next until) rounds past =
    arrives-some at job.steps
    (omega (arith, past, rounds at, sum_by-take-le (λ s. cond (is_arrival at s) 1 0) job.steps next))
past-arrives f place at round job (Waiting next q r number) rounds past =
    arrives-some at job.steps
    (omega (arith, past, rounds at, sum_by-take-le (λ s. cond (is_arrival at s) 1 0) job.steps next))
past-arrives f place at round job (Ended end) rounds past =
    arrives-some at job.steps (omega (arith, past, rounds at))

-- the parties of a plan's barrier are as many as the jobs that arrive there, or more
parties-enough : (plan : Plan) (at parties rounds : ℕ) → IsRunnable plan
    → slice_get (kinds_of plan.resources) at ≡ Some (Rounds parties rounds) → arriving at plan.jobs ≤ parties
parties-enough plan at parties rounds runnable is = go (slice_get plan.resources at) refl
  where
    go : (o : Option Resource) → slice_get plan.resources at ≡ o → arriving at plan.jobs ≤ parties
    go None none =
        let mapped : slice_get (kinds_of plan.resources) at ≡ None
        = slice_get-map (λ (r : Resource). r.kind) plan.resources at ∙ ap (option_map (λ (r : Resource). r.kind))
        none in
        absurd (cc)
    go (Some resource) there =
        let mapped : slice_get (kinds_of plan.resources) at ≡ Some resource.kind
        = slice_get-map (λ (r : Resource). r.kind) plan.resources at ∙ ap (option_map (λ (r : Resource). r.kind))
        there in
        let kind : resource.kind ≡ Rounds parties rounds = cc in
        let fits : IsTrue (has_parties resource.kind (arriving at plan.jobs)) = runnable.parties.at at resource there in
        leb-true (arriving at plan.jobs) parties (rw kind at fits)

count-past : (at next : ℕ) (steps : List Step) → 0 < count_by (is_arrival at) (drop next steps)
    → 0 < count_by (is_arrival at) steps
count-past at zero steps some = some
count-past at (suc next) [] some = some
count-past at (suc next) (step ∷ steps) some =
    omega (arith, count-past at next steps some, sum_by-cons (λ s. cond (is_arrival at s) 1 0) step steps)

module _ (plan : Plan) (m : Machine) (place : ℕ) (job : Job) (running : IsRunning plan m) (runnable : IsRunnable plan)
    (got_job : slice_get plan.jobs place ≡ Some job) where
  -- what is told of all jobs by their rounds
  tells-all : (at round : ℕ) → Tells m.scene.floor.rounds plan.jobs at round
  tells-all at round j y there past =
      let below : j < length m.progress = omega (arith, get-below plan.jobs j y there, running.jobs) in
      let its : (q : Progress) × (slice_get m.progress j ≡ Some q) = get-there m.progress j below in
      past-arrives m.scene.floor j at round y its.0 (running.rounds j y its.0 there its.1) past

  -- the floor has room for the job, which has made these steps, and arrives as often in those that are left
  room-so : (p : Progress) (next : ℕ) → slice_get m.progress place ≡ Some p
      → steps_left job.steps p ≡ drop next job.steps
      → ((at : ℕ) → round_of m.scene.floor place at ≡ count_by (is_arrival at) (take next job.steps))
      → HasRoom m.scene.floor place (take next job.steps) (drop next job.steps)
  room-so p next got left rounds = record {
    for = λ at.
        let count : ℕ → Type 0 = λ n. n ≤ room_at m.scene.floor at in
        subst count (ap (count_by (may_wait at)) left)
        (omega (arith, running.room at, waits-of at plan.jobs m.progress place job p got_job got));
    round = rounds;
    to_come = λ at round parties rs is low high.
        let some : 0 < count_by (is_arrival at) job.steps = count-past at next job.steps (omega (arith, low, high)) in
        let fewer : count_by (λ row. nat_lt round (get_or row at 0)) m.scene.floor.rounds < count_by (arrives at)
        plan.jobs
        = rows-below m.scene.floor.rounds plan.jobs place at round job running.rows (tells-all at round) got_job
        (arrives-some at job.steps some) low in
        let enough : arriving at plan.jobs ≤ parties
        = parties-enough plan at parties rs runnable (rw running.kinds at is) in
        omega (arith, fewer, enough, running.parties.all at round parties rs is);
  }

  pub room-of : (p : Progress) → slice_get m.progress place ≡ Some p → HasRoomFor m.scene.floor place job.steps p
  room-of (Stepping next) got = room-so (Stepping next) next got refl (running.rounds place job _ got_job got)
  room-of (Working next until) got =
      room-so (Working next until) next got refl (running.rounds place job _ got_job got)
  room-of (Waiting next at round number) got =
      room-so (Waiting next at round number) next got refl (running.rounds place job _ got_job got)
  room-of (Ended end) got = tt

-- what one job does leaves the others ready
other-ready : (place j : ℕ) (f g : PlainFloor) (wait : Option JobWait) (own : List Step) → Others place f g
    → j ≢ place → IsReady f j wait own → IsReady g j wait own
other-ready place j f g wait own others other ready =
    let held : places_held g j ≡ places_held f j = ap (map (λ h. h.at)) (others.holds j other) in
    record {
      job = record {
        waits = omega (arith, ready.job.waits, others.all_waits);
        holds = omega (arith, ready.job.holds, others.all_holds);
        rounds = omega (arith, ready.job.rounds, others.all_rounds);
        each = rw (others.kinds, others.rounds j other) ready.job.each;
      };
      waits = others.waits j other ∙ ready.waits;
      holdable = rw (others.kinds, held) ready.holdable;
      makeable = rw (others.kinds, held, others.rounds j other) ready.makeable;
    }

-- and in their rounds
other-rounds : (place j : ℕ) (f g : PlainFloor) (own : List Step) (q : Progress) → Others place f g → j ≢ place
    → IsInRounds f j own q → IsInRounds g j own q
other-rounds place j f g own (Stepping next) others other rounds =
    λ at. ap (λ row. get_or row at 0) (others.rounds j other) ∙ rounds at
other-rounds place j f g own (Working next until) others other rounds =
    λ at. ap (λ row. get_or row at 0) (others.rounds j other) ∙ rounds at
other-rounds place j f g own (Waiting next q r number) others other rounds =
    λ at. ap (λ row. get_or row at 0) (others.rounds j other) ∙ rounds at
other-rounds place j f g own (Ended end) others other rounds =
    λ at. omega (arith, rounds at, ap (λ row. get_or row at 0) (others.rounds j other))

-- and the steps at which they wait to be made again
other-back : (place j : ℕ) (f g : PlainFloor) (own : List Step) (q : Progress) → Others place f g → j ≢ place
    → IsBackIn f j own q → IsBackIn g j own q
other-back place j f g own (Stepping next) others other back = tt
other-back place j f g own (Working next until) others other back = tt
other-back place j f g own (Ended end) others other back = tt
other-back place j f g own (Waiting next q r number) others other back =
    let held : places_held g j ≡ places_held f j = ap (map (λ h. h.at)) (others.holds j other) in
    record {
      some = back.some;
      below = back.below;
      makeable = rw (others.kinds, held, others.rounds j other) back.makeable;
      rounds = rw (others.kinds, others.rounds j other) back.rounds;
      arrived = λ is.
          let was : HasArrived f j (record { at = q; round = r; number = number })
          = back.arrived (rw others.kinds at is) in
          record {
            round = rw others.kinds was.round;
            last = omega (arith, was.last, ap (λ row. get_or row q 0) (others.rounds j other));
          };
    }

-- The job that was so far, p, with this patience, x, is so far, q, with that, y, on the floor g: it is ready there, the
-- others are as they were, and the room fell no more than what is left to the job.
pub record Settled (r : Role) (f : PlainFloor) (p : Progress) (x : Patience) (g : PlainFloor) (q : Progress)
    (y : Patience) : Type 0 where
  pub ready : IsReady g r.place (wait_in q) (steps_left r.job.steps q)
  pub others : Others r.place f g
  pub rounds : IsInRounds g r.place r.job.steps q
  pub back : IsBackIn g r.place r.job.steps q
  pub room : (at : ℕ)
      → room_at f at
      + (count_by (may_wait at) (steps_left r.job.steps q) + times_at at r.job (r.job.retry - y.used))
      ≤ room_at g at
      + (count_by (may_wait at) (steps_left r.job.steps p) + times_at at r.job (r.job.retry - x.used))

-- the turn of a job that uses up no retry
pub settled-turned : (r : Role) (f : PlainFloor) (p : Progress) (x y : Patience) (a : Acted)
    → Turned r f (steps_left r.job.steps p) a → y.used ≡ x.used → Settled r f p x a.scene.floor a.progress y
settled-turned r f p x y a turned used = record {
  ready = turned.ready;
  others = turned.others;
  rounds = turned.rounds;
  back = turned.back;
  room = λ at. omega (arith, turned.room at, ap (λ n. times_at at r.job (r.job.retry - n)) used);
}

retries-set : (at : ℕ) (jobs : List Job) (patience : List Patience) (place : ℕ) (job : Job) (p q : Patience)
    → slice_get jobs place ≡ Some job → slice_get patience place ≡ Some p
    → retries_left at jobs (set patience place q) + times_at at job (job.retry - p.used)
    ≡ retries_left at jobs patience + times_at at job (job.retry - q.used)
retries-set at [] patience place job p q got_job got = absurd (cc)
retries-set at (j ∷ jobs) [] place job p q got_job got = absurd (cc)
retries-set at (j ∷ jobs) (x ∷ patience) zero job p q got_job got =
    let same_job : j ≡ job = cc in
    let same : x ≡ p = cc in
    rw (same_job, same) (omega arith)
retries-set at (j ∷ jobs) (x ∷ patience) (suc place) job p q got_job got =
    omega (arith, retries-set at jobs patience place job p q got_job got)

-- the machine in which the job is so far, with that patience
abbrev pub machine_with : Machine → ℕ → Scene → Progress → Patience → Machine
machine_with m place s q y =
    record { scene = s; progress = set m.progress place q; patience = set m.patience place y }

pub running-set : (plan : Plan) (m : Machine) (r : Role) (p q : Progress) (x y : Patience) (s : Scene)
    → IsRunning plan m
    → slice_get plan.jobs r.place ≡ Some r.job → slice_get m.progress r.place ≡ Some p
    → slice_get m.patience r.place ≡ Some x
    → Settled r m.scene.floor p x s.floor q y
    → IsRunning plan (machine_with m r.place s q y)
running-set plan m r p q x y s running got_job got got_patience settled = record {
  jobs = length-set m.progress r.place q ∙ running.jobs;
  kinds = settled.others.kinds ∙ running.kinds;
  ready = λ j job z its_job its_progress. ready j job z its_job its_progress (cases_eq j r.place);
  back = λ j job z its_job its_progress. back j job z its_job its_progress (cases_eq j r.place);
  patience = length-set m.patience r.place y ∙ running.patience;
  room = λ at. omega (
    arith,
    running.room at,
    settled.room at,
    waits-set at plan.jobs m.progress r.place r.job p q got_job got,
    retries-set at plan.jobs m.patience r.place r.job x y got_job got_patience,
  );
  rows = settled.others.all_rounds ∙ running.rows;
  rounds = λ j job z its_job its_progress. rounds j job z its_job its_progress (cases_eq j r.place);
  parties = settled.others.parties running.parties;
}
  where
    -- what is told of the job by its place, and of the others
    own : (Tells : ℕ → Job → Progress → Type 0) → Tells r.place r.job q → (j : ℕ) (job : Job) (z : Progress)
        → slice_get plan.jobs j ≡ Some job → slice_get (set m.progress r.place q) j ≡ Some z → j ≡ r.place
        → Tells j job z
    own Tells told j job z its_job its_progress here =
        let now : slice_get (set m.progress r.place q) r.place ≡ Some q
        = get-set_here m.progress r.place p q got in
        let there : slice_get (set m.progress r.place q) r.place ≡ Some z = rw here at its_progress in
        let own_job : slice_get plan.jobs r.place ≡ Some job = rw here at its_job in
        let same_job : job ≡ r.job = cc in
        let same : z ≡ q = cc in
        rw (here, same_job, same) told

    before : (j : ℕ) (z : Progress) → slice_get (set m.progress r.place q) j ≡ Some z → j ≢ r.place
        → slice_get m.progress j ≡ Some z
    before j z its_progress other =
        sym (get-set_else m.progress r.place j q (λ e. other (sym e))) ∙ its_progress

    ready : (j : ℕ) (job : Job) (z : Progress) → slice_get plan.jobs j ≡ Some job
        → slice_get (set m.progress r.place q) j ≡ Some z → (j ≡ r.place) ⊎ (j ≢ r.place)
        → IsReady s.floor j (wait_in z) (steps_left job.steps z)
    ready j job z its_job its_progress (inl here) =
        own (λ j job z. IsReady s.floor j (wait_in z) (steps_left job.steps z)) settled.ready j job z its_job
        its_progress here
    ready j job z its_job its_progress (inr other) =
        other-ready r.place j m.scene.floor s.floor (wait_in z) (steps_left job.steps z) settled.others other
        (running.ready j job z its_job (before j z its_progress other))

    back : (j : ℕ) (job : Job) (z : Progress) → slice_get plan.jobs j ≡ Some job
        → slice_get (set m.progress r.place q) j ≡ Some z → (j ≡ r.place) ⊎ (j ≢ r.place)
        → IsBackIn s.floor j job.steps z
    back j job z its_job its_progress (inl here) =
        own (λ j job z. IsBackIn s.floor j job.steps z) settled.back j job z its_job its_progress here
    back j job z its_job its_progress (inr other) =
        other-back r.place j m.scene.floor s.floor job.steps z settled.others other
        (running.back j job z its_job (before j z its_progress other))

    rounds : (j : ℕ) (job : Job) (z : Progress) → slice_get plan.jobs j ≡ Some job
        → slice_get (set m.progress r.place q) j ≡ Some z → (j ≡ r.place) ⊎ (j ≢ r.place)
        → IsInRounds s.floor j job.steps z
    rounds j job z its_job its_progress (inl here) =
        own (λ j job z. IsInRounds s.floor j job.steps z) settled.rounds j job z its_job its_progress here
    rounds j job z its_job its_progress (inr other) =
        other-rounds r.place j m.scene.floor s.floor job.steps z settled.others other
        (running.rounds j job z its_job (before j z its_progress other))
