-- What every event keeps holds after every turn: the principle by which the laws of events are proved.
use Rattle.std.proofs.Common.{◌≡◌, ℕ, ◌+◌, ◌-◌, ◌<◌, List, [], ◌∷◌, ◌++◌, Bool, true, false, nat_lt, ◌==◌, Option, Some, None, length, drop, slice_get, refl, sym, subst, eq-eqb, arith}
use Rattle.std.specs.Bool.{if◌then◌else◌}
use Rattle.cqs_core.proofs.Places.{get-below, get-there}
use Rattle.cqs_plan.specs.declared.plans.job.Job.{Job}
use Rattle.cqs_plan.specs.declared.plans.plan.Plan.{Plan}
use Rattle.cqs_plan.specs.declared.plans.step.Step.{Step}
use Rattle.cqs_plan.specs.declared.plans.step.Step.TheVariants.{Take, Give, Down, Await, Arrive, Work}
use Rattle.cqs_plan.specs.declared.floors.answers.FloorTake.{FloorTake}
use Rattle.cqs_plan.specs.declared.floors.answers.FloorTake.TheVariants.{Now, Waits}
use Rattle.cqs_plan.specs.declared.floors.answers.FloorLook.{FloorLook}
use Rattle.cqs_plan.specs.declared.floors.answers.FloorLook.TheVariants.{Pending, Granted}
use Rattle.cqs_plan.specs.declared.floors.answers.FloorLeave.TheVariants as leave
use Rattle.cqs_plan.specs.Floor.{PlainFloor, IsJob, IsHoldable, IsLatch, HasRound, round_of, wait_of}
use Rattle.cqs_plan.specs.FloorCalls.{take_answer, give_answer, wait_answer, arrive_answer, down_answer, look_answer, leave_answer, after_look}
use Rattle.cqs_plan.specs.Runnable.{IsRunnable}
use Rattle.cqs_turns_report.specs.declared.lines.Told.TheVariants as told
use Rattle.cqs_turns_report.specs.declared.lines.Told.{Told}
use Rattle.cqs_turns_report.specs.declared.states.Patience.{Patience}
use Rattle.cqs_turns_report.specs.declared.states.Progress.{Progress}
use Rattle.cqs_turns_report.specs.declared.states.Progress.TheVariants.{Stepping, Working, Waiting, Ended}
use Rattle.cqs_turns_report.specs.Ready.{IsReady, CanRetry, CanRetryIn, wait_in, steps_left, is_held}
use Rattle.cqs_turns_report.specs.Roles.{wait_at}
use Rattle.cqs_turns_report.specs.Running.{IsRunning}
use Rattle.cqs_turns_report.specs.Turns.{Role, Scene, Made, Acted, Machine, event, take_told, give_told, leave_told, down_told, wait_told, arrive_told, on_take, on_give, on_down, on_wait, on_arrive, after_gives, after_step, after_coming, stop_or, after_steps, after_last_step, on_leave, on_retry, after_giving_up, after_looking, after_retrying, after_waiting_long, after_acting, is_over_time, may_retry, retries, one_job, opening_machine, machine_after, places_held, left_at, go_on}
use Rattle.cqs_turns_report.proofs.Opened.{opening-running}
use Rattle.cqs_turns_report.proofs.Readied.{first-given, first-ready, leave-ready, after_looking-ready, can-give}
use Rattle.cqs_turns_report.proofs.Stepping.{after_step-ready}
use Rattle.cqs_turns_report.proofs.TurnKept.{acts, acts-again}
use Rattle.cqs_turns_laws.specs.Events.{Line}
use Rattle.cqs_turns_laws.proofs.Everywhere.{always}
use Rattle.cqs_turns_laws.proofs.OwnTurn.{patience_at, retries-gone, retries-may, role_of}
use Rattle.cqs_turns_laws.proofs.Kept.{has-patience, one-job-is}

-- one of the plan's jobs
pub record IsActor (plan : Plan) (r : Role) : Type 0 where
  pub resources : r.resources ≡ plan.resources
  pub job : slice_get plan.jobs r.place ≡ Some r.job

-- the job can take from this resource
pub record CanTake (f : PlainFloor) (place at : ℕ) : Type 0 where
  pub job : IsJob f place
  pub idle : wait_of f place ≡ None
  pub kind : IsHoldable (slice_get f.kinds at)

-- the job holds something of this resource
pub record CanGive (f : PlainFloor) (place at : ℕ) : Type 0 where
  pub job : IsJob f place
  pub held : is_held at (places_held f place) ≡ true
  pub kind : IsHoldable (slice_get f.kinds at)

-- the job can wait at this latch
pub record CanAwait (f : PlainFloor) (place at : ℕ) : Type 0 where
  pub job : IsJob f place
  pub idle : wait_of f place ≡ None
  pub kind : IsLatch (slice_get f.kinds at)

-- the job can arrive at this barrier
pub record CanArrive (f : PlainFloor) (place at : ℕ) : Type 0 where
  pub job : IsJob f place
  pub idle : wait_of f place ≡ None
  pub kind : HasRound (slice_get f.kinds at) (round_of f place at)

-- the job has this wait
pub record HasWait (f : PlainFloor) (place at round number : ℕ) : Type 0 where
  pub job : IsJob f place
  pub waits : wait_of f place ≡ Some (wait_at at round number)

-- each event of the plan's jobs keeps the fact
pub record IsKeptByEvents (plan : Plan) (P : Scene → Type 0) : Type 0 where
  pub takes : (r : Role) (at : ℕ) (s : Scene) → IsActor plan r → CanTake s.floor r.place at → P s
      → P (on_take r at (take_answer s.floor at r.place) s)
  pub gives : (r : Role) (at : ℕ) (s : Scene) → IsActor plan r → CanGive s.floor r.place at → P s → P (on_give r at s)
  pub serves : (r : Role) (at round number element : ℕ) (s : Scene) → IsActor plan r
      → HasWait s.floor r.place at round number
      → look_answer s.floor r.place ≡ Granted element → P s
      → P (event r s (after_look s.floor r.place (Granted element)) (told.Served at round number element))
  pub leaves : (r : Role) (at round number : ℕ) (s : Scene) → IsActor plan r
      → HasWait s.floor r.place at round number → P s
      → P (on_leave r at round number (leave_answer s.floor r.place) s)
  pub retries : (r : Role) (at round number : ℕ) (s : Scene) → IsActor plan r
      → HasWait s.floor r.place at round number → leave_answer s.floor r.place ≡ leave.Gone → P s
      → P (on_retry r at round number s)
  pub downs : (r : Role) (at : ℕ) (s : Scene) → IsActor plan r → IsLatch (slice_get s.floor.kinds at) → P s
      → P (on_down r at s)
  pub awaits : (r : Role) (at : ℕ) (s : Scene) → IsActor plan r → CanAwait s.floor r.place at → P s
      → P (on_wait r at (wait_answer s.floor at) s)
  pub arrives : (r : Role) (at : ℕ) (s : Scene) → IsActor plan r → CanArrive s.floor r.place at → P s
      → P (on_arrive r at (arrive_answer s.floor at r.place) s)
  pub ends : (r : Role) (s : Scene) → IsActor plan r → P s → P (event r s s.floor told.Done)

-- the line of an event
abbrev pub line_of : Role → Told → Line
line_of r t = record { turn = r.turn; job = r.place; told = t }

-- each event of the plan's jobs keeps the fact, with its line after those before
pub record IsToldByEvents (plan : Plan) (P : Scene → List Line → Type 0) : Type 0 where
  pub takes : (r : Role) (at : ℕ) (s : Scene) (lines : List Line) → IsActor plan r → CanTake s.floor r.place at
      → P s lines
      → P (on_take r at (take_answer s.floor at r.place) s)
      (lines ++ line_of r (take_told at (take_answer s.floor at r.place)) ∷ [])
  pub gives : (r : Role) (at : ℕ) (s : Scene) (lines : List Line) → IsActor plan r → CanGive s.floor r.place at
      → P s lines → P (on_give r at s) (lines ++ line_of r (give_told at (give_answer s.floor at r.place)) ∷ [])
  pub serves : (r : Role) (at round number element : ℕ) (s : Scene) (lines : List Line) → IsActor plan r
      → HasWait s.floor r.place at round number
      → look_answer s.floor r.place ≡ Granted element → P s lines
      → P (event r s (after_look s.floor r.place (Granted element)) (told.Served at round number element))
      (lines ++ line_of r (told.Served at round number element) ∷ [])
  pub leaves : (r : Role) (at round number : ℕ) (s : Scene) (lines : List Line) → IsActor plan r
      → HasWait s.floor r.place at round number → P s lines
      → P (on_leave r at round number (leave_answer s.floor r.place) s)
      (lines ++ line_of r (leave_told at round number (leave_answer s.floor r.place)) ∷ [])
  pub retries : (r : Role) (at round number : ℕ) (s : Scene) (lines : List Line) → IsActor plan r
      → HasWait s.floor r.place at round number → leave_answer s.floor r.place ≡ leave.Gone → P s lines
      → P (on_retry r at round number s) (lines ++ line_of r (told.Retries at round number) ∷ [])
  pub downs : (r : Role) (at : ℕ) (s : Scene) (lines : List Line) → IsActor plan r
      → IsLatch (slice_get s.floor.kinds at) → P s lines
      → P (on_down r at s) (lines ++ line_of r (down_told at (down_answer s.floor at)) ∷ [])
  pub awaits : (r : Role) (at : ℕ) (s : Scene) (lines : List Line) → IsActor plan r → CanAwait s.floor r.place at
      → P s lines
      → P (on_wait r at (wait_answer s.floor at) s)
      (lines ++ line_of r (wait_told at (wait_answer s.floor at)) ∷ [])
  pub arrives : (r : Role) (at : ℕ) (s : Scene) (lines : List Line) → IsActor plan r → CanArrive s.floor r.place at
      → P s lines
      → P (on_arrive r at (arrive_answer s.floor at r.place) s)
      (lines ++ line_of r (arrive_told at (round_of s.floor r.place at) (arrive_answer s.floor at r.place)) ∷ [])
  pub ends : (r : Role) (s : Scene) (lines : List Line) → IsActor plan r → P s lines
      → P (event r s s.floor told.Done) (lines ++ line_of r told.Done ∷ [])

module _ (plan : Plan) (P : Scene → Type 0) (kept : IsKeptByEvents plan P) where
  module _ (r : Role) (actor : IsActor plan r) where
    after_gives-keeps : (places : List ℕ) (s : Scene) → IsReady s.floor r.place None []
        → places_held s.floor r.place ≡ places → P s → P (after_gives r places s)
    after_gives-keeps [] s ready held holds = holds
    after_gives-keeps (at ∷ places) s ready held holds =
        let first : at == at ≡ true = eq-eqb at at refl in
        let there : is_held at (at ∷ places) ≡ true = rw first refl in
        let can : CanGive s.floor r.place at = record {
          job = ready.job;
          held = rw held there;
          kind = (rw held at ready.holdable).0;
        } in
        after_gives-keeps places (on_give r at s)
        (first-ready s.floor r.place at (give_answer s.floor at r.place) ready)
        (first-given s.floor r.place at places (give_answer s.floor at r.place) ready.job held)
        (kept.gives r at s actor can holds)

    after_last_step-keeps : (s : Scene) → IsReady s.floor r.place None [] → P s → P (after_last_step r s).scene
    after_last_step-keeps s ready holds =
        kept.ends r _ actor (after_gives-keeps (places_held s.floor r.place) s ready refl holds)

    after_coming-keeps : (next at round : ℕ) (on : FloorTake → Scene → Scene) (answer : FloorTake) (s : Scene)
        → P (on answer s) → P (after_coming next at round on answer s).scene
    after_coming-keeps next at round on (Now element) s holds = holds
    after_coming-keeps next at round on (Waits number) s holds = holds

    after_step-keeps : (next : ℕ) (step : Step) (rest : List Step) (s : Scene)
        → IsReady s.floor r.place None (step ∷ rest)
        → P s → P (after_step r next step s).scene
    after_step-keeps next (Work turns) rest s ready holds = holds
    after_step-keeps next (Take at) rest s ready holds =
        after_coming-keeps next at 0 (on_take r at) (take_answer s.floor at r.place) s
        (kept.takes r at s actor (record { job = ready.job; idle = ready.waits; kind = ready.makeable.0 }) holds)
    after_step-keeps next (Give at) rest s ready holds =
        kept.gives r at s actor
        (record { job = ready.job; held = ready.makeable.0; kind = can-give s.floor r.place at rest ready }) holds
    after_step-keeps next (Down at) rest s ready holds = kept.downs r at s actor ready.makeable.0 holds
    after_step-keeps next (Await at) rest s ready holds =
        after_coming-keeps next at 0 (on_wait r at) (wait_answer s.floor at) s
        (kept.awaits r at s actor (record { job = ready.job; idle = ready.waits; kind = ready.makeable.0 }) holds)
    after_step-keeps next (Arrive at) rest s ready holds =
        after_coming-keeps next at (round_of s.floor r.place at) (on_arrive r at) (arrive_answer s.floor at r.place) s
        (kept.arrives r at s actor (record { job = ready.job; idle = ready.waits; kind = ready.makeable.0 }) holds)

    stop-keeps : (scene : Scene) (stops : Option Progress) (onward : Acted) → P scene
        → (stops ≡ None → P onward.scene) → P (stop_or (record { scene = scene; stops = stops }) onward).scene
    stop-keeps scene None onward holds goes = goes refl
    stop-keeps scene (Some p) onward holds goes = holds

    after_steps-keeps : (steps : List Step) (next : ℕ) (s : Scene) → IsReady s.floor r.place None steps → P s
        → P (after_steps r steps next s).scene
    after_steps-keeps [] next s ready holds = after_last_step-keeps s ready holds
    after_steps-keeps (step ∷ rest) next s ready holds =
        let m : Made = after_step r next step s in
        let after : P m.scene = after_step-keeps next step rest s ready holds in
        stop-keeps m.scene m.stops (after_steps r rest (next + 1) m.scene) after
        (λ none. after_steps-keeps rest (next + 1) m.scene (rw none at (after_step-ready r next step rest s ready))
        after)

    if-keeps : (b : Bool) (a c : Acted) → P a.scene → P c.scene → P (if b then a else c).scene
    if-keeps true a c here there = here
    if-keeps false a c here there = there

    waits-so : (s : Scene) (at round number : ℕ) (steps : List Step)
        → IsReady s.floor r.place (Some (wait_at at round number)) steps
        → HasWait s.floor r.place at round number
    waits-so s at round number steps ready = record { job = ready.job; waits = ready.waits }

    after_giving_up-keeps : (at round number : ℕ) (s : Scene) (steps : List Step)
        → IsReady s.floor r.place (Some (wait_at at round number)) steps → P s
        → P (after_giving_up r at round number (leave_answer s.floor r.place) s).scene
    after_giving_up-keeps at round number s steps ready holds =
        let t : Scene = on_leave r at round number (leave_answer s.floor r.place) s in
        after_gives-keeps (places_held t.floor r.place) t
        (leave-ready s.floor r.place (wait_at at round number) (leave_answer s.floor r.place) steps ready) refl
        (kept.leaves r at round number s actor (waits-so s at round number steps ready) holds)

    after_looking-keeps : (next at round number : ℕ) (answer : FloorLook) (s : Scene)
        → IsReady s.floor r.place (Some (wait_at at round number)) (drop next r.job.steps)
        → look_answer s.floor r.place ≡ answer → P s → P (after_looking r next at round number answer s).scene
    after_looking-keeps next at round number Pending s ready same holds = holds
    after_looking-keeps next at round number (Granted element) s ready same holds =
        after_steps-keeps (drop next r.job.steps) next _
        (after_looking-ready s.floor r.place (wait_at at round number) element (drop next r.job.steps) ready)
        (kept.serves r at round number element s actor (waits-so s at round number (drop next r.job.steps) ready)
        same holds)

    after_waiting_long-keeps : (x : Patience) (next at round number : ℕ) (s : Scene)
        → IsReady s.floor r.place (Some (wait_at at round number)) (drop next r.job.steps)
        → (may_retry r x ≡ true → CanRetry s.floor r.place r.job.steps next) → P s
        → P (after_waiting_long r x next at round number (leave_answer s.floor r.place) s).scene
    after_waiting_long-keeps x next at round number s ready again holds =
        by (retries r x (leave_answer s.floor r.place)) refl
      where
        by : (b : Bool) → retries r x (leave_answer s.floor r.place) ≡ b
            → P (if b then after_retrying r next at round number s
            else after_giving_up r at round number (leave_answer s.floor r.place) s).scene
        by true is =
            after_steps-keeps (drop (next - 1) r.job.steps) (next - 1) (on_retry r at round number s)
            (again (retries-may r x (leave_answer s.floor r.place) is)).ready
            (kept.retries r at round number s actor (waits-so s at round number (drop next r.job.steps) ready)
            (retries-gone r x (leave_answer s.floor r.place) is) holds)
        by false is = after_giving_up-keeps at round number s (drop next r.job.steps) ready holds

    pub after_acting-keeps : (x : Patience) (p : Progress) (s : Scene)
        → IsReady s.floor r.place (wait_in p) (steps_left r.job.steps p) → CanRetryIn s.floor r x p → P s
        → P (after_acting r x p s).scene
    after_acting-keeps x (Stepping next) s ready again holds =
        after_steps-keeps (drop next r.job.steps) next s ready holds
    after_acting-keeps x (Working next until) s ready again holds =
        if-keeps (nat_lt r.turn until) (left_at s (Working next until)) (go_on r next s) holds
        (after_steps-keeps (drop next r.job.steps) next s ready holds)
    after_acting-keeps x (Waiting next at round number) s ready again holds =
        if-keeps (is_over_time r x) (after_waiting_long r x next at round number (leave_answer s.floor r.place) s)
        (after_looking r next at round number (look_answer s.floor r.place) s)
        (after_waiting_long-keeps x next at round number s ready again holds)
        (after_looking-keeps next at round number (look_answer s.floor r.place) s ready refl holds)
    after_acting-keeps x (Ended end) s ready again holds = holds

  -- the machine runs, and its scene keeps the fact
  record Holds (m : Machine) : Type 0 where
    running : IsRunning plan m
    holds : P m.scene

  one-job-holds : IsRunnable plan → (turn place : ℕ) (job : Job) (m : Machine) → slice_get plan.jobs place ≡ Some job
      → Holds m → Holds (one_job plan.resources turn place job m)
  one-job-holds runnable turn place job m there h =
      let below : place < length m.progress = omega (arith, h.running.jobs, get-below plan.jobs place job there) in
      let own : (p : Progress) × (slice_get m.progress place ≡ Some p) = get-there m.progress place below in
      let p : Progress = own.0 in
      let r : Role = role_of plan.resources turn place job in
      let x : Patience = patience_at m place in
      let patience : slice_get m.patience place ≡ Some x = has-patience plan m place job h.running there in
      let ready : IsReady m.scene.floor place (wait_in p) (steps_left job.steps p)
      = h.running.ready place job p there own.1 in
      subst Holds (sym (one-job-is plan.resources turn place job m p own.1)) (record {
        running = (acts plan m r x h.running runnable there patience p own.1).running;
        holds = after_acting-keeps r (record { resources = refl; job = there }) x p m.scene ready
            (acts-again plan m r x h.running runnable there patience p own.1) h.holds;
      })

  pub always-holds : (turns : ℕ) → IsRunnable plan → P (opening_machine plan).scene
      → P (machine_after plan turns).scene
  always-holds turns runnable opens =
      (always plan Holds (record { running = opening-running plan runnable; holds = opens })
      (one-job-holds runnable)
      turns).holds
