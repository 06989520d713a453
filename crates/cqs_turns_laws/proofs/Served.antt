-- Who waits and isn't in the line any more is served, or late, in its next turn.
use Rattle.std.proofs.Common.{◌≡◌, ◌≢◌, ◌⊎◌, inl, inr, ℕ, suc, ◌+◌, ◌<◌, ◌≤◌, List, [], ◌∷◌, ◌++◌, Bool, true, false, Option, Some, None, length, set, drop, slice_get, refl, sym, ap, subst, ◌∙◌, arith}
use Rattle.std.specs.Bool.{if◌then◌else◌}
use Rattle.std.proofs.lemmas.Bool.{cases_eq}
use Rattle.cqs_core.specs.QueueLine.{Waiting as InLine}
use Rattle.cqs_core.proofs.Places.{get-below, get-set_here, get-set_else, get-there}
use Rattle.cqs_plan.specs.declared.plans.job.Job.{Job}
use Rattle.cqs_plan.specs.declared.plans.plan.Plan.{Plan}
use Rattle.cqs_plan.specs.declared.plans.step.Step.{Step}
use Rattle.cqs_plan.specs.declared.plans.step.Step.TheVariants.{Take, Give, Down, Await, Arrive, Work}
use Rattle.cqs_plan.specs.declared.floors.answers.FloorTake.{FloorTake}
use Rattle.cqs_plan.specs.declared.floors.answers.FloorTake.TheVariants.{Now, Waits}
use Rattle.cqs_plan.specs.declared.floors.answers.FloorDown.{FloorDown}
use Rattle.cqs_plan.specs.declared.floors.answers.FloorDown.TheVariants.{Left, Last, Already}
use Rattle.cqs_plan.specs.declared.floors.answers.FloorLook.{FloorLook}
use Rattle.cqs_plan.specs.declared.floors.answers.FloorLook.TheVariants.{Pending, Granted}
use Rattle.cqs_plan.specs.declared.floors.answers.FloorLeave.{FloorLeave}
use Rattle.cqs_plan.specs.declared.floors.answers.FloorLeave.TheVariants as leave
use Rattle.cqs_plan.specs.FloorHistory.{Deed, takes, joins, frees, sends, gets, leaves, is_late, passes, counts, opens, is_open, completes}
use Rattle.cqs_plan.specs.Floor.{PlainFloor, JobWait, Holding, came_to, first_free_at, history_at, holds_of, is_holdable, oldest, round_of, standing_at, stands_in, wait_of, with_done_in, with_newest, with_wait}
use Rattle.cqs_plan.specs.FloorCalls.{after_take, after_give, after_down, after_wait, after_arrive, after_leave, down_answer, give_of, is_in_line, leave_answer, look_answer, with_granted, with_left}
use Rattle.cqs_plan.specs.Runnable.{IsRunnable}
use Rattle.cqs_turns_report.specs.declared.states.Patience.{Patience}
use Rattle.cqs_turns_report.specs.declared.states.Progress.{Progress}
use Rattle.cqs_turns_report.specs.declared.states.Progress.TheVariants.{Stepping, Working, Waiting, Ended}
use Rattle.cqs_turns_report.specs.Ready.{IsReady, wait_in, steps_left}
use Rattle.cqs_turns_report.specs.Roles.{wait_at}
use Rattle.cqs_turns_report.specs.Running.{IsRunning}
use Rattle.cqs_turns_report.specs.Turns.{Role, Scene, Acted, Machine, after_acting, after_coming, after_looking, after_step, after_steps, after_waiting_long, is_over_time, machine_after, on_arrive, on_take, on_wait, one_job, patience_after, stop_or}
use Rattle.cqs_turns_report.proofs.TurnKept.{acts, acts-again}
use Rattle.cqs_turns_laws.specs.Endings.{NoWaitOutlivesItsService}
use Rattle.cqs_turns_laws.specs.Events.{Line}
use Rattle.cqs_turns_laws.proofs.DeedParts.{HasPart}
use Rattle.cqs_turns_laws.proofs.Deeds.{JoinsNext}
use Rattle.cqs_turns_laws.proofs.Everywhere.{through-turn}
use Rattle.cqs_turns_laws.proofs.JobStories.{told-of}
use Rattle.cqs_turns_laws.proofs.Kept.{has-patience, one-job-is, with_acted}
use Rattle.cqs_turns_laws.proofs.Leaving.{IsGone, Later, later-by}
use Rattle.cqs_turns_laws.proofs.Lifting.{IsKeptByEvents, HasWait, after_acting-keeps}
use Rattle.cqs_turns_laws.proofs.Lined.{changed_floor}
use Rattle.cqs_turns_laws.proofs.Objects.{holdable-below, latch-below, round-below}
use Rattle.cqs_turns_laws.proofs.OwnTurn.{patience_at, role_of}
use Rattle.cqs_turns_laws.proofs.Telling.{IsTelling, told-by-events, there-of, held-there, latch-there, round-there, wait-there}

-- what each call makes of the lines
module _ (f : PlainFloor) (place at : ℕ) (there : at < length f.histories) where
  takes-later : (b : Bool) → HasPart (history_at f at) 0
      → Later f (after_take f at place (if b then Now (first_free_at f at) else Waits (standing_at f at).next))
  takes-later true part = later-by f at 0 (takes (first_free_at f at)) there part tt _ f.waits _ f.rounds
  takes-later false part = later-by f at 0 (joins (standing_at f at).next) there part refl _ _ f.holds f.rounds

  gives-later : (line : List InLine) → HasPart (history_at f at) 0
      → Later f (after_give f at place (give_of line (oldest at (holds_of f place))))
  gives-later [] part = later-by f at 0 (frees _) there part tt f.room f.waits _ f.rounds
  gives-later (first ∷ line) part = later-by f at 0 (sends _ first.wait) there part tt f.room f.waits _ f.rounds

  downs-later : (answer : FloorDown) → HasPart (history_at f at) 0 → Later f (after_down f at answer)
  downs-later (Left n) part = later-by f at 0 (counts n) there part tt f.room f.waits f.holds f.rounds
  downs-later Last part = later-by f at 0 opens there part tt f.room f.waits f.holds f.rounds
  downs-later Already part = later-by f at 0 is_open there part tt f.room f.waits f.holds f.rounds

  awaits-later : (b : Bool) → HasPart (history_at f at) 0
      → Later f (after_wait f at place (if b then Waits (standing_at f at).next else Now 0))
  awaits-later true part = later-by f at 0 (joins (standing_at f at).next) there part refl _ _ f.holds f.rounds
  awaits-later false part = later-by f at 0 passes there part tt _ f.waits f.holds f.rounds

  arrives-later : (b : Bool) → HasPart (history_at f at) (round_of f place at)
      → Later f (after_arrive f at place
      (if b then Waits (stands_in f at (round_of f place at)).next else Now 0))
  arrives-later true part =
      later-by f at (round_of f place at) (joins (stands_in f at (round_of f place at)).next) there part refl _ _
      f.holds _
  arrives-later false part = later-by f at (round_of f place at) completes there part tt _ f.waits f.holds _

  granted-later : (round number element : ℕ) (deed : ℕ → ℕ → Deed) → HasWait f place at round number
      → HasPart (history_at f at) round → ((n : ℕ) → JoinsNext n (deed number element))
      → Later f (with_granted f place deed (wait_of f place) element)
  granted-later round number element deed has part fits =
      let Goal : Option JobWait → Type 0 = λ o. Later f (with_granted f place deed o element) in
      subst Goal (sym has.waits) (by (is_holdable f at)) where
        over : PlainFloor
        over = with_wait (with_done_in f at round (deed number element)) place None

        held : (holds : List (List Holding)) → Later f
            (changed_floor f at round (deed number element) f.room (set f.waits place None) holds f.rounds)
        held holds =
            later-by f at round (deed number element) there part (fits (stands_in f at round).next) f.room
            (set f.waits place None) holds f.rounds

        by : (b : Bool) → Later f (if b then with_newest over place at element else over)
        by true = held (set f.holds place (holds_of f place ++ record { at = at; element = element } ∷ []))
        by false = held f.holds

  leaves-later : (round number : ℕ) (answer : FloorLeave) → HasWait f place at round number
      → HasPart (history_at f at) round → Later f (after_leave f place answer)
  leaves-later round number leave.Gone has part =
      let Goal : Option JobWait → Type 0 = λ o. Later f (with_left f place o) in
      subst Goal (sym has.waits) (later-by f at round (leaves number) there part tt f.room _ f.holds _)
  leaves-later round number (leave.Late element) has part =
      granted-later round number element is_late has part (λ n. tt)

-- the scene tells its events, and who was gone is
record IsAfter (plan : Plan) (f : PlainFloor) (s : Scene) : Type 0 where
  lines : List Line
  tells : IsTelling plan s lines
  later : Later f s.floor

after-kept : (plan : Plan) (f : PlainFloor) → IsKeptByEvents plan (IsAfter plan f)
after-kept plan f = record {
  takes = λ r at s actor can h. record {
    lines = _;
    tells = (told-by-events plan).takes r at s h.lines actor can h.tells;
    later = λ q n k gone. takes-later s.floor r.place at
        (there-of plan r actor s h.lines h.tells at (holdable-below s.floor.kinds at can.kind)) _
        (held-there plan r actor s h.lines h.tells at can.kind) q n k (h.later q n k gone);
  };
  gives = λ r at s actor can h. record {
    lines = _;
    tells = (told-by-events plan).gives r at s h.lines actor can h.tells;
    later = λ q n k gone. gives-later s.floor r.place at
        (there-of plan r actor s h.lines h.tells at (holdable-below s.floor.kinds at can.kind))
        (standing_at s.floor at).line
        (held-there plan r actor s h.lines h.tells at can.kind) q n k (h.later q n k gone);
  };
  serves = λ r at round number element s actor has served h. record {
    lines = _;
    tells = (told-by-events plan).serves r at round number element s h.lines actor has served h.tells;
    later = λ q n k gone. granted-later s.floor r.place at
        (wait-there plan r actor s h.lines h.tells at round number has) round number element gets has
        (h.tells.lined.parts r.place (wait_at at round number) has.waits) (λ m. tt) q n k (h.later q n k gone);
  };
  leaves = λ r at round number s actor has h. record {
    lines = _;
    tells = (told-by-events plan).leaves r at round number s h.lines actor has h.tells;
    later = λ q n k gone. leaves-later s.floor r.place at
        (wait-there plan r actor s h.lines h.tells at round number has) round number (leave_answer s.floor r.place) has
        (h.tells.lined.parts r.place (wait_at at round number) has.waits) q n k (h.later q n k gone);
  };
  retries = λ r at round number s actor has gone h. record {
    lines = _;
    tells = (told-by-events plan).retries r at round number s h.lines actor has gone h.tells;
    later = λ q n k before. leaves-later s.floor r.place at
        (wait-there plan r actor s h.lines h.tells at round number has) round number leave.Gone has
        (h.tells.lined.parts r.place (wait_at at round number) has.waits) q n k (h.later q n k before);
  };
  downs = λ r at s actor kind h. record {
    lines = _;
    tells = (told-by-events plan).downs r at s h.lines actor kind h.tells;
    later = λ q n k gone. downs-later s.floor r.place at
        (there-of plan r actor s h.lines h.tells at (latch-below s.floor.kinds at kind)) (down_answer s.floor at)
        (latch-there plan r actor s h.lines h.tells at kind) q n k (h.later q n k gone);
  };
  awaits = λ r at s actor can h. record {
    lines = _;
    tells = (told-by-events plan).awaits r at s h.lines actor can h.tells;
    later = λ q n k gone. awaits-later s.floor r.place at
        (there-of plan r actor s h.lines h.tells at (latch-below s.floor.kinds at can.kind)) _
        (latch-there plan r actor s h.lines h.tells at can.kind) q n k (h.later q n k gone);
  };
  arrives = λ r at s actor can h. record {
    lines = _;
    tells = (told-by-events plan).arrives r at s h.lines actor can h.tells;
    later = λ q n k gone. arrives-later s.floor r.place at
        (there-of plan r actor s h.lines h.tells at
        (round-below s.floor.kinds at (round_of s.floor r.place at) can.kind)) _
        (round-there plan r actor s h.lines h.tells at (round_of s.floor r.place at) can.kind) q n k
        (h.later q n k gone);
  };
  ends = λ r s actor h. record {
    lines = _;
    tells = (told-by-events plan).ends r s h.lines actor h.tells;
    later = h.later;
  };
}

-- it waits for no step before this one
abbrev IsPast : ℕ → Progress → Type 0
IsPast next (Stepping n) = Unit {0}
IsPast next (Working n until) = Unit {0}
IsPast next (Waiting n at round number) = next < n
IsPast next (Ended e) = Unit {0}

past-more : (next : ℕ) (p : Progress) → IsPast (next + 1) p → IsPast next p
past-more next (Stepping n) past = tt
past-more next (Working n until) past = tt
past-more next (Waiting n at round number) past = omega (arith, past)
past-more next (Ended e) past = tt

past-coming : (r : Role) (next at round : ℕ) (on : FloorTake → Scene → Scene) (answer : FloorTake) (rest : List Step)
    (s : Scene) → ((t : Scene) → IsPast (next + 1) (after_steps r rest (next + 1) t).progress)
    → IsPast next (stop_or (after_coming next at round on answer s)
    (after_steps r rest (next + 1) (after_coming next at round on answer s).scene)).progress
past-coming r next at round on (Now element) rest s onward = past-more next _ (onward (on (Now element) s))
past-coming r next at round on (Waits number) rest s onward = omega arith

steps-past : (r : Role) (steps : List Step) (next : ℕ) (s : Scene)
    → IsPast next (after_steps r steps next s).progress
steps-past r [] next s = tt
steps-past r (Work turns ∷ rest) next s = tt
steps-past r (Take at ∷ rest) next s =
    past-coming r next at 0 (on_take r at) _ rest s (λ t. steps-past r rest (next + 1) t)
steps-past r (Give at ∷ rest) next s =
    past-more next _ (steps-past r rest (next + 1) (after_step r next (Give at) s).scene)
steps-past r (Down at ∷ rest) next s =
    past-more next _ (steps-past r rest (next + 1) (after_step r next (Down at) s).scene)
steps-past r (Await at ∷ rest) next s =
    past-coming r next at 0 (on_wait r at) _ rest s (λ t. steps-past r rest (next + 1) t)
steps-past r (Arrive at ∷ rest) next s =
    past-coming r next at (round_of s.floor r.place at) (on_arrive r at) _ rest s
    (λ t. steps-past r rest (next + 1) t)

-- a job that looks, or is over time, and isn't in the line, waits no longer for this step
looks-past : (r : Role) (x : Patience) (next at round number : ℕ) (s : Scene)
    → wait_of s.floor r.place ≡ Some (wait_at at round number)
    → is_in_line s.floor (wait_at at round number) ≡ false
    → IsPast next (after_acting r x (Waiting next at round number) s).progress
looks-past r x next at round number s waits away = by (is_over_time r x)
  where
    looks : (answer : FloorLook) → answer ≢ Pending
        → IsPast next (after_looking r next at round number answer s).progress
    looks Pending some = absurd (some refl)
    looks (Granted element) some = steps-past r (drop next r.job.steps) next _

    some : look_answer s.floor r.place ≢ Pending
    some is = let no : Granted _ ≡ Pending = rw (waits, away) at is in absurd (cc)

    -- it is late
    late : leave_answer s.floor r.place ≡ leave.Late (came_to s.floor (wait_at at round number))
    late = rw (waits, away) refl

    by : (b : Bool)
        → IsPast next (if b then after_waiting_long r x next at round number (leave_answer s.floor r.place) s
        else after_looking r next at round number (look_answer s.floor r.place) s).progress
    by true = rw late tt
    by false = looks (look_answer s.floor r.place) some

waits-no_more : (next at round number : ℕ) (p : Progress) → IsPast next p → p ≢ Waiting next at round number
waits-no_more next at round number p past is =
    let no : next < next = subst (IsPast next) is past in omega (arith, no)

-- in a turn: the jobs that have still to act are as they were when it began, and of those that have acted who was gone
-- from its line waits no longer
record IsInTurn (plan : Plan) (turn next : ℕ) (m : Machine) : Type 0 where
  running : IsRunning plan m
  is : IsAfter plan (machine_after plan turn).scene.floor m.scene
  coming : (j : ℕ) → next ≤ j → slice_get m.progress j ≡ slice_get (machine_after plan turn).progress j
  over : (j n at round number : ℕ) → j < next
      → slice_get (machine_after plan turn).progress j ≡ Some (Waiting n at round number)
      → IsGone (machine_after plan turn).scene.floor at round number
      → slice_get m.progress j ≢ Some (Waiting n at round number)

module _ (plan : Plan) (runnable : IsRunnable plan) (turn place : ℕ) (job : Job) (m : Machine)
    (there : slice_get plan.jobs place ≡ Some job) (h : IsInTurn plan turn place m) (p : Progress)
    (got : slice_get m.progress place ≡ Some p) where
  abbrev role : Role
  role = role_of plan.resources turn place job

  abbrev x : Patience
  x = patience_at m place

  abbrev a : Acted
  a = after_acting role x p m.scene

  own-patience : slice_get m.patience place ≡ Some x
  own-patience = has-patience plan m place job h.running there

  ready : IsReady m.scene.floor place (wait_in p) (steps_left job.steps p)
  ready = h.running.ready place job p there got

  own-over : (n at round number : ℕ)
      → slice_get (machine_after plan turn).progress place ≡ Some (Waiting n at round number)
      → IsGone (machine_after plan turn).scene.floor at round number
      → slice_get (set m.progress place a.progress) place ≢ Some (Waiting n at round number)
  own-over n at round number was gone now =
      let same : Some p ≡ Some (Waiting n at round number)
      = sym got ∙ h.coming place (omega arith) ∙ was in
      let is : p ≡ Waiting n at round number = cc in
      let waits : wait_of m.scene.floor place ≡ wait_in p = ready.waits in
      let own : wait_of m.scene.floor place ≡ Some (wait_at at round number) = waits ∙ ap wait_in is in
      let past : IsPast n (after_acting role x (Waiting n at round number) m.scene).progress
      = looks-past role x n at round number m.scene own (h.is.later at round number gone).gone in
      let acted : slice_get (set m.progress place a.progress) place ≡ Some a.progress
      = get-set_here m.progress place p a.progress got in
      let ends : Some a.progress ≡ Some (Waiting n at round number) = sym acted ∙ now in
      let is_so : a.progress ≡ Waiting n at round number = cc in
      let then_so : (after_acting role x (Waiting n at round number) m.scene).progress ≡ a.progress
      = ap (λ q. (after_acting role x q m.scene).progress) (sym is) in
      waits-no_more n at round number _ past (then_so ∙ is_so)

  turn-after : IsInTurn plan turn (place + 1) (with_acted m place a (patience_after role x p m.scene))
  turn-after = record {
    running = (acts plan m role x h.running runnable there own-patience p got).running;
    is = after_acting-keeps plan (IsAfter plan (machine_after plan turn).scene.floor)
        (after-kept plan (machine_after plan turn).scene.floor) role (record { resources = refl; job = there })
        x p m.scene ready (acts-again plan m role x h.running runnable there own-patience p got) h.is;
    coming = λ j past.
        get-set_else m.progress place j a.progress (λ same. omega (arith, same, past))
        ∙ h.coming j (omega (arith, past));
    over = λ j n at round number below was gone. by j n at round number below was gone (cases_eq j place);
  }
    where
      by : (j n at round number : ℕ) → j < place + 1
          → slice_get (machine_after plan turn).progress j ≡ Some (Waiting n at round number)
          → IsGone (machine_after plan turn).scene.floor at round number → (j ≡ place) ⊎ (j ≢ place)
          → slice_get (set m.progress place a.progress) j ≢ Some (Waiting n at round number)
      by j n at round number below was gone (inl here) now =
          own-over n at round number (rw here at was) gone (rw here at now)
      by j n at round number below was gone (inr other) now =
          h.over j n at round number (omega (arith, below, other)) was gone
          (sym (get-set_else m.progress place j a.progress (λ same. other (sym same))) ∙ now)

turn-keeps : (plan : Plan) → IsRunnable plan → (turn place : ℕ) (job : Job) (m : Machine)
    → slice_get plan.jobs place ≡ Some job → IsInTurn plan turn place m
    → IsInTurn plan turn (place + 1) (one_job plan.resources turn place job m)
turn-keeps plan runnable turn place job m there h =
    let below : place < length m.progress
    = omega (arith, h.running.jobs, get-below plan.jobs place job there) in
    let own : (p : Progress) × (slice_get m.progress place ≡ Some p) = get-there m.progress place below in
    subst (IsInTurn plan turn (place + 1)) (sym (one-job-is plan.resources turn place job m own.0 own.1))
    (turn-after plan runnable turn place job m there h own.0 own.1)

pub no-wait-outlives-its-service : NoWaitOutlivesItsService
no-wait-outlives-its-service plan turn place next at round number runnable was away now =
    let m : Machine = machine_after plan turn in
    let all = told-of plan turn runnable in
    let first : IsInTurn plan turn 0 m = record {
      running = all.running;
      is = record { lines = all.lines; tells = all.holds; later = λ q n k gone. gone };
      coming = λ j past. refl;
      over = λ j n q k i below. absurd (omega (arith, below));
    } in
    let last : IsInTurn plan turn (length plan.jobs) (machine_after plan (suc turn))
    = through-turn plan turn (IsInTurn plan turn) (turn-keeps plan runnable turn) m first in
    let inside : place < length m.progress = get-below m.progress place (Waiting next at round number) was in
    let below : place < length plan.jobs = omega (arith, inside, all.running.jobs) in
    let job : (job : Job) × (slice_get plan.jobs place ≡ Some job) = get-there plan.jobs place below in
    let waits : wait_of m.scene.floor place ≡ Some (wait_at at round number)
    = (all.running.ready place job.0 (Waiting next at round number) job.1 was).waits in
    let gone : IsGone m.scene.floor at round number = record {
      part = all.holds.lined.parts place (wait_at at round number) waits;
      below = all.holds.lined.below place (wait_at at round number) waits;
      gone = away;
    } in
    let same : turn + 1 ≡ suc turn = omega arith in
    last.over place next at round number below was gone
    (subst (λ n. slice_get (machine_after plan n).progress place ≡ Some (Waiting next at round number)) same now)
