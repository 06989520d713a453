-- A job that ends gives back all that it holds, and nobody else's turn gives it anything.
use Rattle.std.proofs.Common.{◌≡◌, ◌≢◌, ℕ, ◌+◌, ◌-◌, List, [], ◌∷◌, Bool, true, false, nat_lt, Option, Some, None, drop, refl, ap}
use Rattle.std.specs.Bool.{if◌then◌else◌}
use Rattle.cqs_plan.specs.declared.plans.step.Step.{Step}
use Rattle.cqs_plan.specs.declared.plans.step.Step.TheVariants.{Take, Give, Down, Await, Arrive, Work}
use Rattle.cqs_plan.specs.declared.floors.answers.FloorTake.{FloorTake}
use Rattle.cqs_plan.specs.declared.floors.answers.FloorTake.TheVariants.{Now, Waits}
use Rattle.cqs_plan.specs.declared.floors.answers.FloorLook.{FloorLook}
use Rattle.cqs_plan.specs.declared.floors.answers.FloorLook.TheVariants.{Pending, Granted}
use Rattle.cqs_plan.specs.declared.floors.answers.FloorLeave.{FloorLeave}
use Rattle.cqs_plan.specs.FloorCalls.{take_answer, give_answer, wait_answer, arrive_answer, look_answer, leave_answer, after_look}
use Rattle.cqs_plan.specs.Floor.{round_of}
use Rattle.cqs_turns_report.specs.declared.lines.Told.TheVariants as told
use Rattle.cqs_turns_report.specs.declared.states.End.{End}
use Rattle.cqs_turns_report.specs.declared.states.Patience.{Patience}
use Rattle.cqs_turns_report.specs.declared.states.Progress.{Progress}
use Rattle.cqs_turns_report.specs.declared.states.Progress.TheVariants.{Stepping, Working, Waiting, Ended}
use Rattle.cqs_turns_report.specs.Ready.{IsReady, CanRetry, CanRetryIn, wait_in, steps_left}
use Rattle.cqs_turns_report.specs.Roles.{wait_at}
use Rattle.cqs_turns_report.specs.Turns.{Role, Scene, Made, Acted, event, on_give, after_gives, after_step, after_coming, on_take, on_wait, on_arrive, stop_or, after_steps, after_last_step, on_leave, on_retry, after_giving_up, after_looking, after_retrying, after_waiting_long, after_acting, is_over_time, may_retry, retries, places_held, left_at, go_on}
use Rattle.cqs_turns_report.proofs.Readied.{first-given, first-ready, leave-ready, after_looking-ready}
use Rattle.cqs_turns_report.proofs.Stepping.{after_step-ready}
use Rattle.cqs_turns_laws.proofs.OwnTurn.{retries-may}

-- where the job has ended, it holds nothing
abbrev pub IsEmptied : Role → Acted → Type 0
IsEmptied r a = (e : End) → a.progress ≡ Ended e → places_held a.scene.floor r.place ≡ []

after_gives-empties : (r : Role) (places : List ℕ) (s : Scene) → IsReady s.floor r.place None []
    → places_held s.floor r.place ≡ places → places_held (after_gives r places s).floor r.place ≡ []
after_gives-empties r [] s ready held = held
after_gives-empties r (at ∷ places) s ready held =
    after_gives-empties r places (on_give r at s)
    (first-ready s.floor r.place at (give_answer s.floor at r.place) ready)
    (first-given s.floor r.place at places (give_answer s.floor at r.place) ready.job held)

after_last_step-empties : (r : Role) (s : Scene) → IsReady s.floor r.place None [] → IsEmptied r (after_last_step r s)
after_last_step-empties r s ready e ended = after_gives-empties r (places_held s.floor r.place) s ready refl

coming-unended : (next at round : ℕ) (on : FloorTake → Scene → Scene) (answer : FloorTake) (s : Scene) (e : End)
    → (after_coming next at round on answer s).stops ≢ Some (Ended e)
coming-unended next at round on (Now element) s e same = absurd (cc)
coming-unended next at round on (Waits number) s e same = absurd (cc)

-- a step never ends a job
stops-unended : (r : Role) (next : ℕ) (step : Step) (s : Scene) (e : End)
    → (after_step r next step s).stops ≢ Some (Ended e)
stops-unended r next (Work turns) s e same = absurd (cc)
stops-unended r next (Take at) s e same =
    coming-unended next at 0 (on_take r at) (take_answer s.floor at r.place) s e same
stops-unended r next (Give at) s e same = absurd (cc)
stops-unended r next (Down at) s e same = absurd (cc)
stops-unended r next (Await at) s e same =
    coming-unended next at 0 (on_wait r at) (wait_answer s.floor at) s e same
stops-unended r next (Arrive at) s e same =
    coming-unended next at (round_of s.floor r.place at) (on_arrive r at) (arrive_answer s.floor at r.place) s e same

stop-empties : (r : Role) (scene : Scene) (stops : Option Progress) (onward : Acted)
    → ((e : End) → stops ≢ Some (Ended e)) → (stops ≡ None → IsEmptied r onward)
    → IsEmptied r (stop_or (record { scene = scene; stops = stops }) onward)
stop-empties r scene None onward unended goes e ended = goes refl e ended
stop-empties r scene (Some p) onward unended goes e ended = absurd (unended e (ap Some ended))

after_steps-empties : (r : Role) (steps : List Step) (next : ℕ) (s : Scene) → IsReady s.floor r.place None steps
    → IsEmptied r (after_steps r steps next s)
after_steps-empties r [] next s ready = after_last_step-empties r s ready
after_steps-empties r (step ∷ rest) next s ready =
    let m : Made = after_step r next step s in
    stop-empties r m.scene m.stops (after_steps r rest (next + 1) m.scene) (stops-unended r next step s)
    (λ none. after_steps-empties r rest (next + 1) m.scene (rw none at (after_step-ready r next step rest s ready)))

emptied-if : (r : Role) (b : Bool) (a c : Acted) → IsEmptied r a → IsEmptied r c → IsEmptied r (if b then a else c)
emptied-if r true a c here there = here
emptied-if r false a c here there = there

after_giving_up-empties : (r : Role) (at round number : ℕ) (answer : FloorLeave) (s : Scene) (steps : List Step)
    → IsReady s.floor r.place (Some (wait_at at round number)) steps
    → IsEmptied r (after_giving_up r at round number answer s)
after_giving_up-empties r at round number answer s steps ready e ended =
    let t : Scene = on_leave r at round number answer s in
    after_gives-empties r (places_held t.floor r.place) t
    (leave-ready s.floor r.place (wait_at at round number) answer steps ready) refl

after_looking-empties : (r : Role) (next at round number : ℕ) (answer : FloorLook) (s : Scene)
    → IsReady s.floor r.place (Some (wait_at at round number)) (drop next r.job.steps)
    → IsEmptied r (after_looking r next at round number answer s)
after_looking-empties r next at round number Pending s ready e ended = absurd (cc)
after_looking-empties r next at round number (Granted element) s ready e ended =
    after_steps-empties r (drop next r.job.steps) next
    (event r s (after_look s.floor r.place (Granted element)) (told.Served at round number element))
    (after_looking-ready s.floor r.place (wait_at at round number) element (drop next r.job.steps) ready) e ended

after_waiting_long-empties : (r : Role) (x : Patience) (next at round number : ℕ) (answer : FloorLeave) (s : Scene)
    → IsReady s.floor r.place (Some (wait_at at round number)) (drop next r.job.steps)
    → (may_retry r x ≡ true → CanRetry s.floor r.place r.job.steps next)
    → IsEmptied r (after_waiting_long r x next at round number answer s)
after_waiting_long-empties r x next at round number answer s ready again = by (retries r x answer) refl
  where
    by : (b : Bool) → retries r x answer ≡ b
        → IsEmptied r (if b then after_retrying r next at round number s
        else after_giving_up r at round number answer s)
    by true is =
        after_steps-empties r (drop (next - 1) r.job.steps) (next - 1) (on_retry r at round number s)
        (again (retries-may r x answer is)).ready
    by false is = after_giving_up-empties r at round number answer s (drop next r.job.steps) ready

pub after_acting-empties : (r : Role) (x : Patience) (p : Progress) (s : Scene)
    → IsReady s.floor r.place (wait_in p) (steps_left r.job.steps p) → CanRetryIn s.floor r x p
    → IsEmptied r (left_at s p) → IsEmptied r (after_acting r x p s)
after_acting-empties r x (Stepping next) s ready again before =
    after_steps-empties r (drop next r.job.steps) next s ready
after_acting-empties r x (Working next until) s ready again before =
    emptied-if r (nat_lt r.turn until) (left_at s (Working next until)) (go_on r next s) before
    (after_steps-empties r (drop next r.job.steps) next s ready)
after_acting-empties r x (Waiting next at round number) s ready again before =
    emptied-if r (is_over_time r x) (after_waiting_long r x next at round number (leave_answer s.floor r.place) s)
    (after_looking r next at round number (look_answer s.floor r.place) s)
    (after_waiting_long-empties r x next at round number (leave_answer s.floor r.place) s ready again)
    (after_looking-empties r next at round number (look_answer s.floor r.place) s ready)
after_acting-empties r x (Ended end) s ready again before = before
