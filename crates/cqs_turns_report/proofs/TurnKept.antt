-- The turn of a job leaves a running machine running, and to the other jobs what they hold.
use Rattle.std.proofs.Common.{◌≡◌, ◌≢◌, ℕ, ◌+◌, ◌-◌, nat_lt, Bool, true, false, ◌&&◌, List, Some, map, set, slice_get, drop, refl, sym, ap, subst, ◌∙◌}
use Rattle.std.specs.Bool.{if◌then◌else◌}
use Rattle.std.proofs.lemmas.Bool.{and_parts}
use Rattle.std.proofs.lemmas.List.{set-set}
use Rattle.cqs_plan.specs.declared.plans.plan.Plan.{Plan}
use Rattle.cqs_plan.specs.declared.floors.answers.FloorLook.{FloorLook}
use Rattle.cqs_plan.specs.declared.floors.answers.FloorLook.TheVariants.{Pending, Granted}
use Rattle.cqs_plan.specs.declared.floors.answers.FloorLeave.{FloorLeave}
use Rattle.cqs_plan.specs.declared.floors.answers.FloorLeave.TheVariants as leave
use Rattle.cqs_plan.specs.Floor.{PlainFloor, holds_of}
use Rattle.cqs_plan.specs.FloorCalls.{look_answer, leave_answer, after_leave}
use Rattle.cqs_plan.specs.Runnable.{IsRunnable}
use Rattle.cqs_turns_report.specs.declared.states.Patience.{Patience}
use Rattle.cqs_turns_report.specs.declared.states.Progress.{Progress}
use Rattle.cqs_turns_report.specs.declared.states.Progress.TheVariants.{Stepping, Working, Waiting, Ended}
use Rattle.cqs_turns_report.specs.Ready.{CanRetryIn, steps_left}
use Rattle.cqs_turns_report.specs.Running.{IsRunning}
use Rattle.cqs_turns_report.specs.Turns.{Role, Scene, Acted, Machine, after_acting, after_giving_up, after_leave_at, after_look_at, after_looking, after_retrying, is_over_time, may_retry, on_retry, patience_after, retried, retries}
use Rattle.cqs_turns_report.proofs.Moved.{Others, others-on}
use Rattle.cqs_turns_report.proofs.Retrying.{can-retry, gone-got, gone-patience, gone-running, gone-settled, gone_machine}
use Rattle.cqs_turns_report.proofs.RunningLemmas.{Settled, machine_with, room-of, running-set, settled-turned}
use Rattle.cqs_turns_report.proofs.Turned.{Turned, after_acting-turned, is_retrying}

-- who doesn't make a step again uses up no retry
pub calm-used : (r : Role) (x : Patience) (p : Progress) (s : Scene) → is_retrying r x p s ≡ false
    → (patience_after r x p s).used ≡ x.used
calm-used r x (Stepping next) s calm = refl
calm-used r x (Working next until) s calm = by (nat_lt r.turn until)
  where
    by : (b : Bool) → (if b then x else record x { since = r.turn }).used ≡ x.used
    by true = refl
    by false = refl
calm-used r x (Waiting next at round number) s calm =
    by (is_over_time r x) (retries r x (leave_answer s.floor r.place)) calm (look_answer s.floor r.place)
  where
    by : (long more : Bool) → (long && more) ≡ false → (answer : FloorLook)
        → (if long then (if more then retried r x else x) else after_look_at r x answer).used ≡ x.used
    by true true is answer = absurd (cc)
    by true false is answer = refl
    by false more is Pending = refl
    by false more is (Granted element) = refl
calm-used r x (Ended end) s calm = refl

-- who does has a retry left
retries-may : (r : Role) (x : Patience) (answer : FloorLeave) → retries r x answer ≡ true → may_retry r x ≡ true
retries-may r x leave.Gone is = is
retries-may r x (leave.Late element) is = absurd (cc)

-- what the turn of a job leaves
pub record Acts (plan : Plan) (m : Machine) (r : Role) (a : Acted) (y : Patience) : Type 0 where
  pub running : IsRunning plan (machine_with m r.place a.scene a.progress y)
  pub holds : (j : ℕ) → j ≢ r.place → holds_of a.scene.floor j ≡ holds_of m.scene.floor j

module _ (plan : Plan) (m : Machine) (r : Role) (x : Patience) (running : IsRunning plan m)
    (runnable : IsRunnable plan) (got_job : slice_get plan.jobs r.place ≡ Some r.job)
    (got_patience : slice_get m.patience r.place ≡ Some x) where
  -- a turn that uses up no retry
  calm-acts : (p : Progress) → slice_get m.progress r.place ≡ Some p → is_retrying r x p m.scene ≡ false
      → Acts plan m r (after_acting r x p m.scene) (patience_after r x p m.scene)
  calm-acts p got calm =
      let a : Acted = after_acting r x p m.scene in
      let y : Patience = patience_after r x p m.scene in
      let turned : Turned r m.scene.floor (steps_left r.job.steps p) a
      = after_acting-turned r x p m.scene (running.ready r.place r.job p got_job got)
      (room-of plan m r.place r.job running runnable got_job p got) (running.rounds r.place r.job p got_job got)
      (running.back r.place r.job p got_job got) calm in
      record {
        running = running-set plan m r p a.progress x y a.scene running got_job got got_patience
            (settled-turned r m.scene.floor p x y a turned (calm-used r x p m.scene calm));
        holds = turned.others.holds;
      }

  -- one in which the job makes a step again
  again-acts : (next at round number : ℕ) → slice_get m.progress r.place ≡ Some (Waiting next at round number)
      → may_retry r x ≡ true
      → Acts plan m r (after_retrying r next at round number m.scene) (retried r x)
  again-acts next at round number got may =
      let e : Scene = on_retry r at round number m.scene in
      let y : Patience = retried r x in
      let before : Progress = Stepping (next - 1) in
      let gone : Machine
      = gone_machine plan m r x next at round number running runnable got_job got got_patience may e.text in
      let runs : IsRunning plan gone
      = gone-running plan m r x next at round number running runnable got_job got got_patience may e.text in
      let its : slice_get gone.progress r.place ≡ Some before
      = gone-got plan m r x next at round number running runnable got_job got got_patience may e.text in
      let own : slice_get gone.patience r.place ≡ Some y
      = gone-patience plan m r x next at round number running runnable got_job got got_patience may e.text in
      let a : Acted = after_acting r y before e in
      let turned : Turned r e.floor (steps_left r.job.steps before) a
      = after_acting-turned r y before e (runs.ready r.place r.job before got_job its)
      (room-of plan gone r.place r.job runs runnable got_job before its)
      (runs.rounds r.place r.job before got_job its) (runs.back r.place r.job before got_job its) refl in
      let settled : Settled r m.scene.floor (Waiting next at round number) x e.floor before y
      = gone-settled plan m r x next at round number running runnable got_job got got_patience may e.text in
      let after : IsRunning plan (machine_with gone r.place a.scene a.progress y)
      = running-set plan gone r before a.progress y y a.scene runs got_job its own
      (settled-turned r e.floor before y y a turned refl) in
      let progress : set gone.progress r.place a.progress ≡ set m.progress r.place a.progress
      = set-set m.progress r.place before a.progress in
      let patience : set gone.patience r.place y ≡ set m.patience r.place y = set-set m.patience r.place y y in
      record {
        running = subst (λ ps. IsRunning plan (record {
          scene = a.scene;
          progress = ps;
          patience = set m.patience r.place y;
        })) progress
            (subst (λ ys. IsRunning plan (record {
              scene = a.scene;
              progress = set gone.progress r.place a.progress;
              patience = ys;
            })) patience after);
        holds = λ j other. turned.others.holds j other ∙ settled.others.holds j other;
      }

  -- the turn of a job
  pub acts : (p : Progress) → slice_get m.progress r.place ≡ Some p
      → Acts plan m r (after_acting r x p m.scene) (patience_after r x p m.scene)
  acts (Stepping next) got = calm-acts (Stepping next) got refl
  acts (Working next until) got = calm-acts (Working next until) got refl
  acts (Ended end) got = calm-acts (Ended end) got refl
  acts (Waiting next at round number) got =
      by (is_over_time r x) (retries r x (leave_answer m.scene.floor r.place)) refl refl
    where
      -- by whether it is over time, and makes the step again
      turn : Bool → Bool → Acted
      turn long more =
          if long
          then (if more then after_retrying r next at round number m.scene
          else after_giving_up r at round number (leave_answer m.scene.floor r.place) m.scene)
          else after_looking r next at round number (look_answer m.scene.floor r.place) m.scene

      patience : Bool → Bool → Patience
      patience long more =
          if long then (if more then retried r x else x) else after_look_at r x (look_answer m.scene.floor r.place)

      by : (long more : Bool) → is_over_time r x ≡ long → retries r x (leave_answer m.scene.floor r.place) ≡ more
          → Acts plan m r (turn (is_over_time r x) (retries r x (leave_answer m.scene.floor r.place)))
          (patience (is_over_time r x) (retries r x (leave_answer m.scene.floor r.place)))
      by true true long more =
          rw (long, more)
          (again-acts next at round number got (retries-may r x (leave_answer m.scene.floor r.place) more))
      by true false long more = calm-acts (Waiting next at round number) got (rw (long, more) refl)
      by false b long more = calm-acts (Waiting next at round number) got (rw long refl)

  -- where its wait is gone, it can make the step again
  pub acts-again : (p : Progress) → slice_get m.progress r.place ≡ Some p → CanRetryIn m.scene.floor r x p
  acts-again (Stepping next) got = tt
  acts-again (Working next until) got = tt
  acts-again (Ended end) got = tt
  acts-again (Waiting next at round number) got =
      λ may. can-retry plan m r x next at round number running runnable got_job got got_patience may m.scene.text
