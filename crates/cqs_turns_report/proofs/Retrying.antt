-- A job that makes a step again: once its wait is gone it stands before that step, on a running machine.
use Rattle.std.proofs.Common.{◌≡◌, ℕ, zero, suc, ◌+◌, ◌-◌, ◌<◌, ◌≤◌, nat_lt, Bool, true, false, ◌&&◌, ◌||◌, not, cond, List, [], ◌∷◌, Some, length, set, get_or, take, drop, slice_get, count_by, refl, sym, ap, ◌∙◌, subst, ltb-true, arith}
use Rattle.std.specs.Bool.{if◌then◌else◌}
use Rattle.std.specs.List.{list_any}
use Rattle.std.proofs.lemmas.Bool.{and_parts}
use Rattle.std.proofs.lemmas.List.Sums.{sum_by-cons}
use Rattle.cqs_core.proofs.Places.{get-set_here}
use Rattle.cqs_plan.specs.declared.plans.step.Step.{Step}
use Rattle.cqs_plan.specs.declared.plans.plan.Plan.{Plan}
use Rattle.cqs_plan.specs.declared.floors.answers.FloorLeave.TheVariants as leave
use Rattle.cqs_plan.specs.Floor.{PlainFloor, JobWait, own_rounds, room_at, round_of, times_at}
use Rattle.cqs_plan.specs.FloorCalls.{after_leave, with_left}
use Rattle.cqs_plan.specs.PlanSteps.{is_arrival, may_wait}
use Rattle.cqs_plan.specs.Runnable.{IsRunnable}
use Rattle.cqs_turns_report.specs.declared.states.Patience.{Patience}
use Rattle.cqs_turns_report.specs.declared.states.Progress.{Progress}
use Rattle.cqs_turns_report.specs.declared.states.Progress.TheVariants.{Stepping, Waiting}
use Rattle.cqs_turns_report.specs.Ready.{CanRetry, HasRoom, IsBack, IsReady, row_back}
use Rattle.cqs_turns_report.specs.Roles.{scene, wait_at}
use Rattle.cqs_turns_report.specs.Running.{IsRunning}
use Rattle.cqs_turns_report.specs.Turns.{Machine, Role, Scene, is_due, may_retry, retried}
use Rattle.cqs_turns_report.proofs.Leaving.{left-others, own-back}
use Rattle.cqs_turns_report.proofs.Readied.{retry-ready}
use Rattle.cqs_turns_report.proofs.RunningLemmas.{Settled, machine_with, room-of, running-set}

-- the steps from the one before the next on may wait once more than those from the next one on, where the job has such
-- a step
count-before : (p : Step → Bool) (n : ℕ) (steps : List Step) (times : ℕ) → n < length steps → 0 < times
    → count_by p (drop n steps) + (if list_any p steps then times - 1 else 0)
    ≤ count_by p (drop (suc n) steps) + (if list_any p steps then times else 0)
count-before p zero [] times below some = absurd (omega arith)
count-before p (suc n) [] times below some = absurd (omega arith)
count-before p zero (x ∷ steps) times below some = go (p x) refl (list_any p steps)
  where
    one : count_by p (x ∷ steps) ≡ cond (p x) 1 0 + count_by p steps
    one = sum_by-cons (λ s. cond (p s) 1 0) x steps

    go : (b : Bool) → p x ≡ b → (c : Bool)
        → count_by p (x ∷ steps) + (if b || c then times - 1 else 0)
        ≤ count_by p steps + (if b || c then times else 0)
    go true is c = omega (arith, one, ap (λ b. cond {A = ℕ} b 1 0) is, some)
    go false is true = omega (arith, one, ap (λ b. cond {A = ℕ} b 1 0) is)
    go false is false = omega (arith, one, ap (λ b. cond {A = ℕ} b 1 0) is)
count-before p (suc n) (x ∷ steps) times below some =
    go (p x) (list_any p steps) (count-before p n steps times (omega (arith, below)) some)
  where
    go : (b c : Bool)
        → count_by p (drop n steps) + (if c then times - 1 else 0)
        ≤ count_by p (drop (suc n) steps) + (if c then times else 0)
        → count_by p (drop n steps) + (if b || c then times - 1 else 0)
        ≤ count_by p (drop (suc n) steps) + (if b || c then times else 0)
    go true true rest = rest
    go true false rest = omega (arith, rest)
    go false c rest = rest

module _ (plan : Plan) (m : Machine) (r : Role) (x : Patience) (next at round number : ℕ) (running : IsRunning plan m)
    (runnable : IsRunnable plan) (got_job : slice_get plan.jobs r.place ≡ Some r.job)
    (got : slice_get m.progress r.place ≡ Some (Waiting next at round number))
    (got_patience : slice_get m.patience r.place ≡ Some x) (may : may_retry r x ≡ true) (text : List ℕ) where
  abbrev f : PlainFloor
  f = m.scene.floor

  abbrev g : PlainFloor
  g = after_leave f r.place leave.Gone

  abbrev wait : JobWait
  wait = wait_at at round number

  abbrev before : Progress
  before = Stepping (next - 1)

  ready : IsReady f r.place (Some wait) (drop next r.job.steps)
  ready = running.ready r.place r.job (Waiting next at round number) got_job got

  back : IsBack f r.place r.job.steps next wait
  back = running.back r.place r.job (Waiting next at round number) got_job got

  gone : g ≡ with_left f r.place (Some wait)
  gone = ap (with_left f r.place) ready.waits

  row : own_rounds g r.place ≡ row_back f.kinds (own_rounds f r.place) wait
  row = ap (λ (h : PlainFloor). own_rounds h r.place) gone ∙ own-back f r.place wait ready.job

  -- a retry is left
  left : x.used < r.job.retry
  left =
      ltb-true x.used r.job.retry
      (and_parts (not (is_due r.job.deadline r.turn)) (nat_lt x.used r.job.retry) may).1

  room : (q : ℕ)
      → room_at f q
      + (count_by (may_wait q) (drop (next - 1) r.job.steps) + times_at q r.job (r.job.retry - (x.used + 1)))
      ≤ room_at g q + (count_by (may_wait q) (drop next r.job.steps) + times_at q r.job (r.job.retry - x.used))
  room q =
      let same : room_at g q ≡ room_at f q = ap (λ (h : PlainFloor). room_at h q) gone in
      let less : r.job.retry - (x.used + 1) ≡ (r.job.retry - x.used) - 1 = omega arith in
      let later : suc (next - 1) ≡ next = omega (arith, back.some) in
      let more : count_by (may_wait q) (drop (next - 1) r.job.steps)
      + (if list_any (may_wait q) r.job.steps then (r.job.retry - x.used) - 1 else 0)
      ≤ count_by (may_wait q) (drop (suc (next - 1)) r.job.steps)
      + (if list_any (may_wait q) r.job.steps then r.job.retry - x.used else 0)
      = count-before (may_wait q) (next - 1) r.job.steps (r.job.retry - x.used)
      (omega (arith, back.below, back.some)) (omega (arith, left)) in
      omega (
        arith,
        same,
        more,
        ap (λ n. times_at q r.job n) less,
        ap (λ n. count_by (may_wait q) (drop n r.job.steps)) later,
      )

  pub gone-settled : Settled r f (Waiting next at round number) x g before (retried r x)
  gone-settled = record {
    ready = retry-ready f r.place wait next r.job.steps (drop next r.job.steps) ready back;
    others = rw gone (left-others f r.place wait ready.job back.arrived);
    rounds = λ q. ap (λ xs. get_or xs q 0) row ∙ back.rounds q;
    back = tt;
    room = room;
  }

  -- the machine once the wait is gone
  abbrev pub gone_machine : Machine
  gone_machine = machine_with m r.place (scene g text) before (retried r x)

  pub gone-running : IsRunning plan gone_machine
  gone-running =
      running-set plan m r (Waiting next at round number) before x (retried r x) (scene g text) running got_job got
      got_patience gone-settled

  pub gone-got : slice_get gone_machine.progress r.place ≡ Some before
  gone-got = get-set_here m.progress r.place (Waiting next at round number) before got

  pub gone-patience : slice_get gone_machine.patience r.place ≡ Some (retried r x)
  gone-patience = get-set_here m.patience r.place x (retried r x) got_patience

  pub gone-room : HasRoom g r.place (take (next - 1) r.job.steps) (drop (next - 1) r.job.steps)
  gone-room = room-of plan gone_machine r.place r.job gone-running runnable got_job before gone-got

  pub can-retry : CanRetry f r.place r.job.steps next
  can-retry = record { some = back.some; ready = gone-settled.ready; room = gone-room }
