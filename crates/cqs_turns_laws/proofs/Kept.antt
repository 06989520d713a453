-- The machine of a runnable plan: it keeps running, and the jobs that have ended hold nothing.
use Rattle.std.proofs.Common.{◌≡◌, ◌≢◌, ◌⊎◌, inl, inr, ℕ, zero, suc, ◌<◌, List, [], ◌∷◌, Some, None, length, map, set, slice_get, replicate, refl, sym, ap, subst, ◌∙◌, arith}
use Rattle.std.proofs.lemmas.Bool.{cases_eq}
use Rattle.std.proofs.lemmas.Option.{get_or_from_slice_get, slice_get-get_or}
use Rattle.cqs_core.proofs.Places.{get-set_here, get-set_else, get-below, get-there}
use Rattle.cqs_plan.specs.declared.plans.job.Job.{Job}
use Rattle.cqs_plan.specs.declared.plans.plan.Plan.{Plan}
use Rattle.cqs_plan.specs.declared.plans.resource.Resource.{Resource}
use Rattle.cqs_plan.specs.Floor.{Holding, holds_of}
use Rattle.cqs_plan.specs.Runnable.{IsRunnable}
use Rattle.cqs_turns_report.specs.declared.states.End.{End}
use Rattle.cqs_turns_report.specs.declared.states.End.TheVariants as end
use Rattle.cqs_turns_report.specs.declared.states.Patience.{Patience}
use Rattle.cqs_turns_report.specs.declared.states.Progress.{Progress}
use Rattle.cqs_turns_report.specs.declared.states.Progress.TheVariants.{Stepping, Ended}
use Rattle.cqs_turns_report.specs.Ready.{IsReady, wait_in, steps_left}
use Rattle.cqs_turns_report.specs.Running.{IsRunning}
use Rattle.cqs_turns_report.specs.Turns.{Role, Acted, Machine, after_acting, fresh, one_job, opening_machine, machine_after, patience_after, places_held}
use Rattle.cqs_turns_report.proofs.Opened.{opening-running}
use Rattle.cqs_turns_report.proofs.RunningLemmas.{machine_with}
use Rattle.cqs_turns_report.proofs.TurnKept.{Acts, acts, acts-again}
use Rattle.cqs_turns_laws.specs.Endings.{EndedJobsHaveNothing}
use Rattle.cqs_turns_laws.proofs.Everywhere.{always}
use Rattle.cqs_turns_laws.proofs.OwnTurn.{patience_at, role_of}
use Rattle.cqs_turns_laws.proofs.Emptied.{after_acting-empties}

-- the machine runs, and the jobs that have ended hold nothing
pub record IsKept (plan : Plan) (m : Machine) : Type 0 where
  pub running : IsRunning plan m
  pub emptied : (place : ℕ) (e : End) → slice_get m.progress place ≡ Some (Ended e)
      → places_held m.scene.floor place ≡ []

-- the machine after the job at a place acted
abbrev pub with_acted : Machine → ℕ → Acted → Patience → Machine
with_acted m place a y = machine_with m place a.scene a.progress y

pub one-job-is : (resources : List Resource) (turn place : ℕ) (job : Job) (m : Machine) (p : Progress)
    → slice_get m.progress place ≡ Some p
    → one_job resources turn place job m
    ≡ with_acted m place (after_acting (role_of resources turn place job) (patience_at m place) p m.scene)
    (patience_after (role_of resources turn place job) (patience_at m place) p m.scene)
one-job-is resources turn place job m p got =
    let r : Role = role_of resources turn place job in
    let x : Patience = patience_at m place in
    ap (λ q. with_acted m place (after_acting r x q m.scene) (patience_after r x q m.scene))
    (get_or_from_slice_get m.progress place p (Ended end.Done) got)

-- each job of a running machine has its patience
pub has-patience : (plan : Plan) (m : Machine) (place : ℕ) (job : Job) → IsRunning plan m
    → slice_get plan.jobs place ≡ Some job → slice_get m.patience place ≡ Some (patience_at m place)
has-patience plan m place job running there =
    slice_get-get_or m.patience place fresh
    (omega (arith, running.patience, get-below plan.jobs place job there))

module _ (plan : Plan) (turn place : ℕ) (job : Job) (m : Machine) (there : slice_get plan.jobs place ≡ Some job)
    (runnable : IsRunnable plan) (kept : IsKept plan m) (p : Progress) (got : slice_get m.progress place ≡ Some p) where
  abbrev r : Role
  r = role_of plan.resources turn place job

  abbrev x : Patience
  x = patience_at m place

  abbrev a : Acted
  a = after_acting r x p m.scene

  ready : IsReady m.scene.floor place (wait_in p) (steps_left job.steps p)
  ready = kept.running.ready place job p there got

  own : slice_get m.patience place ≡ Some x
  own = has-patience plan m place job kept.running there

  acted : Acts plan m r a (patience_after r x p m.scene)
  acted = acts plan m r x kept.running runnable there own p got

  emptied-after : (j : ℕ) (e : End) → slice_get (set m.progress place a.progress) j ≡ Some (Ended e)
      → (j ≡ place) ⊎ (j ≢ place) → places_held a.scene.floor j ≡ []
  emptied-after j e ended (inl here) =
      let now : slice_get (set m.progress place a.progress) place ≡ Some a.progress
      = get-set_here m.progress place p a.progress got in
      let own : slice_get (set m.progress place a.progress) place ≡ Some (Ended e) = rw here at ended in
      let same : a.progress ≡ Ended e = cc in
      rw here (after_acting-empties r x p m.scene ready
      (acts-again plan m r x kept.running runnable there (has-patience plan m place job kept.running there) p got)
      (λ d before. kept.emptied place d (got ∙ ap Some before)) e same)
  emptied-after j e ended (inr other) =
      let before : slice_get m.progress j ≡ Some (Ended e)
      = sym (get-set_else m.progress place j a.progress (λ same. other (sym same))) ∙ ended in
      ap (map (λ h. h.at)) (acted.holds j other) ∙ kept.emptied j e before

  kept-after : IsKept plan (with_acted m place a (patience_after r x p m.scene))
  kept-after = record {
    running = acted.running;
    emptied = λ j e ended. emptied-after j e ended (cases_eq j place);
  }

one-job-keeps : (plan : Plan) → IsRunnable plan → (turn place : ℕ) (job : Job) (m : Machine)
    → slice_get plan.jobs place ≡ Some job
    → IsKept plan m → IsKept plan (one_job plan.resources turn place job m)
one-job-keeps plan runnable turn place job m there kept =
    let below : place < length m.progress = omega (arith, kept.running.jobs, get-below plan.jobs place job there) in
    let own : (p : Progress) × (slice_get m.progress place ≡ Some p) = get-there m.progress place below in
    subst (IsKept plan) (sym (one-job-is plan.resources turn place job m own.0 own.1))
    (kept-after plan turn place job m there runnable kept own.0 own.1)

unended : (n place : ℕ) (e : End) → slice_get (replicate n (Stepping 0)) place ≢ Some (Ended e)
unended zero place e ended = absurd (cc)
unended (suc n) zero e ended = absurd (cc)
unended (suc n) (suc place) e ended = unended n place e ended

opening-kept : (plan : Plan) → IsRunnable plan → IsKept plan (opening_machine plan)
opening-kept plan runnable = record {
  running = opening-running plan runnable;
  emptied = λ place e ended. absurd (unended (length plan.jobs) place e ended);
}

pub always-kept : (plan : Plan) (turns : ℕ) → IsRunnable plan → IsKept plan (machine_after plan turns)
always-kept plan turns runnable =
    always plan (IsKept plan) (opening-kept plan runnable) (one-job-keeps plan runnable) turns

nothing-held : (holds : List Holding) → map (λ h. h.at) holds ≡ [] → holds ≡ []
nothing-held [] none = refl
nothing-held (h ∷ holds) none = absurd (cc)

pub ended-jobs-have-nothing : EndedJobsHaveNothing
ended-jobs-have-nothing plan turns place end runnable ended =
    let m : Machine = machine_after plan turns in
    let kept : IsKept plan m = always-kept plan turns runnable in
    let own : place < length m.progress = get-below m.progress place (Ended end) ended in
    let below : place < length plan.jobs = omega (arith, kept.running.jobs, own) in
    let job : (job : Job) × (slice_get plan.jobs place ≡ Some job) = get-there plan.jobs place below in
    let ready : IsReady m.scene.floor place None [] = kept.running.ready place job.0 (Ended end) job.1 ended in
    (ready.waits, nothing-held (holds_of m.scene.floor place) (kept.emptied place end ended))
