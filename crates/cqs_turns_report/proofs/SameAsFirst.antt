-- Where no job of a plan has `within` or a retry, its machine is that of version 1.
use Rattle.std.proofs.Common.{◌≡◌, ℕ, zero, suc, ◌+◌, ◌<◌, nat_lt, nat_le, ◌≤◌, Bool, true, false, ◌&&◌, ◌||◌, not, List, [], ◌∷◌, ◌++◌, Option, Some, None, length, get_or, set, refl, sym, ap, ◌∙◌, le-ltb, arith}
use Rattle.std.specs.Bool.{if◌then◌else◌}
use Rattle.std.specs.Prelude.{All}
use Rattle.std.specs.Option.{option_map}
use Rattle.std.proofs.lemmas.Bool.{and_right}
use Rattle.cqs_plan.specs.declared.plans.resource.Resource.{Resource}
use Rattle.cqs_plan.specs.declared.plans.job.Job.{Job}
use Rattle.cqs_plan.specs.declared.plans.plan.Plan.{Plan}
use Rattle.cqs_plan.specs.declared.floors.answers.FloorLeave.{FloorLeave}
use Rattle.cqs_plan.specs.declared.floors.answers.FloorLeave.TheVariants as leave
use Rattle.cqs_plan.specs.Validity.{IsPatient}
use Rattle.cqs_turns_report.specs.declared.states.End.TheVariants as end
use Rattle.cqs_turns_report.specs.declared.states.Patience.{Patience}
use Rattle.cqs_turns_report.specs.declared.states.Progress.{Progress}
use Rattle.cqs_turns_report.specs.declared.states.Progress.TheVariants.{Stepping, Working, Waiting, Ended}
use Rattle.cqs_turns_report.specs.Lines.{ends_text, total_text}
use Rattle.cqs_turns_report.specs.Machine.{Role, World, ActedIn, MachineIn, is_due, is_outwaited, is_over_time, may_retry, retries, fresh, after_acting, after_giving_up, after_looking, after_retrying, one_job, each_job, machine_after}
use Rattle.cqs_turns_report.specs.FirstVersion.{FirstIn, first_report_of}
use Rattle.cqs_turns_report.specs.FirstVersion as first
use Rattle.cqs_turns_report.specs.Report.{report_of}
use Rattle.cqs_turns_report.specs.Turns.{Machine, Scene, plain_world}
use Rattle.cqs_turns_report.specs.Turns as turns

never-outwaited : (r : Role) (x : Patience) → IsPatient r.job → is_outwaited r x ≡ false
never-outwaited r x patient =
    ap (λ w. is_due (option_map (λ within. x.since + within) w) r.turn) patient.within

never-retries : (r : Role) (x : Patience) (answer : FloorLeave) → IsPatient r.job → retries r x answer ≡ false
never-retries r x leave.Gone patient =
    and_right (not (is_due r.job.deadline r.turn)) (nat_lt x.used r.job.retry)
    (le-ltb x.used r.job.retry (omega (arith, patient.retry)))
never-retries r x (leave.Late element) patient = refl

choose : {A : Type 0} (due out more : Bool) (again up looks : A) → out ≡ false → more ≡ false
    → (if due || out then (if more then again else up) else looks) ≡ (if due then up else looks)
choose true out more again up looks never none = rw none refl
choose false out more again up looks never none = rw never refl

-- all jobs of a list are patient
abbrev ArePatient : List Job → Type 0
ArePatient [] = Unit {0}
ArePatient (job ∷ jobs) = IsPatient job × ArePatient jobs

each-patient : (jobs : List Job) → All IsPatient jobs → ArePatient jobs
each-patient [] all = tt
each-patient (job ∷ jobs) all =
    (all 0 job (omega arith), each-patient jobs (λ i d below. all (suc i) d (omega (arith, below))))

module _ {S : Type 0} (w : World S) where
  acting-same : (r : Role) (x : Patience) (p : Progress) (s : S) → IsPatient r.job
      → after_acting w r x p s ≡ first.after_acting w r p s
  acting-same r x (Stepping next) s patient = refl
  acting-same r x (Working next until) s patient = refl
  acting-same r x (Waiting next at round number) s patient =
      choose (is_due r.job.deadline r.turn) (is_outwaited r x) (retries r x (w.leave_answer r s))
      (after_retrying w r next at round number s)
      (after_giving_up w r at round number (w.leave_answer r s) s)
      (after_looking w r next at round number (w.look_answer r s) s)
      (never-outwaited r x patient) (never-retries r x (w.leave_answer r s) patient)
  acting-same r x (Ended end) s patient = refl

  -- the two machines stand alike
  abbrev Same : MachineIn S → FirstIn S → Type 0
  Same m o = (m.scene ≡ o.scene) × (m.progress ≡ o.progress)

  one_job-same : (resources : List Resource) (turn place : ℕ) (job : Job) (m : MachineIn S) (o : FirstIn S)
      → IsPatient job → Same m o
      → Same (one_job w resources turn place job m) (first.one_job w resources turn place job o)
  one_job-same resources turn place job m o patient same =
      let r : Role = record { resources = resources; turn = turn; place = place; job = job } in
      let x : Patience = get_or m.patience place fresh in
      let p : Progress = get_or o.progress place (Ended end.Done) in
      let acted : after_acting w r x (get_or m.progress place (Ended end.Done)) m.scene
      ≡ first.after_acting w r p o.scene
      = acting-same r x (get_or m.progress place (Ended end.Done)) m.scene patient
      ∙ ap (λ ps. first.after_acting w r (get_or ps place (Ended end.Done)) m.scene) same.1
      ∙ ap (first.after_acting w r p) same.0 in (
        ap (λ (a : ActedIn S). a.scene) acted,
        ap (λ (a : ActedIn S). set m.progress place a.progress) acted
            ∙ ap (λ ps. set ps place (first.after_acting w r p o.scene).progress) same.1,
      )

  each_job-same : (resources : List Resource) (turn place : ℕ) (jobs : List Job) (m : MachineIn S) (o : FirstIn S)
      → ArePatient jobs → Same m o
      → Same (each_job w resources turn place jobs m) (first.each_job w resources turn place jobs o)
  each_job-same resources turn place [] m o patient same = same
  each_job-same resources turn place (job ∷ jobs) m o patient same =
      each_job-same resources turn (place + 1) jobs (one_job w resources turn place job m)
      (first.one_job w resources turn place job o) patient.1
      (one_job-same resources turn place job m o patient.0 same)

  -- after any number of turns
  pub machine-same : (plan : Plan) (s : S) (turns : ℕ) → All IsPatient plan.jobs
      → Same (machine_after w plan s turns) (first.machine_after w plan s turns)
  machine-same plan s zero patient = (refl, refl)
  machine-same plan s (suc turn) patient =
      each_job-same plan.resources turn 0 plan.jobs (machine_after w plan s turn)
      (first.machine_after w plan s turn) (each-patient plan.jobs patient) (machine-same plan s turn patient)

-- so its report is that of version 1
pub report-same : (plan : Plan) → All IsPatient plan.jobs → report_of plan ≡ first_report_of plan
report-same plan patient =
    let s : Scene = turns.opening_scene plan in
    let m : Machine = machine_after plain_world plan s plan.turns in
    let o : FirstIn Scene = first.machine_after plain_world plan s plan.turns in
    let same : (m.scene ≡ o.scene) × (m.progress ≡ o.progress) = machine-same plain_world plan s plan.turns patient in
    ap (λ (x : Scene). x.text ++ ends_text plan.resources 0 x.floor ++ total_text m.progress) same.0
    ∙ ap (λ ps. o.scene.text ++ ends_text plan.resources 0 o.scene.floor ++ total_text ps) same.1
