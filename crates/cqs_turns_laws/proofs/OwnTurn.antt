-- What a turn makes of one job: its own turn decides, and the turns of the others leave it as it is.
use Rattle.std.proofs.Common.{◌≡◌, ◌⊎◌, inl, inr, ℕ, zero, suc, ◌+◌, ◌<◌, ◌≤◌, List, [], ◌∷◌, Bool, true, false, Option, Some, get_or, slice_get, refl, ap, ◌∙◌, arith, le-leb}
use Rattle.std.specs.Bool.{if◌then◌else◌}
use Rattle.std.proofs.lemmas.Option.{get_or_from_slice_get}
use Rattle.cqs_core.proofs.Places.{get-set_here, get-set_else}
use Rattle.cqs_plan.specs.declared.plans.job.Job.{Job}
use Rattle.cqs_plan.specs.declared.plans.resource.Resource.{Resource}
use Rattle.cqs_plan.specs.declared.plans.plan.Plan.{Plan}
use Rattle.cqs_plan.specs.declared.floors.answers.FloorLeave.{FloorLeave}
use Rattle.cqs_plan.specs.declared.floors.answers.FloorLeave.TheVariants as leave
use Rattle.cqs_plan.specs.FloorCalls.{leave_answer, look_answer}
use Rattle.cqs_turns_report.specs.declared.states.End.TheVariants as end
use Rattle.cqs_turns_report.specs.declared.states.Patience.{Patience}
use Rattle.cqs_turns_report.specs.declared.states.Progress.{Progress}
use Rattle.cqs_turns_report.specs.declared.states.Progress.TheVariants.{Waiting, Ended}
use Rattle.cqs_turns_report.specs.Turns.{Role, Scene, Acted, Machine, after_acting, after_giving_up, after_looking, after_retrying, after_waiting_long, is_due, is_over_time, may_retry, retries, fresh, end_of, one_job, each_job, machine_after}
use Rattle.cqs_turns_laws.specs.Endings.{NoWaitOutlivesItsDeadline}

-- a job in a turn
abbrev pub role_of : List Resource → ℕ → ℕ → Job → Role
role_of resources turn place job = record { resources = resources; turn = turn; place = place; job = job }

-- the patience of a job
abbrev pub patience_at : Machine → ℕ → Patience
patience_at m place = get_or m.patience place fresh

pub own-turn : (resources : List Resource) (turn place : ℕ) (job : Job) (m : Machine) (p : Progress)
    → slice_get m.progress place ≡ Some p
    → slice_get (one_job resources turn place job m).progress place
    ≡ Some (after_acting (role_of resources turn place job) (patience_at m place) p m.scene).progress
own-turn resources turn place job m p got =
    get-set_here m.progress place p _ got
    ∙ ap (λ q. Some (after_acting (role_of resources turn place job) (patience_at m place) q m.scene).progress)
    (get_or_from_slice_get m.progress place p (Ended end.Done) got)

-- the turns of the jobs after it leave a job as it is
others-turns : (resources : List Resource) (turn place first : ℕ) (jobs : List Job) (m : Machine) → place < first
    → slice_get (each_job resources turn first jobs m).progress place ≡ slice_get m.progress place
others-turns resources turn place first [] m past = refl
others-turns resources turn place first (job ∷ jobs) m past =
    others-turns resources turn place (first + 1) jobs (one_job resources turn first job m) (omega (arith, past))
    ∙ get-set_else m.progress first place _ (λ same. absurd (omega (arith, past, same)))

-- among these jobs, the first of which is at `first`, a job has its own turn on some scene
its-turn : (resources : List Resource) (turn place first i : ℕ) (jobs : List Job) (m : Machine) (job : Job)
    (p : Progress)
    → place ≡ first + i → slice_get jobs i ≡ Some job → slice_get m.progress place ≡ Some p
    → (s : Scene) × (x : Patience) × (slice_get (each_job resources turn first jobs m).progress place
    ≡ Some (after_acting (role_of resources turn place job) x p s).progress)
its-turn resources turn place first i [] m job p at there got = absurd (cc)
its-turn resources turn place first zero (j ∷ jobs) m job p at there got =
    let here : first ≡ place = omega (arith, at) in
    let same : j ≡ job = cc in (
      m.scene,
      patience_at m place,
      rw (here, same) (others-turns resources turn place (place + 1) jobs
          (one_job resources turn place job m) (omega arith) ∙ own-turn resources turn place job m p got),
    )
its-turn resources turn place first (suc i) (j ∷ jobs) m job p at there got =
    let before : slice_get (one_job resources turn first j m).progress place ≡ Some p
    = get-set_else m.progress first place _ (λ same. absurd (omega (arith, at, same))) ∙ got in
    its-turn resources turn place (first + 1) i jobs (one_job resources turn first j m) job p
    (omega (arith, at)) there before

-- what a turn makes of a job
pub after-turn : (plan : Plan) (turn place : ℕ) (job : Job) (p : Progress) → slice_get plan.jobs place ≡ Some job
    → slice_get (machine_after plan turn).progress place ≡ Some p
    → (s : Scene) × (x : Patience) × (slice_get (machine_after plan (turn + 1)).progress place
    ≡ Some (after_acting (role_of plan.resources turn place job) x p s).progress)
after-turn plan turn place job p there got =
    let next : suc turn ≡ turn + 1 = omega arith in
    rw (← next) (its-turn plan.resources turn place 0 place plan.jobs (machine_after plan turn) job p
    (omega arith) there got)

if-true : {X : Type 0} (b : Bool) (x y : X) → b ≡ true → (if b then x else y) ≡ x
if-true true x y same = refl
if-true false x y same = absurd (cc)

if-false : {X : Type 0} (b : Bool) (x y : X) → b ≡ false → (if b then x else y) ≡ y
if-false true x y same = absurd (cc)
if-false false x y same = refl

-- a job makes a step again where its wait is gone, and it may
pub retries-gone : (r : Role) (x : Patience) (answer : FloorLeave) → retries r x answer ≡ true → answer ≡ leave.Gone
retries-gone r x leave.Gone is = refl
retries-gone r x (leave.Late element) is = absurd (cc)

pub retries-may : (r : Role) (x : Patience) (answer : FloorLeave) → retries r x answer ≡ true → may_retry r x ≡ true
retries-may r x leave.Gone is = is
retries-may r x (leave.Late element) is = absurd (cc)

-- at its deadline a job doesn't try again
due-ends : (r : Role) (x : Patience) (answer : FloorLeave) → is_due r.job.deadline r.turn ≡ true
    → retries r x answer ≡ false
due-ends r x leave.Gone due = rw due refl
due-ends r x (leave.Late element) due = refl

-- a wait that is due ends, by what the floor answers
after_acting-due : (r : Role) (x : Patience) (next at round number : ℕ) (s : Scene)
    → is_due r.job.deadline r.turn ≡ true
    → (after_acting r x (Waiting next at round number) s).progress ≡ Ended (end_of (leave_answer s.floor r.place))
after_acting-due r x next at round number s due =
    let answer : FloorLeave = leave_answer s.floor r.place in
    let over : is_over_time r x ≡ true = rw due refl in
    ap (λ (a : Acted). a.progress)
    (if-true (is_over_time r x) (after_waiting_long r x next at round number answer s)
    (after_looking r next at round number (look_answer s.floor r.place) s) over
    ∙ if-false (retries r x answer) (after_retrying r next at round number s)
    (after_giving_up r at round number answer s) (due-ends r x answer due))

due-from : (deadline : Option ℕ) (d turn : ℕ) → deadline ≡ Some d → d ≤ turn → is_due deadline turn ≡ true
due-from deadline d turn has below = rw has (le-leb d turn below)

ends-so : (p : Option Progress) (answer : FloorLeave) → p ≡ Some (Ended (end_of answer))
    → (p ≡ Some (Ended end.GaveUp)) ⊎ (p ≡ Some (Ended end.Late))
ends-so p leave.Gone same = inl same
ends-so p (leave.Late element) same = inr same

pub no-wait-outlives : NoWaitOutlivesItsDeadline
no-wait-outlives plan turn place deadline next at round number job there has below got =
    let r : Role = role_of plan.resources turn place job in
    let after = after-turn plan turn place job (Waiting next at round number) there got in
    ends-so _ (leave_answer (after.0).floor place)
    (after.2 ∙ ap Some
    (after_acting-due r after.1 next at round number after.0 (due-from job.deadline deadline turn has below)))
