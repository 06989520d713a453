-- The plain floor turns no take away, so no job of a run ends as crowded.
use Rattle.std.proofs.Common.{◌≡◌, ℕ, zero, suc, ◌+◌, ◌-◌, List, [], ◌∷◌, Bool, true, false, nat_lt, cond, length, drop, replicate, slice_index_or, count_by, set, refl, ap, arith}
use Rattle.std.specs.Bool.{if◌then◌else◌}
use Rattle.std.proofs.lemmas.List.Sums.{sum_by-cons}
use Rattle.cqs_plan.specs.declared.plans.job.Job.{Job}
use Rattle.cqs_plan.specs.declared.plans.resource.Resource.{Resource}
use Rattle.cqs_plan.specs.declared.plans.plan.Plan.{Plan}
use Rattle.cqs_plan.specs.declared.plans.step.Step.{Step}
use Rattle.cqs_plan.specs.declared.plans.step.Step.TheVariants.{Take, Give, Down, Await, Arrive, Work}
use Rattle.cqs_plan.specs.declared.floors.answers.FloorTake.{FloorTake}
use Rattle.cqs_plan.specs.declared.floors.answers.FloorTake.TheVariants.{Now, Waits}
use Rattle.cqs_plan.specs.declared.floors.answers.FloorLook.{FloorLook}
use Rattle.cqs_plan.specs.declared.floors.answers.FloorLook.TheVariants.{Pending, Granted}
use Rattle.cqs_plan.specs.declared.floors.answers.FloorLeave.{FloorLeave}
use Rattle.cqs_plan.specs.declared.floors.answers.FloorLeave.TheVariants as leave
use Rattle.cqs_plan.specs.FloorCalls.{take_answer, wait_answer, arrive_answer, look_answer, leave_answer}
use Rattle.cqs_plan.specs.Floor.{round_of}
use Rattle.cqs_turns_report.specs.declared.states.End.TheVariants as end
use Rattle.cqs_turns_report.specs.declared.states.Patience.{Patience}
use Rattle.cqs_turns_report.specs.declared.states.Progress.{Progress}
use Rattle.cqs_turns_report.specs.declared.states.Progress.TheVariants.{Stepping, Working, Waiting, Ended}
use Rattle.cqs_turns_report.specs.Lines.{is_crowded}
use Rattle.cqs_turns_report.specs.Turns.{Role, Scene, Acted, Machine, after_step, after_coming, on_take, on_wait, on_arrive, stop_or, after_steps, go_on, left_at, on_retry, after_giving_up, after_looking, after_retrying, after_waiting_long, after_acting, is_over_time, retries, fresh, one_job, each_job, machine_after}

-- a step that may wait is answered
coming-stays : (r : Role) (next at round : ℕ) (on : FloorTake → Scene → Scene) (answer : FloorTake) (steps : List Step)
    (s : Scene) → ((t : Scene) → is_crowded (after_steps r steps (next + 1) t).progress ≡ false)
    → is_crowded (stop_or (after_coming next at round on answer s)
    (after_steps r steps (next + 1) (after_coming next at round on answer s).scene)).progress ≡ false
coming-stays r next at round on (Now element) steps s onward =
    onward (after_coming next at round on (Now element) s).scene
coming-stays r next at round on (Waits number) steps s onward = refl

after_steps-stays : (r : Role) (steps : List Step) (next : ℕ) (s : Scene)
    → is_crowded (after_steps r steps next s).progress ≡ false
after_steps-stays r [] next s = refl
after_steps-stays r (Work turns ∷ steps) next s = refl
after_steps-stays r (Take at ∷ steps) next s =
    coming-stays r next at 0 (on_take r at) (take_answer s.floor at r.place) steps s
    (λ t. after_steps-stays r steps (next + 1) t)
after_steps-stays r (Give at ∷ steps) next s
    = after_steps-stays r steps (next + 1) (after_step r next (Give at) s).scene
after_steps-stays r (Down at ∷ steps) next s
    = after_steps-stays r steps (next + 1) (after_step r next (Down at) s).scene
after_steps-stays r (Await at ∷ steps) next s =
    coming-stays r next at 0 (on_wait r at) (wait_answer s.floor at) steps s
    (λ t. after_steps-stays r steps (next + 1) t)
after_steps-stays r (Arrive at ∷ steps) next s =
    coming-stays r next at (round_of s.floor r.place at) (on_arrive r at) (arrive_answer s.floor at r.place) steps s
    (λ t. after_steps-stays r steps (next + 1) t)

after_giving_up-stays : (r : Role) (at round number : ℕ) (answer : FloorLeave) (s : Scene)
    → is_crowded (after_giving_up r at round number answer s).progress ≡ false
after_giving_up-stays r at round number leave.Gone s = refl
after_giving_up-stays r at round number (leave.Late element) s = refl

after_looking-stays : (r : Role) (next at round number : ℕ) (answer : FloorLook) (s : Scene)
    → is_crowded (after_looking r next at round number answer s).progress ≡ false
after_looking-stays r next at round number Pending s = refl
after_looking-stays r next at round number (Granted element) s = after_steps-stays r (drop next r.job.steps) next _

if-stays : (b : Bool) (a c : Acted) → is_crowded a.progress ≡ false → is_crowded c.progress ≡ false
    → is_crowded (if b then a else c).progress ≡ false
if-stays true a c here there = here
if-stays false a c here there = there

-- a job that isn't crowded isn't after its turn
after_acting-stays : (r : Role) (patience : Patience) (p : Progress) (s : Scene) → is_crowded p ≡ false
    → is_crowded (after_acting r patience p s).progress ≡ false
after_acting-stays r patience (Stepping next) s not = after_steps-stays r (drop next r.job.steps) next s
after_acting-stays r patience (Working next until) s not =
    if-stays (nat_lt r.turn until) (left_at s (Working next until)) (go_on r next s) refl
    (after_steps-stays r (drop next r.job.steps) next s)
after_acting-stays r patience (Waiting next at round number) s not =
    if-stays (is_over_time r patience)
    (after_waiting_long r patience next at round number (leave_answer s.floor r.place) s)
    (after_looking r next at round number (look_answer s.floor r.place) s)
    (if-stays (retries r patience (leave_answer s.floor r.place)) (after_retrying r next at round number s)
    (after_giving_up r at round number (leave_answer s.floor r.place) s)
    (after_steps-stays r (drop (next - 1) r.job.steps) (next - 1) (on_retry r at round number s))
    (after_giving_up-stays r at round number (leave_answer s.floor r.place) s))
    (after_looking-stays r next at round number (look_answer s.floor r.place) s)
after_acting-stays r patience (Ended end) s not = not

-- how many of them are crowded
abbrev crowded : List Progress → ℕ
crowded progress = count_by is_crowded progress

none-first : (p : Progress) (progress : List Progress) → crowded (p ∷ progress) ≡ 0 → is_crowded p ≡ false
none-first p progress none = first (is_crowded p) refl
  where
    first : (b : Bool) → is_crowded p ≡ b → is_crowded p ≡ false
    first false same = same
    first true same =
        absurd (omega (
          arith,
          none,
          sum_by-cons (λ q. cond (is_crowded q) 1 0) p progress,
          ap {B = ℕ} (λ b. cond b 1 0) same,
        ))

none-rest : (p : Progress) (progress : List Progress) → crowded (p ∷ progress) ≡ 0 → crowded progress ≡ 0
none-rest p progress none = omega (arith, none, sum_by-cons (λ q. cond (is_crowded q) 1 0) p progress)

none-both : (p : Progress) (progress : List Progress) → is_crowded p ≡ false → crowded progress ≡ 0
    → crowded (p ∷ progress) ≡ 0
none-both p progress here rest =
    omega (arith, rest, sum_by-cons (λ q. cond (is_crowded q) 1 0) p progress, ap {B = ℕ} (λ b. cond b 1 0) here)

none-at : (progress : List Progress) (place : ℕ) → crowded progress ≡ 0
    → is_crowded (slice_index_or progress place (Ended end.Done)) ≡ false
none-at [] place none = refl
none-at (p ∷ progress) zero none = none-first p progress none
none-at (p ∷ progress) (suc place) none = none-at progress place (none-rest p progress none)

none-set : (progress : List Progress) (place : ℕ) (p : Progress) → crowded progress ≡ 0 → is_crowded p ≡ false
    → crowded (set progress place p) ≡ 0
none-set [] place p none here = refl
none-set (q ∷ progress) zero p none here = none-both p progress here (none-rest q progress none)
none-set (q ∷ progress) (suc place) p none here =
    none-both q (set progress place p) (none-first q progress none)
    (none-set progress place p (none-rest q progress none) here)

each_job-stays : (resources : List Resource) (turn place : ℕ) (jobs : List Job) (m : Machine) → crowded m.progress ≡ 0
    → crowded (each_job resources turn place jobs m).progress ≡ 0
each_job-stays resources turn place [] m none = none
each_job-stays resources turn place (job ∷ jobs) m none =
    let r : Role = record { resources = resources; turn = turn; place = place; job = job } in
    let x : Patience = slice_index_or m.patience place fresh in
    let p : Progress = slice_index_or m.progress place (Ended end.Done) in
    each_job-stays resources turn (place + 1) jobs (one_job resources turn place job m)
    (none-set m.progress place (after_acting r x p m.scene).progress none
    (after_acting-stays r x p m.scene (none-at m.progress place none)))

none-opening : (n : ℕ) → crowded (replicate n (Stepping 0)) ≡ 0
none-opening zero = refl
none-opening (suc n) = none-both (Stepping 0) (replicate n (Stepping 0)) refl (none-opening n)

-- no job of a run is crowded, after any number of turns
pub none-crowded : (plan : Plan) (turns : ℕ) → count_by is_crowded (machine_after plan turns).progress ≡ 0
none-crowded plan zero = none-opening (length plan.jobs)
none-crowded plan (suc turns) =
    each_job-stays plan.resources turns 0 plan.jobs (machine_after plan turns) (none-crowded plan turns)
