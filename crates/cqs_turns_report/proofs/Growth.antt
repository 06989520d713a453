-- The report only grows: what stands in it before an event, a step or a turn is a prefix of what stands there after.
use Rattle.std.proofs.Common.{◌≡◌, ℕ, ◌+◌, suc, zero, add-zero, add-suc, add-one, ◌-◌, ◌<◌, arith, Bool, true, false, nat_lt, slice_index_or, List, [], ◌∷◌, ◌++◌, drop, Option, Some, None, Result, Ok, Err, OnOk, OnErr, IsErr, refl, sym, ap, ◌∙◌, append_assoc}
use Rattle.std.specs.Bool.{if◌then◌else◌}
use Rattle.std.proofs.lemmas.List.{append-nil}
use Rattle.cqs_core.specs.declared.shortage.Memory.{Memory}
use Rattle.cqs_plan.specs.declared.plans.step.Step.{Step}
use Rattle.cqs_plan.specs.declared.plans.step.Step.TheVariants.{Take, Give, Down, Await, Arrive, Work}
use Rattle.cqs_plan.specs.declared.floors.answers.FloorTake.{FloorTake}
use Rattle.cqs_plan.specs.declared.floors.answers.FloorTake.TheVariants.{Now, Waits}
use Rattle.cqs_plan.specs.declared.floors.answers.FloorLeave.{FloorLeave}
use Rattle.cqs_plan.specs.declared.floors.answers.FloorLeave.TheVariants as leave
use Rattle.cqs_plan.specs.declared.floors.answers.FloorLook.{FloorLook}
use Rattle.cqs_plan.specs.declared.floors.answers.FloorLook.TheVariants.{Pending, Granted}
use Rattle.cqs_plan.specs.declared.plans.resource.Resource.{Resource}
use Rattle.cqs_plan.specs.declared.plans.job.Job.{Job}
use Rattle.cqs_plan.specs.declared.plans.plan.Plan.{Plan}
use Rattle.cqs_plan.specs.Floor.{PlainFloor, round_of}
use Rattle.cqs_plan.specs.FloorCalls.{take_answer, wait_answer, arrive_answer, look_answer, leave_answer, after_look, after_leave}
use Rattle.cqs_turns_report.specs.declared.lines.Told.{Told}
use Rattle.cqs_turns_report.specs.declared.lines.Told.TheVariants as told
use Rattle.cqs_turns_report.specs.declared.states.End.TheVariants as end
use Rattle.cqs_turns_report.specs.declared.states.Patience.{Patience}
use Rattle.cqs_turns_report.specs.declared.states.Progress.{Progress}
use Rattle.cqs_turns_report.specs.declared.states.Progress.TheVariants.{Stepping, Working, Waiting, Ended}
use Rattle.cqs_turns_report.specs.Coming.{ComesTo, LeavesAt}
use Rattle.cqs_core.specs.Parts.{IsPrefix}
use Rattle.cqs_turns_report.specs.Turns.{Role, Scene, Acted, Made, event, on_give, after_gives, after_all_gives, after_last_step, after_step, after_coming, on_take, on_wait, on_arrive, stop_or, after_steps, go_on, on_leave, after_giving_up, after_looking, after_retrying, after_waiting_long, after_acting, left_at, is_over_time, retries, fresh, one_job, each_job, one_turn, machine_after, Machine, places_held}

-- a clause on an error, from its fact
pub on-err : {T E P : Type 0} (r : Result T E) → P → OnErr r P
on-err (Ok x) fact = tt
on-err (Err e) fact = fact

-- a call that broke off has a report that is a prefix, and nothing else is to be shown of it
pub comes-off : {A B : Type 0} (text_of : B → List ℕ) (r : Result A Memory) (expected now : B) → IsErr r
    → IsPrefix (text_of now) (text_of expected) → ComesTo text_of r expected now
comes-off text_of (Ok answer) expected now failed prefix = absurd (cc)
comes-off text_of (Err memory) expected now failed prefix = record { ok = tt; err = prefix }

pub leaves-off : (r : Result Progress Memory) (expected : Acted) (now : Scene) → IsErr r
    → IsPrefix now.text expected.scene.text → LeavesAt r expected now
leaves-off (Ok progress) expected now failed prefix = absurd (cc)
leaves-off (Err memory) expected now failed prefix = record { ok = tt; err = prefix }

-- a clause on success, from two others
pub on-ok-both : {T E P Q R : Type 0} (r : Result T E) → (P → Q → R) → OnOk r P → OnOk r Q → OnOk r R
on-ok-both (Ok x) both first second = both first second
on-ok-both (Err e) both first second = tt

pub prefix-same : (t : List ℕ) → IsPrefix t t
prefix-same t = ([], sym (append-nil t))

pub prefix-added : (t more : List ℕ) → IsPrefix t (t ++ more)
prefix-added t more = (more, refl)

pub prefix-through : (whole middle text : List ℕ) → IsPrefix middle whole → IsPrefix text middle → IsPrefix text whole
prefix-through whole middle text last first =
    (first.0 ++ last.0, last.1 ∙ ap (λ t. t ++ last.0) first.1 ∙ append_assoc text first.0 last.0)

pub after_gives-grows : (r : Role) (places : List ℕ) (s : Scene) → IsPrefix s.text (after_gives r places s).text
after_gives-grows r [] s = prefix-same s.text
after_gives-grows r (at ∷ places) s =
    prefix-through _ (on_give r at s).text _ (after_gives-grows r places (on_give r at s)) (prefix-added s.text _)

pub after_last_step-grows : (r : Role) (s : Scene) → IsPrefix s.text (after_last_step r s).scene.text
after_last_step-grows r s =
    let all = after_all_gives r s in
    prefix-through _ all.text _ (prefix-added all.text _) (after_gives-grows r (places_held s.floor r.place) s)

-- so does one that may wait, whatever it is answered
after_coming-grows : (next at round : ℕ) (on : FloorTake → Scene → Scene) (answer : FloorTake) (s : Scene)
    → IsPrefix s.text (on answer s).text → IsPrefix s.text (after_coming next at round on answer s).scene.text
after_coming-grows next at round on (Now element) s grows = grows
after_coming-grows next at round on (Waits number) s grows = grows

pub after_step-grows : (r : Role) (next : ℕ) (step : Step) (s : Scene)
    → IsPrefix s.text (after_step r next step s).scene.text
after_step-grows r next (Work turns) s = prefix-same s.text
after_step-grows r next (Take at) s =
    after_coming-grows next at 0 (on_take r at) (take_answer s.floor at r.place) s (prefix-added s.text _)
after_step-grows r next (Give at) s = prefix-added s.text _
after_step-grows r next (Down at) s = prefix-added s.text _
after_step-grows r next (Await at) s =
    after_coming-grows next at 0 (on_wait r at) (wait_answer s.floor at) s (prefix-added s.text _)
after_step-grows r next (Arrive at) s =
    after_coming-grows next at (round_of s.floor r.place at) (on_arrive r at) (arrive_answer s.floor at r.place) s
    (prefix-added s.text _)

pub stop_or-grows : (m : Made) (onward : Acted) → IsPrefix m.scene.text onward.scene.text
    → IsPrefix m.scene.text (stop_or m onward).scene.text
stop_or-grows m onward grows = go m.stops
  where
    go : (stops : Option Progress) → IsPrefix m.scene.text (stop_or (record m { stops = stops }) onward).scene.text
    go None = grows
    go (Some p) = prefix-same m.scene.text

pub after_steps-grows : (r : Role) (steps : List Step) (next : ℕ) (s : Scene)
    → IsPrefix s.text (after_steps r steps next s).scene.text
after_steps-grows r [] next s = after_last_step-grows r s
after_steps-grows r (step ∷ steps) next s =
    let m : Made = after_step r next step s in
    prefix-through _ m.scene.text _
    (stop_or-grows m (after_steps r steps (next + 1) m.scene) (after_steps-grows r steps (next + 1) m.scene))
    (after_step-grows r next step s)

-- a job that goes on after an event
pub go_on-grows : (r : Role) (next : ℕ) (s : Scene) (floor : PlainFloor) (told : Told)
    → IsPrefix s.text (go_on r next (event r s floor told)).scene.text
go_on-grows r next s floor told =
    prefix-through _ (event r s floor told).text s.text
    (after_steps-grows r (drop next r.job.steps) next (event r s floor told)) (prefix-added s.text _)

pub after_giving_up-grows : (r : Role) (at round number : ℕ) (answer : FloorLeave) (s : Scene)
    → IsPrefix s.text (after_giving_up r at round number answer s).scene.text
after_giving_up-grows r at round number answer s =
    let e : Scene = on_leave r at round number answer s in
    prefix-through _ e.text s.text (after_gives-grows r (places_held e.floor r.place) e) (prefix-added s.text _)

after_acting-if : (b : Bool) (a c : Acted) (text : List ℕ) → IsPrefix text a.scene.text → IsPrefix text c.scene.text
    → IsPrefix text (if b then a else c).scene.text
after_acting-if true a c text here there = here
after_acting-if false a c text here there = there

after_looking-grows : (r : Role) (next at round number : ℕ) (answer : FloorLook) (s : Scene)
    → IsPrefix s.text (after_looking r next at round number answer s).scene.text
after_looking-grows r next at round number Pending s = prefix-same s.text
after_looking-grows r next at round number (Granted element) s =
    go_on-grows r next s (after_look s.floor r.place (Granted element)) (told.Served at round number element)

pub after_waiting_long-grows : (r : Role) (patience : Patience) (next at round number : ℕ) (answer : FloorLeave)
    (s : Scene)
    → IsPrefix s.text (after_waiting_long r patience next at round number answer s).scene.text
after_waiting_long-grows r patience next at round number answer s =
    after_acting-if (retries r patience answer) (after_retrying r next at round number s)
    (after_giving_up r at round number answer s) s.text
    (go_on-grows r (next - 1) s (after_leave s.floor r.place leave.Gone) (told.Retries at round number))
    (after_giving_up-grows r at round number answer s)

pub after_acting-grows : (r : Role) (patience : Patience) (p : Progress) (s : Scene)
    → IsPrefix s.text (after_acting r patience p s).scene.text
after_acting-grows r patience (Stepping next) s = after_steps-grows r (drop next r.job.steps) next s
after_acting-grows r patience (Working next until) s =
    after_acting-if (nat_lt r.turn until) (left_at s (Working next until)) (go_on r next s) s.text
    (prefix-same s.text) (after_steps-grows r (drop next r.job.steps) next s)
after_acting-grows r patience (Waiting next at round number) s =
    after_acting-if (is_over_time r patience)
    (after_waiting_long r patience next at round number (leave_answer s.floor r.place) s)
    (after_looking r next at round number (look_answer s.floor r.place) s) s.text
    (after_waiting_long-grows r patience next at round number (leave_answer s.floor r.place) s)
    (after_looking-grows r next at round number (look_answer s.floor r.place) s)
after_acting-grows r patience (Ended end) s = prefix-same s.text

one_job-grows : (resources : List Resource) (turn place : ℕ) (job : Job) (m : Machine)
    → IsPrefix m.scene.text (one_job resources turn place job m).scene.text
one_job-grows resources turn place job m
    = after_acting-grows _ (slice_index_or m.patience place fresh) (slice_index_or m.progress place (Ended end.Done))
    m.scene

pub each_job-grows : (resources : List Resource) (turn place : ℕ) (jobs : List Job) (m : Machine)
    → IsPrefix m.scene.text (each_job resources turn place jobs m).scene.text
each_job-grows resources turn place [] m = prefix-same m.scene.text
each_job-grows resources turn place (job ∷ jobs) m =
    let after : Machine = one_job resources turn place job m in
    prefix-through _ after.scene.text m.scene.text
    (each_job-grows resources turn (place + 1) jobs after) (one_job-grows resources turn place job m)

-- the report after some turns is a prefix of the report after more
pub machine_after-grows : (plan : Plan) (n k : ℕ)
    → IsPrefix (machine_after plan n).scene.text (machine_after plan (n + k)).scene.text
machine_after-grows plan n zero = rw add-zero (prefix-same (machine_after plan n).scene.text)
machine_after-grows plan n (suc k) =
    rw add-suc (prefix-through _ (machine_after plan (n + k)).scene.text _
    (each_job-grows plan.resources (n + k) 0 plan.jobs (machine_after plan (n + k))) (machine_after-grows plan n k))

-- what stands after a part of a turn is a prefix of what stands after all turns
pub prefix-of-later : (plan : Plan) (turn turns : ℕ) (now : Machine) (text : List ℕ) → now ≡ machine_after plan turn
    → turn < turns → IsPrefix text (one_turn plan turn now).scene.text
    → IsPrefix text (machine_after plan turns).scene.text
prefix-of-later plan turn turns now text same below prefix =
    let at : ℕ = turn + 1 in
    let this_turn : one_turn plan turn now ≡ machine_after plan at
    = ap (one_turn plan turn) same ∙ ap (machine_after plan) (sym (add-one turn)) in
    let later : IsPrefix (machine_after plan at).scene.text (machine_after plan turns).scene.text
    = let sum : turns ≡ at + (turns - at) = omega arith in
    rw sum (machine_after-grows plan at (turns - at)) in
    let so_far : IsPrefix text (machine_after plan at).scene.text = rw this_turn at prefix in
    prefix-through _ (machine_after plan at).scene.text text later so_far
