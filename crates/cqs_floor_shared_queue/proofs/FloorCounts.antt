-- Opening the resources of a plan for several workers; and no job counts where there is no resource.
use Rattle.std.proofs.Common.{◌≡◌, ◌⊎◌, inl, inr, ℕ, suc, ne_eqb, ◌+◌, ◌<◌, ◌≤◌, Bool, false, ◌||◌, if◌then◌else◌, List, [], ◌∷◌, ◌++◌, Some, length, get_or, slice_get, count_by, refl, ap, sym, ◌∙◌, arith}
use Rattle.std.specs.Prelude.{slice_index}
use Rattle.std.specs.List.{list_any}
use Rattle.std.proofs.lemmas.Bool.{cases_lt}
use Rattle.std.proofs.lemmas.List.{length_push}
use Rattle.std.proofs.lemmas.List.Sums.{sum_by-cons}
use Rattle.std.proofs.lemmas.Option.{slice_get-get_or}
use Rattle.cqs_core.proofs.Counts.{bit}
use Rattle.cqs_core.proofs.Places.{get-below, get-append_below, get-push_at}
use Rattle.cqs_plan.specs.declared.plans.job.Job.{Job}
use Rattle.cqs_plan.specs.declared.plans.plan.Plan.{Plan}
use Rattle.cqs_plan.specs.declared.plans.resource.Resource.{Resource}
use Rattle.cqs_plan.specs.declared.plans.step.Step.{Step}
use Rattle.cqs_plan.specs.declared.plans.step.Step.TheVariants as step
use Rattle.cqs_plan.specs.Floor.{times_at, waits_of_job}
use Rattle.cqs_plan.specs.PlanSteps.{may_wait}
use Rattle.cqs_plan.specs.Runnable.{IsRunnable}
use Rattle.cqs_floor_common.specs.Room.{IsCountable, IsWithin, room_of}
use Rattle.cqs_floor_common.proofs.Counting.{runnable-countable}
use Rattle.cqs_floor_shared_queue.specs.Openings.{HaveOpened}
use Rattle.cqs_floor_shared_kinds.specs.ShareCalls.{IsOpened}
use Rattle.cqs_floor_shared_kinds.specs.Shares.{Share}

-- one more resource is opened
pub opened-push : {X : Type 0} (s : Share X) (resources : List Resource) (workers : ℕ) (room : List ℕ) (shares : List X)
    (resource : Resource) (share : X)
    → length shares < length resources → resource ≡ get_or resources (length shares) resource
    → IsOpened s resource.kind workers (slice_index room (length shares)) share
    → HaveOpened s resources workers room shares → HaveOpened s resources workers room (shares ++ share ∷ [])
opened-push {X} s resources workers room shares resource share below is opens opened =
    record { each = λ at r x named got. go at r x named got (cases_lt at (length shares)) }
  where
    go : (at : ℕ) (r : Resource) (x : X) → slice_get resources at ≡ Some r
        → slice_get (shares ++ share ∷ []) at ≡ Some x
        → (at < length shares) ⊎ (length shares ≤ at)
        → IsOpened s r.kind workers (slice_index room at) x
    go at r x named got (inl before) =
        opened.each at r x named (sym (get-append_below shares (share ∷ []) at before) ∙ got)
    go at r x named got (inr past) =
        let last : at ≡ length shares =
        omega (arith, get-below (shares ++ share ∷ []) at x got, length_push shares share) in
        let share_is : Some share ≡ Some x = sym (get-push_at shares share at last) ∙ got in
        let same_share : share ≡ x = cc in
        let named_is : Some (get_or resources (length shares) resource) ≡ Some r =
        sym (slice_get-get_or resources (length shares) resource below)
        ∙ ap (slice_get resources) (sym last) ∙ named in
        let same : get_or resources (length shares) resource ≡ r = cc in
        let same_resource : resource ≡ r = is ∙ same in
        rw (last, ← same_share, ← same_resource) opens

-- no step names a resource that isn't there
step-past : (resources at : ℕ) (q : Step) → IsWithin resources q → resources ≤ at → may_wait at q ≡ false
step-past resources at (step.Take place) within past = ne_eqb place at (λ e. absurd (omega (arith, within, past, e)))
step-past resources at (step.Await place) within past = ne_eqb place at (λ e. absurd (omega (arith, within, past, e)))
step-past resources at (step.Arrive place) within past = ne_eqb place at (λ e. absurd (omega (arith, within, past, e)))
step-past resources at (step.Give place) within past = refl
step-past resources at (step.Down place) within past = refl
step-past resources at (step.Work turns) within past = refl

steps-past : (resources at : ℕ) (steps : List Step)
    → ((n : ℕ) (q : Step) → slice_get steps n ≡ Some q → IsWithin resources q)
    → resources ≤ at → count_by (may_wait at) steps ≡ 0
steps-past resources at [] within past = refl
steps-past resources at (q ∷ steps) within past =
    let rest = steps-past resources at steps (λ n p got. within (suc n) p got) past in
    let here : bit (may_wait at q) ≡ 0 = ap bit (step-past resources at q (within 0 q refl) past) in
    let all = sum_by-cons (λ (p : Step). bit (may_wait at p)) q steps in
    omega (arith, rest, here, all)

any-past : (resources at : ℕ) (steps : List Step)
    → ((n : ℕ) (q : Step) → slice_get steps n ≡ Some q → IsWithin resources q)
    → resources ≤ at → list_any (may_wait at) steps ≡ false
any-past resources at [] within past = refl
any-past resources at (q ∷ steps) within past =
    ap (λ b. b || list_any (may_wait at) steps) (step-past resources at q (within 0 q refl) past)
    ∙ any-past resources at steps (λ n p got. within (suc n) p got) past

jobs-past : (resources at : ℕ) (jobs : List Job)
    → ((n : ℕ) (job : Job) → slice_get jobs n ≡ Some job → IsCountable resources job)
    → resources ≤ at → room_of jobs at ≡ 0
jobs-past resources at [] countable past = refl
jobs-past resources at (job ∷ jobs) countable past =
    let rest = jobs-past resources at jobs (λ n j got. countable (suc n) j got) past in
    let here = steps-past resources at job.steps (countable 0 job refl).within.at past in
    let none : times_at at job job.retry ≡ 0 =
    ap (λ (b : Bool). if b then job.retry else 0)
    (any-past resources at job.steps (countable 0 job refl).within.at past) in
    let all = sum_by-cons (waits_of_job at) job jobs in
    omega (arith, rest, here, none, all)

pub room-past : (plan : Plan) → IsRunnable plan → (at : ℕ) → length plan.resources ≤ at → room_of plan.jobs at ≡ 0
room-past plan runnable at past =
    jobs-past (length plan.resources) at plan.jobs (runnable-countable plan runnable).at past
