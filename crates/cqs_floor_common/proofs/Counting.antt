-- Counting the takes, waits and arrivals of a plan.
use Rattle.std.proofs.Common.{◌≡◌, inl, inr, ℕ, suc, ◌+◌, ◌*◌, ◌<◌, ◌≤◌, Bool, true, false, List, [], ◌∷◌, Some, length, sum, refl, map, take, get_or, slice_get, count_by, ap, sym, ◌∙◌, subst, arith}
use Rattle.std.specs.Bool.{if◌then◌else◌}
use Rattle.std.specs.List.{list_any, range_with_len}
use Rattle.std.proofs.lemmas.Grind.{same_number_lists}
use Rattle.std.proofs.lemmas.List.{take_more, length-map}
use Rattle.std.proofs.lemmas.List.FromFn.{get_or-map-range_with_len, length-map-range_with_len}
use Rattle.std.proofs.lemmas.List.Sums.{count_by-le-length, sum_by-cons, sum_by_push}
use Rattle.std.proofs.lemmas.Option.{slice_get-get_or}
use Rattle.std.proofs.Math.Seq.{take-length}
use Rattle.cqs_core.specs.Numbered.{EachAt}
use Rattle.cqs_core.proofs.Places.{get-below}
use Rattle.cqs_plan.specs.declared.plans.job.Job.{Job}
use Rattle.cqs_plan.specs.declared.plans.kind.Kind.{Kind}
use Rattle.cqs_plan.specs.declared.plans.plan.Plan.{Plan}
use Rattle.cqs_plan.specs.declared.plans.resource.Resource.{Resource}
use Rattle.cqs_plan.specs.declared.plans.step.Step.{Step}
use Rattle.cqs_plan.specs.declared.plans.step.Step.TheVariants as step
use Rattle.cqs_plan.specs.Floor.{times_at, waits_of_job}
use Rattle.cqs_plan.specs.PlanSteps.{may_wait}
use Rattle.cqs_plan.specs.Holding.{TookMore}
use Rattle.cqs_plan.specs.Runnable.{IsRunnable, IsMakeable, kinds_of, round_after}
use Rattle.cqs_turns_report.proofs.KindsThere.{barrier-there, holdable-there, latch-there}
use Rattle.cqs_turns_report.proofs.StepCounts.{WaitsAt}
use Rattle.cqs_floor_common.specs.Room.{AreWithin, IsCountable, IsWithin, room_of}

-- a step that may wait names one of the resources
pub within-at : (n : ℕ) (steps : List Step) (i at : ℕ) → AreWithin n steps → i < length steps
    → WaitsAt (get_or steps i (step.Take 0)) at → at < n
within-at n steps i at within below waits =
    go waits (within.at i _ (slice_get-get_or steps i (step.Take 0) below))
  where
    go : WaitsAt (get_or steps i (step.Take 0)) at → IsWithin n (get_or steps i (step.Take 0)) → at < n
    go (inl is) inside = subst (IsWithin n) is inside
    go (inr (inl is)) inside = subst (IsWithin n) is inside
    go (inr (inr is)) inside = subst (IsWithin n) is inside

-- one more job is counted
pub room-more : (jobs : List Job) (i : ℕ) (job : Job) (at : ℕ) → i < length jobs → job ≡ get_or jobs i job
    → room_of (take (i + 1) jobs) at ≡ room_of (take i jobs) at + waits_of_job at job
room-more jobs i job at below is =
    ap (λ js. room_of js at) (take_more jobs i job below)
    ∙ sum_by_push (waits_of_job at) (take i jobs) (get_or jobs i job)
    ∙ ap (λ (j : Job). room_of (take i jobs) at + waits_of_job at j) (sym is)

-- a job begins to wait at a resource no more often than it has steps and retries
pub waits-most : (at : ℕ) (job : Job) → length job.steps ≤ 64 → job.retry ≤ 64 → waits_of_job at job ≤ 128
waits-most at job few few_retries =
    go (list_any (may_wait at) job.steps) (count_by-le-length (may_wait at) job.steps)
  where
    go : (b : Bool) → count_by (may_wait at) job.steps ≤ length job.steps
        → count_by (may_wait at) job.steps + (if b then job.retry else 0) ≤ 128
    go true fits = omega (arith, fits, few, few_retries)
    go false fits = omega (arith, fits, few)

-- a job without retries adds none
pub times-none : (at : ℕ) (job : Job) (times : ℕ) → times ≡ 0 → times_at at job times ≡ 0
times-none at job times none = go (list_any (may_wait at) job.steps)
  where
    go : (b : Bool) → (if b then times else 0) ≡ 0
    go true = none
    go false = refl

-- numbers that are all small have a small sum
pub sum-most : (xs : List ℕ) → ((i : ℕ) → get_or xs i 0 ≤ 524288) → sum xs ≤ 524288 * length xs
sum-most [] few = omega arith
sum-most (x ∷ xs) few =
    let first : x ≤ 524288 = few 0 in
    let rest : sum xs ≤ 524288 * length xs = sum-most xs (λ i. few (suc i)) in
    let both : x + sum xs ≤ 524288 * suc (length xs) = omega (arith, first, rest) in
    subst (λ n. n ≤ 524288 * suc (length xs)) (sym (sum_by-cons (λ n. n) x xs)) both

-- what was counted place by place is the list of the counts
pub counts-all : (room : List ℕ) (jobs : List Job) (n i : ℕ) → length room ≡ n → i ≡ length jobs
    → ((at : ℕ) → at < n → get_or room at 0 ≡ room_of (take i jobs) at)
    → room ≡ map (room_of jobs) (range_with_len 0 n)
counts-all room jobs n i long all counts =
    same_number_lists room (map (room_of jobs) (range_with_len 0 n))
    (long ∙ sym (length-map-range_with_len (room_of jobs) 0 n))
    (λ k below. counts k (omega (arith, below, long)) ∙ whole k
    ∙ sym (get_or-map-range_with_len (room_of jobs) 0 n k k 0 (omega arith) (omega arith)))
  where
    whole : (k : ℕ) → room_of (take i jobs) k ≡ room_of jobs k
    whole k = ap (λ m. room_of (take m jobs) k) all ∙ ap (λ js. room_of js k) (take-length jobs)

-- the steps of a plan that can be run name its resources
pub runnable-countable : (plan : Plan) → IsRunnable plan
    → EachAt (λ place job. IsCountable (length plan.resources) job) plan.jobs
runnable-countable plan runnable = record {
  at = λ place job got. record {
    few = runnable.few_steps.at place job got;
    few_retries = runnable.few_retries.at place job got;
    within = record {
      at = λ n s there. within s (take n job.steps) ((runnable.steps.at place job got).at n s there);
    };
  };
}
  where
    place-below : (at : ℕ) (k : Kind) → slice_get (kinds_of plan.resources) at ≡ Some k
        → at < length plan.resources
    place-below at k got =
        omega (
          arith,
          get-below (kinds_of plan.resources) at k got,
          length-map plan.resources (λ (r : Resource). r.kind),
        )

    within : (s : Step) (earlier : List Step)
        → IsMakeable (kinds_of plan.resources) (TookMore earlier) (round_after earlier) s
        → IsWithin (length plan.resources) s
    within (step.Take at) earlier makeable =
        let is = holdable-there (slice_get (kinds_of plan.resources) at) makeable in
        place-below at is.0 is.1
    within (step.Give at) earlier makeable = tt
    within (step.Work turns) earlier makeable = tt
    within (step.Down at) earlier makeable = tt
    within (step.Await at) earlier makeable =
        let is = latch-there (slice_get (kinds_of plan.resources) at) makeable in
        place-below at is.0 is.1
    within (step.Arrive at) earlier makeable =
        let is = barrier-there (slice_get (kinds_of plan.resources) at) (round_after earlier at) makeable in
        place-below at is.0 is.1
