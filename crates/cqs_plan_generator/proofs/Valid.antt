-- The plan that a number makes is a plan, and can be run.
use Rattle.std.proofs.Common.{◌≡◌, ℕ, zero, suc, ◌+◌, ◌*◌, ◌<◌, ◌≤◌, ◌^◌, ◌%◌, true, [], ◌∷◌, ◌++◌, length, get_or, refl, rules, nat_le, arith, subst, Some, slice_get}
use Rattle.std.specs.Prelude.{codes, All, IfSome, IsTrue}
use Rattle.std.specs.Fmt.{decimal}
use Rattle.std.specs.List.{list_all}
use Rattle.std.proofs.lemmas.Bool.{le-leb}
use Rattle.std.proofs.lemmas.Fmt.{decimal_by_steps, decimal_injective, length-decimal-le}
use Rattle.std.proofs.lemmas.List.Folds.{list_all-append}
use Rattle.std.proofs.lemmas.List.FromFn.{get_or-map-range_with_len, length-map-range_with_len}
use Rattle.cqs_plan.specs.declared.plans.job.Job.{Job}
use Rattle.cqs_plan.specs.declared.plans.kind.Kind.TheVariants.{Semaphore, Pool}
use Rattle.cqs_plan.specs.declared.plans.resource.Resource.{Resource}
use Rattle.cqs_plan.specs.Language.{is_name, is_name_byte}
use Rattle.cqs_plan.specs.Order.{AreInOrder}
use Rattle.cqs_plan.specs.Arriving.{arriving, has_parties}
use Rattle.cqs_plan.specs.Runnable.{AreSized, IsRunnable}
use Rattle.cqs_plan.specs.Validity.{IsJob, IsKind, IsResource, IsStep, IsValid, ArrivesInRounds, GivesWhatItTook}
use Rattle.cqs_plan.proofs.RunnablePlans.{runnable}
use Rattle.cqs_plan_generator.specs.Draws.{draw}
use Rattle.cqs_plan_generator.specs.Generated.{resources, steps_of, deadline_of, job_of, nth_job, plan_of_number}

-- a digit may stand in a name
digit-named : (n : ℕ) → n < 10 → is_name_byte (48 + n) ≡ true
digit-named zero below = refl
digit-named (suc zero) below = refl
digit-named (suc (suc zero)) below = refl
digit-named (suc (suc (suc zero))) below = refl
digit-named (suc (suc (suc (suc zero)))) below = refl
digit-named (suc (suc (suc (suc (suc zero))))) below = refl
digit-named (suc (suc (suc (suc (suc (suc zero)))))) below = refl
digit-named (suc (suc (suc (suc (suc (suc (suc zero))))))) below = refl
digit-named (suc (suc (suc (suc (suc (suc (suc (suc zero)))))))) below = refl
digit-named (suc (suc (suc (suc (suc (suc (suc (suc (suc zero))))))))) below = refl
digit-named (suc (suc (suc (suc (suc (suc (suc (suc (suc (suc n)))))))))) below = absurd (omega arith)

decimal-named : (n : ℕ) → n < 2 ^ 64 → list_all is_name_byte (decimal n) ≡ true
decimal-named n small = decimal_by_steps (λ m ds. list_all is_name_byte ds ≡ true)
    (λ m below. rw (digit-named m below) refl)
    (λ m ds ten all.
    let digit : is_name_byte (48 + m % 10) ≡ true = digit-named (m % 10) (omega arith) in
    rw (list_all-append is_name_byte ds ((48 + m % 10) ∷ []), all, digit) refl)
    n small

name-is : (i : ℕ) → i < 4096 → IsTrue (is_name (codes "j" ++ decimal i))
name-is i below =
    let named = decimal-named i (omega arith) in
    let short = length-decimal-le 4 i (omega arith) (omega arith) (omega arith) in
    let low : nat_le 1 (length (codes "j" ++ decimal i)) ≡ true = le-leb _ _ (omega arith) in
    let high : nat_le (length (codes "j" ++ decimal i)) 32 ≡ true = le-leb _ _ (omega arith) in
    rw (low, high, named) refl

steps-are : (a b : ℕ) → All (IsStep resources) (steps_of a b)
steps-are a b = search rules

few-steps : (a b : ℕ) → length (steps_of a b) ≤ 64
few-steps a b = search rules

gives-none : (a b : ℕ) → GivesWhatItTook (steps_of a b)
gives-none a b = search rules

-- and none arrives
arrives-none : (a b : ℕ) → ArrivesInRounds resources (steps_of a b)
arrives-none a b = search rules

in-time : (c : ℕ) → IfSome (deadline_of c) (λ turn. turn ≤ 40000)
in-time c = search rules

job-is : (i a b c : ℕ) → i < 4096 → IsJob resources (job_of i a b c)
job-is i a b c below = record {
  named = name-is i below;
  deadline = in-time c;
  within = tt;
  retry = omega arith;
  few = few-steps a b;
  steps = steps-are a b;
  gives = gives-none a b;
  arrives = arrives-none a b;
}

each-resource : All IsResource resources
each-resource zero d below = record { named = refl; sized = (omega arith, omega arith) }
each-resource (suc zero) d below = record { named = refl; sized = (omega arith, omega arith) }
each-resource (suc (suc k)) d below = absurd (omega arith)

-- each has its number in its range
each-sized : (at : ℕ) (r : Resource) → slice_get resources at ≡ Some r → IsKind r.kind
each-sized zero r there =
    let is : Some (record { name = codes "db"; kind = Semaphore 2 }) ≡ Some r = there in
    let same : record { name = codes "db"; kind = Semaphore 2 } ≡ r = cc in
    subst (λ (x : Resource). IsKind x.kind) same (omega arith, omega arith)
each-sized (suc zero) r there =
    let is : Some (record { name = codes "buf"; kind = Pool 1 }) ≡ Some r = there in
    let same : record { name = codes "buf"; kind = Pool 1 } ≡ r = cc in
    subst (λ (x : Resource). IsKind x.kind) same (omega arith, omega arith)
each-sized (suc (suc k)) r there = absurd (cc)

pub resources-sized : AreSized resources
resources-sized = record { at = each-sized }

-- and none of them is a barrier
no-parties : (jobs at : ℕ) (r : Resource) → slice_get resources at ≡ Some r → IsTrue (has_parties r.kind jobs)
no-parties jobs zero r there =
    let is : Some (record { name = codes "db"; kind = Semaphore 2 }) ≡ Some r = there in
    let same : record { name = codes "db"; kind = Semaphore 2 } ≡ r = cc in
    subst (λ (x : Resource). IsTrue (has_parties x.kind jobs)) same refl
no-parties jobs (suc zero) r there =
    let is : Some (record { name = codes "buf"; kind = Pool 1 }) ≡ Some r = there in
    let same : record { name = codes "buf"; kind = Pool 1 } ≡ r = cc in
    subst (λ (x : Resource). IsTrue (has_parties x.kind jobs)) same refl
no-parties jobs (suc (suc k)) r there = absurd (cc)

in-order : AreInOrder resources
in-order = record { order = search rules; distinct = search rules }

module _ (number jobs : ℕ) (some : 1 ≤ jobs) (few : jobs ≤ 4096) where
  many : length (plan_of_number number jobs).jobs ≡ jobs
  many = length-map-range_with_len (nth_job number) 0 jobs

  at-place : (k : ℕ) (d : Job) → k < jobs → get_or (plan_of_number number jobs).jobs k d ≡ nth_job number k
  at-place k d below = get_or-map-range_with_len (nth_job number) 0 jobs k k d below (omega arith)

  pub generated-valid : IsValid (plan_of_number number jobs)
  generated-valid = record {
    version = (omega arith, omega arith);
    turns = (omega arith, omega arith);
    few_resources = omega arith;
    resources = each-resource;
    order = in-order;
    few_jobs = rw many few;
    jobs = λ k d below.
        let inside : k < jobs = rw (← many) below in
        rw (at-place k d inside)
        (job-is k (draw number (3 * k)) (draw number (3 * k + 1)) (draw number (3 * k + 2)) (omega arith));
    patient = λ first k d below.
        let inside : k < jobs = rw (← many) below in
        rw (at-place k d inside) (record { within = refl; retry = refl });
    parties = record { at = λ at r there. no-parties (arriving at (plan_of_number number jobs).jobs) at r there };
    names = λ i j d less below.
        let inside : j < jobs = rw (← many) below in
        rw (at-place i d (omega arith), at-place j d inside) (λ same.
        let tails : decimal i ≡ decimal j = cc in
        let equal = decimal_injective i j (omega arith) (omega arith) tails in
        absurd (omega arith));
  }

  pub generated-runnable : IsRunnable (plan_of_number number jobs)
  generated-runnable = runnable (plan_of_number number jobs) generated-valid
