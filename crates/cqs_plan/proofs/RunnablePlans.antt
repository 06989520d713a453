-- A plan that was read can be run: its steps can be made.
use Rattle.std.proofs.Common.{◌≡◌, ℕ, ◌<◌, zero, suc, Bool, List, [], ◌∷◌, take, Option, Some, None, refl, ap, ◌∙◌, subst}
use Rattle.std.specs.Prelude.{slice_get, slice_index_or, All, IsSomeAnd, IsTrue, IfOk, Result, Ok, Err}
use Rattle.std.specs.Option.{option_map, option_map_or}
use Rattle.std.proofs.lemmas.Option.{slice_get-map}
use Rattle.cqs_core.proofs.Places.{get-below}
use Rattle.cqs_plan.specs.declared.plans.error.PlanError.{PlanError}
use Rattle.cqs_plan.specs.declared.plans.kind.Kind.{Kind}
use Rattle.cqs_plan.specs.declared.plans.kind.Kind.TheVariants.{Semaphore, Mutex, Pool, Latch, Rounds}
use Rattle.cqs_plan.specs.declared.plans.resource.Resource.{Resource}
use Rattle.cqs_plan.specs.declared.plans.step.Step.{Step}
use Rattle.cqs_plan.specs.declared.plans.step.Step.TheVariants.{Take, Give, Down, Await, Arrive, Work}
use Rattle.cqs_plan.specs.declared.plans.job.Job.{Job}
use Rattle.cqs_plan.specs.declared.plans.plan.Plan.{Plan}
use Rattle.cqs_plan.specs.Arriving.{rounds_at, rounds_of}
use Rattle.cqs_plan.specs.Floor.{IsHoldable, IsLatch, HasRound}
use Rattle.cqs_plan.specs.Language.{can_hold, is_barrier, is_latch}
use Rattle.cqs_plan.specs.Holding.{TookMore}
use Rattle.cqs_plan.specs.Runnable.{kinds_of, round_after, IsMakeable, IsRunnable, AreSized}
use Rattle.cqs_plan.specs.Validity.{IsValid, IsResource, IsJob, IsStep, HasKindAt}

-- an element is where its number says
get_or-at : {X : Type 0} (xs : List X) (i : ℕ) (x : X) → slice_get xs i ≡ Some x → slice_index_or xs i x ≡ x
get_or-at [] i x there = cc
get_or-at (y ∷ ys) zero x there = cc
get_or-at (y ∷ ys) (suc i) x there = get_or-at ys i x there

pub all-at : {X : Type 0} (P : X → Type 0) (xs : List X) (i : ℕ) (x : X) → All P xs → slice_get xs i ≡ Some x → P x
all-at P xs i x all there = subst P (get_or-at xs i x there) (all i x (get-below xs i x there))

-- what can be held, is a latch, or is a barrier with some rounds, by the tests of the language
held-kind : (kind : Kind) → IsTrue (can_hold kind) → IsHoldable (Some kind)
held-kind (Semaphore permits) is = tt
held-kind Mutex is = tt
held-kind (Pool elements) is = tt
held-kind (Latch count) is = absurd (cc)
held-kind (Rounds parties rounds) is = absurd (cc)

latch-kind : (kind : Kind) → IsTrue (is_latch kind) → IsLatch (Some kind)
latch-kind (Semaphore permits) is = absurd (cc)
latch-kind Mutex is = absurd (cc)
latch-kind (Pool elements) is = absurd (cc)
latch-kind (Latch count) is = tt
latch-kind (Rounds parties rounds) is = absurd (cc)

round-kind : (kind : Kind) (round : ℕ) → IsTrue (is_barrier kind) → round < rounds_of kind → HasRound (Some kind) round
round-kind (Semaphore permits) round is below = absurd (cc)
round-kind Mutex round is below = absurd (cc)
round-kind (Pool elements) round is below = absurd (cc)
round-kind (Latch count) round is below = absurd (cc)
round-kind (Rounds parties rounds) round is below = below

module _ (plan : Plan) (valid : IsValid plan) where
  -- the kind of a resource at its place
  kind-at : (at : ℕ) (r : Resource) → slice_get plan.resources at ≡ Some r
      → slice_get (kinds_of plan.resources) at ≡ Some r.kind
  kind-at at r there =
      slice_get-map (λ (x : Resource). x.kind) plan.resources at ∙ ap (option_map (λ (x : Resource). x.kind)) there

  -- what a test of the language tells of the kind at a place
  named-at : (test : Kind → Bool) (P : Option Kind → Type 0) → ((kind : Kind) → IsTrue (test kind) → P (Some kind))
      → (at : ℕ) → HasKindAt plan.resources test at
      → P (slice_get (kinds_of plan.resources) at)
  named-at test P tells at there = go (slice_get plan.resources at) refl there
    where
      go : (o : Option Resource) → slice_get plan.resources at ≡ o
          → IsSomeAnd o (λ resource. IsTrue (test resource.kind))
          → P (slice_get (kinds_of plan.resources) at)
      go None is named = absurd named
      go (Some r) is named = rw (kind-at at r is) (tells r.kind named)

  -- an arrival has a round at its barrier
  round-at : (at round : ℕ) → HasKindAt plan.resources is_barrier at → round < rounds_at plan.resources at
      → HasRound (slice_get (kinds_of plan.resources) at) round
  round-at at round there below = go (slice_get plan.resources at) refl there below
    where
      go : (o : Option Resource) → slice_get plan.resources at ≡ o
          → IsSomeAnd o (λ resource. IsTrue (is_barrier resource.kind))
          → round < option_map_or (λ (resource : Resource). rounds_of resource.kind) o 0
          → HasRound (slice_get (kinds_of plan.resources) at) round
      go None is named left = absurd named
      go (Some r) is named left = rw (kind-at at r is) (round-kind r.kind round named left)

  makeable : (job : Job) → IsJob plan.resources job → (n : ℕ) (step : Step) → slice_get job.steps n ≡ Some step
      → IsStep plan.resources step
      → IsMakeable (kinds_of plan.resources) (TookMore (take n job.steps)) (round_after (take n job.steps)) step
  makeable job fits n (Take at) there named = named-at can_hold IsHoldable held-kind at named
  makeable job fits n (Give at) there named = fits.gives n at there
  makeable job fits n (Down at) there named = named-at is_latch IsLatch latch-kind at named
  makeable job fits n (Await at) there named = named-at is_latch IsLatch latch-kind at named
  makeable job fits n (Arrive at) there named =
      round-at at (round_after (take n job.steps) at) named (fits.arrives n at there)
  makeable job fits n (Work turns) there named = named.1

  pub runnable : IsRunnable plan
  runnable = record {
    turns = valid.turns.1;
    resources = valid.few_resources;
    jobs = valid.few_jobs;
    few_steps = record {
      at = λ place job there.
          let fits = all-at (IsJob plan.resources) plan.jobs place job valid.jobs there in fits.few;
    };
    few_retries = record {
      at = λ place job there.
          let fits = all-at (IsJob plan.resources) plan.jobs place job valid.jobs there in fits.retry;
    };
    steps = record {
      at = λ place job there.
          let fits = all-at (IsJob plan.resources) plan.jobs place job valid.jobs there in
          record {
            at = λ n step found.
                makeable job fits n step found (all-at (IsStep plan.resources) job.steps n step fits.steps found);
          };
    };
    parties = valid.parties;
  }

-- what a reader answers can be run
pub read-runnable : (result : Result Plan PlanError) → IfOk result IsValid → IfOk result IsRunnable
read-runnable (Ok plan) valid = runnable plan valid
read-runnable (Err error) valid = tt

pub read-sized : (result : Result Plan PlanError) → IfOk result IsValid
    → IfOk result (λ plan. AreSized plan.resources)
read-sized (Ok plan) valid = record {
  at = λ at r there. (all-at IsResource plan.resources at r valid.resources there).sized;
}
read-sized (Err error) valid = tt
