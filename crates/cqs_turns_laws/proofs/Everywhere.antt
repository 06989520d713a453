-- What the turn of each job keeps holds of the machine between any two turns.
use Rattle.std.proofs.Common.{◌≡◌, ℕ, zero, suc, ◌+◌, List, [], ◌∷◌, Some, length, slice_get, refl, subst, ◌∙◌, arith}
use Rattle.std.proofs.lemmas.List.{length-set, length-replicate}
use Rattle.cqs_plan.specs.declared.plans.job.Job.{Job}
use Rattle.cqs_plan.specs.declared.plans.plan.Plan.{Plan}
use Rattle.cqs_turns_report.specs.declared.states.Progress.TheVariants.{Stepping}
use Rattle.cqs_turns_report.specs.Turns.{Machine, one_job, each_job, opening_machine, machine_after}

-- In a turn: a fact that speaks of the place of the job that acts next.
module _ (plan : Plan) (turn : ℕ) (P : ℕ → Machine → Type 0)
    (keeps : (place : ℕ) (job : Job) (m : Machine) → slice_get plan.jobs place ≡ Some job → P place m
    → P (place + 1) (one_job plan.resources turn place job m)) where
  each-job-keeps : (place : ℕ) (jobs : List Job) (m : Machine)
      → ((i : ℕ) (job : Job) → slice_get jobs i ≡ Some job → slice_get plan.jobs (place + i) ≡ Some job)
      → place + length jobs ≡ length plan.jobs
      → P place m → P (length plan.jobs) (each_job plan.resources turn place jobs m)
  each-job-keeps place [] m there all holds =
      let last : place ≡ length plan.jobs = omega (arith, all) in subst (λ n. P n m) last holds
  each-job-keeps place (job ∷ jobs) m there all holds =
      let here : place + 0 ≡ place = omega arith in
      let later : (i : ℕ) (j : Job) → slice_get jobs i ≡ Some j → slice_get plan.jobs ((place + 1) + i) ≡ Some j
      = λ i j got. subst (λ n. slice_get plan.jobs n ≡ Some j) (omega arith) (there (suc i) j got) in
      each-job-keeps (place + 1) jobs (one_job plan.resources turn place job m) later (omega (arith, all))
      (keeps place job m (subst (λ n. slice_get plan.jobs n ≡ Some job) here (there 0 job refl)) holds)

  pub through-turn : (m : Machine) → P 0 m
      → P (length plan.jobs) (each_job plan.resources turn 0 plan.jobs m)
  through-turn m holds =
      each-job-keeps 0 plan.jobs m (λ i job got. subst (λ n. slice_get plan.jobs n ≡ Some job) (omega arith) got)
      (omega arith) holds

-- a fact that speaks of the turn too
module _ (plan : Plan) (P : ℕ → ℕ → Machine → Type 0) (opens : P 0 0 (opening_machine plan))
    (ages : (turn : ℕ) (m : Machine) → P turn (length plan.jobs) m → P (suc turn) 0 m)
    (keeps : (turn place : ℕ) (job : Job) (m : Machine) → slice_get plan.jobs place ≡ Some job → P turn place m
    → P turn (place + 1) (one_job plan.resources turn place job m)) where
  pub always-in : (turns : ℕ) → P turns 0 (machine_after plan turns)
  always-in zero = opens
  always-in (suc turns) =
      ages turns _ (through-turn plan turns (P turns) (keeps turns) (machine_after plan turns) (always-in turns))

pub always : (plan : Plan) (P : Machine → Type 0) → P (opening_machine plan)
    → ((turn place : ℕ) (job : Job) (m : Machine) → slice_get plan.jobs place ≡ Some job → P m
    → P (one_job plan.resources turn place job m))
    → (turns : ℕ) → P (machine_after plan turns)
always plan P opens keeps turns =
    always-in plan (λ turn place m. P m) opens (λ turn m holds. holds) keeps turns

-- there is a progress for each job
pub all-jobs : (plan : Plan) (turns : ℕ) → length (machine_after plan turns).progress ≡ length plan.jobs
all-jobs plan turns =
    always plan (λ m. length m.progress ≡ length plan.jobs) (length-replicate (length plan.jobs) (Stepping 0))
    (λ turn place job m there same. length-set m.progress place _ ∙ same) turns
