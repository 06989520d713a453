-- What is read of one more value.
use Rattle.std.proofs.Common.{◌≡◌, List, [], ◌∷◌, ◌++◌, Some, ℕ, Bool, true, false, ◌||◌, refl, ap, ◌∙◌}
use Rattle.std.proofs.lemmas.List.Folds.{list_any-append}
use Rattle.std.proofs.lemmas.List.Elements.{filter_map-append}
use Rattle.std.specs.Str.{bytes_eq}
use Rattle.toml.specs.Data.{Data}
use Rattle.cqs_plan.specs.declared.plans.resource.Resource.{Resource}
use Rattle.cqs_plan.specs.declared.plans.step.Step.{Step}
use Rattle.cqs_plan_reader.specs.Faults.{is_named, job_faults}
use Rattle.cqs_plan_reader.specs.Meaning.{job_name, step_in, steps_in}

pub steps_in-push : (resources : List Resource) (values : List Data) (value : Data) (step : Step)
    → step_in resources value ≡ Some step
    → steps_in resources (values ++ value ∷ []) ≡ steps_in resources values ++ step ∷ []
steps_in-push resources values value step says =
    filter_map-append (step_in resources) values (value ∷ []) ∙ rw says

-- the faults of a job depend on which names stand, and not on how that is told
pub job_faults-same : (version : ℕ) (resources : List Resource) (stands others : List ℕ → Bool) (i : ℕ) (value : Data)
    → ((name : List ℕ) → stands name ≡ others name)
    → job_faults version resources stands i value ≡ job_faults version resources others i value
job_faults-same version resources stands others i value same =
    let equal : stands ≡ others = λ d name. same name d in
    ap (λ (told : List ℕ → Bool). job_faults version resources told i value) equal

or-swap : (a b : Bool) → (a || (b || false)) ≡ (b || a)
or-swap true true = refl
or-swap true false = refl
or-swap false true = refl
or-swap false false = refl

pub is_named-push : (jobs : List Data) (job : Data) (name : List ℕ)
    → is_named (jobs ++ job ∷ []) name ≡ (bytes_eq (job_name job) name || is_named jobs name)
is_named-push jobs job name =
    list_any-append (λ other. bytes_eq (job_name other) name) jobs (job ∷ [])
    ∙ or-swap (is_named jobs name) (bytes_eq (job_name job) name)
