-- The plan that a document says, from its parts.
use Rattle.std.proofs.Common.{◌≡◌, ℕ, List, [], ◌++◌, codes, map, refl, sym, ap, subst, ◌∙◌}
use Rattle.toml.specs.Data.{Members, get_member}
use Rattle.cqs_plan.specs.declared.plans.error.PlanError.{PlanError}
use Rattle.cqs_plan.specs.declared.plans.fault_kind.FaultKind.TheVariants as fault
use Rattle.cqs_plan.specs.declared.plans.job.Job.{Job}
use Rattle.cqs_plan.specs.declared.plans.plan.Plan.{Plan}
use Rattle.cqs_plan.specs.declared.plans.resource.Resource.{Resource}
use Rattle.cqs_plan_reader.specs.FaultRules.{Fault, has_only, unless}
use Rattle.cqs_plan_reader.specs.Faults.{arriving_jobs_faults, faults_in, resources_faults, root_keys, root_number_faults}
use Rattle.cqs_plan.specs.Language.{resource_kinds}
use Rattle.cqs_plan_reader.specs.Meaning.{items_in, job_in, number_in, plan_in, resources_in, version_in}
use Rattle.cqs_plan_reader.specs.Reading.{StopsAt}
use Rattle.cqs_plan_reader.specs.Sections.{AreRead}

-- the parts before the jobs have no fault
pub record AreFaultless (root : Members) : Type 0 where
  pub keys : unless (has_only root_keys root) (codes "plan") fault.Key ≡ []
  pub version : root_number_faults (codes "version") 1 2 root ≡ []
  pub turns : root_number_faults (codes "turns") 1 40000 root ≡ []

-- what is left of parts of which only the last has faults
the-last : (a b c d e : List Fault) → a ≡ [] → b ≡ [] → c ≡ [] → d ≡ [] → a ++ b ++ c ++ d ++ e ≡ e
the-last a b c d e first second third fourth = rw (first, second, third, fourth) refl

faults-left : (root : Members) (found : List Resource) → AreFaultless root → AreRead resource_kinds root found
    → faults_in root ≡ arriving_jobs_faults (version_in root) found (get_member (codes "job") root)
faults-left root found none read =
    the-last (unless (has_only root_keys root) (codes "plan") fault.Key) (root_number_faults (codes "version") 1 2 root)
    (root_number_faults (codes "turns") 1 40000 root) (resources_faults root)
    (arriving_jobs_faults (version_in root) (resources_in resource_kinds root) (get_member (codes "job") root))
    none.keys none.version none.turns read.faultless
    ∙ ap (λ (rs : List Resource). arriving_jobs_faults (version_in root) rs (get_member (codes "job") root))
    (sym read.says)

-- the first fault of the jobs is the first of all
pub stops-in-jobs : (root : Members) (found : List Resource) (e : PlanError) → AreFaultless root
    → AreRead resource_kinds root found
    → StopsAt (arriving_jobs_faults (version_in root) found (get_member (codes "job") root)) e
    → StopsAt (faults_in root) e
stops-in-jobs root found e none read stops =
    subst (λ (faults : List Fault). StopsAt faults e) (sym (faults-left root found none read)) stops

pub no-fault : (root : Members) (found : List Resource) → AreFaultless root → AreRead resource_kinds root found
    → arriving_jobs_faults (version_in root) found (get_member (codes "job") root) ≡ [] → faults_in root ≡ []
no-fault root found none read rest = faults-left root found none read ∙ rest

abbrev made : ℕ → ℕ → List Resource → List Job → Plan
made v t rs js = record { version = v; turns = t; resources = rs; jobs = js }

-- and the plan is what its parts are
pub plan-is : (root : Members) (plan : Plan) → plan.version ≡ version_in root
    → plan.turns ≡ number_in (get_member (codes "turns") root) → plan.resources ≡ resources_in resource_kinds root
    → plan.jobs ≡ map (job_in plan.resources) (items_in (get_member (codes "job") root)) → plan ≡ plan_in root
plan-is root plan version turns resources jobs =
    let listed : plan.jobs ≡ map (job_in (resources_in resource_kinds root)) (items_in (get_member (codes "job") root))
    = jobs ∙ ap (λ (rs : List Resource). map (job_in rs) (items_in (get_member (codes "job") root))) resources in
    whole plan.version plan.turns plan.resources plan.jobs _ _ _ _ version turns resources listed
  where
    whole : (v t : ℕ) (rs : List Resource) (js : List Job) (v' t' : ℕ) (rs' : List Resource) (js' : List Job)
        → v ≡ v' → t ≡ t' → rs ≡ rs' → js ≡ js'
        → made v t rs js ≡ made v' t' rs' js'
    whole v t rs js v' t' rs' js' a b c d = rw (a, b, c, d) refl
