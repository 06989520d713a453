-- A plan without a fault keeps to what every plan keeps to.
use Rattle.std.proofs.Common.{◌≡◌, ◌≢◌, ℕ, zero, suc, ◌<◌, ◌≤◌, false, nat_le, List, [], ◌∷◌, ◌++◌, length, get_or, take, map, Result, Ok, Err, IfOk, Option, Some, None, refl, sym, subst, ◌∙◌, arith}
use Rattle.std.specs.Prelude.{codes, All, AllPairs, IsTrue}
use Rattle.std.specs.Str.{bytes_eq}
use Rattle.std.proofs.lemmas.Bool.{leb-true, or_parts, false≢true}
use Rattle.std.proofs.lemmas.List.{get_or-map, get_or-take, length-map, length-take-le}
use Rattle.std.proofs.lemmas.Option.{get_or_from_slice_get}
use Rattle.std.proofs.lemmas.Slice.Eq.{bytes_eq-Decides}
use Rattle.cqs_core.specs.Numbered.{EachAt}
use Rattle.cqs_core.proofs.Places.{get-below}
use Rattle.toml.specs.Data.{Data, get_member, as_array, Members}
use Rattle.cqs_plan.specs.declared.plans.error.PlanError.{PlanError}
use Rattle.cqs_plan.specs.declared.plans.job.Job.{Job}
use Rattle.cqs_plan.specs.declared.plans.plan.Plan.{Plan}
use Rattle.cqs_plan.specs.declared.plans.resource.Resource.{Resource}
use Rattle.cqs_plan.specs.declared.plans.fault_kind.FaultKind.TheVariants as fault
use Rattle.cqs_plan.specs.Arriving.{arriving, has_parties}
use Rattle.cqs_plan.specs.Language.{resource_kinds}
use Rattle.cqs_plan_reader.specs.FaultRules.{has_only, unless}
use Rattle.cqs_plan_reader.specs.Faults.{arriving_jobs_faults, barrier_faults, barriers_faults, faults_in, is_named, jobs_faults, jobs_part_faults, listed_job_faults, resources_faults, root_keys, root_number_faults}
use Rattle.cqs_plan_reader.specs.Meaning.{items_in, items_list, job_in, job_name, plan_in, resources_in, version_in}
use Rattle.cqs_plan_reader.specs.PlanText.{IsPlanText}
use Rattle.cqs_plan_reader.specs.Retries.{RetriesWithin}
use Rattle.cqs_plan_reader.specs.Sections.{AreFound}
use Rattle.cqs_plan.specs.Validity.{IsJob, IsPatient, IsValid}
use Rattle.cqs_plan_reader.proofs.ValidNumbers.{no_faults, unless-passed, required_number-valid, shaped-right, each-faultless}
use Rattle.cqs_plan_reader.proofs.ValidJobs.{IsReadJob, items_in-there, nothing, job-valid}

-- the names of the jobs before the j-th differ from its own
name_differs : (name : List ℕ) (jobs : List Data) (i : ℕ) (d : Data) → is_named jobs name ≡ false
    → i < length jobs → job_name (get_or jobs i d) ≢ name
name_differs name [] i d new below = absurd (omega arith)
name_differs name (job ∷ jobs) zero d new below = λ same.
    let here = (or_parts (bytes_eq (job_name job) name) _ new).0 in
    let equal = (bytes_eq-Decides (job_name job) name).1 same in
    absurd (false≢true (sym here ∙ equal))
name_differs name (job ∷ jobs) (suc i) d new below =
    name_differs name jobs i d (or_parts (bytes_eq (job_name job) name) _ new).1 (omega arith)

-- the jobs of a document without a fault
record AreJobs (version : ℕ) (resources : List Resource) (values : List Data) : Type 0 where
  few : length values ≤ 4096
  each : (i : ℕ) (d : Data) → i < length values
      → IsReadJob version resources (is_named (take i values)) (get_or values i d)

listed-valid : (version : ℕ) (resources : List Resource) (values : List Data)
    → jobs_faults version resources values ≡ [] → AreJobs version resources values
listed-valid version resources values none =
    let parts = no_faults (unless (nat_le (length values) 4096) (codes "job") fault.Many) _ none in record {
      few = leb-true (length values) 4096 (unless-passed _ (codes "job") _ parts.0);
      each = λ i d below.
          job-valid version resources (is_named (take i values)) i (get_or values i d)
          (each-faultless (listed_job_faults version resources values) 0 i values i d parts.1 (omega arith) below);
    }

jobs-valid : (version : ℕ) (resources : List Resource) (value : Option Data)
    → jobs_part_faults version resources value ≡ [] → AreJobs version resources (items_in value)
jobs-valid version resources None none = record {
  few = omega arith;
  each = λ i d below. absurd (omega arith);
}
jobs-valid version resources (Some d) none =
    let (items, is, faultless) = shaped-right (codes "job") (as_array d) _ none in
    rw (items_in-there (Some d) d items refl is) (listed-valid version resources (items_list items) faultless)

-- what holds of each value's job holds of all jobs
all-of : (P : Job → Type 0) (resources : List Resource) (values : List Data)
    → ((i : ℕ) (d : Data) → i < length values → P (job_in resources (get_or values i d)))
    → All P (map (job_in resources) values)
all-of P resources values each = λ k d below.
    let inside : k < length values = rw (← length-map values (job_in resources)) below in
    rw (get_or-map (job_in resources) values k nothing d inside) (each k nothing inside)

distinct-names : (version : ℕ) (resources : List Resource) (values : List Data)
    → AreJobs version resources values
    → AllPairs (λ (one other : Job). one.name ≢ other.name) (map (job_in resources) values)
distinct-names version resources values jobs = λ i j d less below.
    let inside : j < length values = rw (← length-map values (job_in resources)) below in
    let upto : length (take j values) ≡ j = length-take-le j values (omega arith) in
    let one : get_or (map (job_in resources) values) i d ≡ job_in resources (get_or values i nothing) =
    get_or-map (job_in resources) values i nothing d (omega arith) in
    let other : get_or (map (job_in resources) values) j d ≡ job_in resources (get_or values j nothing) =
    get_or-map (job_in resources) values j nothing d inside in
    let differs =
    name_differs (job_name (get_or values j nothing)) (take j values) i nothing
    (jobs.each j nothing inside).fresh (omega arith) in
    rw (one, other, ← get_or-take j values i nothing less) differs

-- no barrier of a document without a fault has too many jobs
few-parties : (resources : List Resource) (jobs : List Job) → barriers_faults resources jobs ≡ []
    → EachAt (λ at resource. IsTrue (has_parties resource.kind (arriving at jobs))) resources
few-parties resources jobs none = record {
  at = λ at resource there.
      let below = get-below resources at resource there in
      let here = each-faultless (barrier_faults jobs) 0 at resources at resource none (omega arith) below in
      let is : get_or resources at resource ≡ resource = get_or_from_slice_get resources at resource resource there in
      let faultless : barrier_faults jobs at resource ≡ [] = rw (← is) here in
      unless-passed (has_parties resource.kind (arriving at jobs)) _ _ faultless;
}

-- the jobs of a document without a fault, and what arrives at its barriers
record ArePlanJobs (root : Members) (resources : List Resource) : Type 0 where
  jobs : AreJobs (plan_in root).version resources (items_in (get_member (codes "job") root))
  parties : barriers_faults resources (plan_in root).jobs ≡ []
  before : unless (has_only root_keys root) (codes "plan") fault.Key ++ root_number_faults (codes "version") 1 2 root
      ++ root_number_faults (codes "turns") 1 40000 root ≡ []

plan_jobs : (root : Members) → faults_in root ≡ [] → ArePlanJobs root (resources_in resource_kinds root)
plan_jobs root none =
    let resources = resources_in resource_kinds root in
    let version = version_in root in
    let values = get_member (codes "job") root in
    let with_jobs = no_faults _ (arriving_jobs_faults version resources values) none in
    let arriving = no_faults (jobs_part_faults version resources values) _ with_jobs.1 in
    let with_resources = no_faults _ (resources_faults root) with_jobs.0 in record {
      jobs = jobs-valid version resources values arriving.0;
      parties = arriving.1;
      before = with_resources.0;
    }

-- the plan of a document without a fault whose resources are valid
pub plan-valid : (root : Members) → faults_in root ≡ [] → AreFound (plan_in root).resources
    → IsValid (plan_in root)
plan-valid root none found =
    let resources = resources_in resource_kinds root in
    let read = plan_jobs root none in
    let jobs = read.jobs in
    let turns = no_faults _ (root_number_faults (codes "turns") 1 40000 root) read.before in
    let version = no_faults (unless (has_only root_keys root) (codes "plan") fault.Key) _ turns.0 in
    let values = items_in (get_member (codes "job") root) in record {
      version = required_number-valid (codes "version") 1 2 (get_member (codes "version") root) version.1;
      turns = required_number-valid (codes "turns") 1 40000 (get_member (codes "turns") root) turns.1;
      few_resources = found.few;
      resources = found.valid;
      order = found.order;
      few_jobs = rw length-map jobs.few;
      jobs = all-of (IsJob resources) resources values (λ i d below. (jobs.each i d below).valid);
      patient = λ first. all-of IsPatient resources values (λ i d below. (jobs.each i d below).patient first);
      parties = few-parties resources (plan_in root).jobs read.parties;
      names = distinct-names (plan_in root).version resources values jobs;
    }

-- and so is the plan that was read of a text
pub read-valid : (bytes : List ℕ) (result : Result Plan PlanError) → IfOk result (IsPlanText bytes)
    → IfOk result (λ plan. AreFound plan.resources) → IfOk result IsValid
read-valid bytes (Ok plan) text found =
    let Found : Plan → Type 0 = λ p. AreFound p.resources in
    rw text.says (plan-valid text.root text.faultless (subst Found text.says found))
read-valid bytes (Err error) text found = tt

plan-retries : (root : Members) → faults_in root ≡ [] → All RetriesWithin (plan_in root).jobs
plan-retries root none =
    all-of RetriesWithin (resources_in resource_kinds root) (items_in (get_member (codes "job") root))
    (λ i d below. ((plan_jobs root none).jobs.each i d below).bounded)

-- each of its jobs that may begin a wait again says how long a wait may last
pub read-retries : (bytes : List ℕ) (result : Result Plan PlanError) → IfOk result (IsPlanText bytes)
    → IfOk result (λ plan. All RetriesWithin plan.jobs)
read-retries bytes (Ok plan) text = rw text.says (plan-retries text.root text.faultless)
read-retries bytes (Err error) text = tt
