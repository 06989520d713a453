-- All faults of a document, in the order in which they are looked for:
-- `faults_in`, at the end of this file.
use Rattle.std.specs.Prelude.{ℕ, ◌+◌, pos, Bool, ◌&&◌, not, ◌==◌, nat_le, nat_lt, int_le, if◌then◌else◌, List, [], ◌∷◌, ◌++◌, map, take, length, Option, is_some, Result, Ok, Err, codes}
use Rattle.std.specs.List.{list_any, flat_map}
use Rattle.std.specs.Str.{bytes_eq}
use Rattle.toml.specs.Data.{Data, Members, get_member, as_integer, as_str, as_array, as_table}
use Rattle.cqs_plan.specs.declared.plans.resource.Resource.{Resource}
use Rattle.cqs_plan.specs.declared.plans.job.Job.{Job}
use Rattle.cqs_plan.specs.declared.plans.fault_kind.FaultKind.{FaultKind}
use Rattle.cqs_plan.specs.declared.plans.fault_kind.FaultKind.TheVariants as fault
use Rattle.cqs_plan.specs.declared.plans.step.Step.{Step}
use Rattle.cqs_plan_reader.specs.FaultRules.{Fault, fault_at, unless, require, optional, expect_shape, each, has_only}
use Rattle.cqs_plan.specs.Arriving.{arriving, has_parties, has_round}
use Rattle.cqs_plan.specs.Holding.{is_held}
use Rattle.cqs_plan.specs.Language.{is_name, ResourceKind, resource_kinds}
use Rattle.cqs_plan_reader.specs.Meaning.{items_in, items_list, members_list, members_in, resources_in, step_of, steps_in, job_in, job_name, version_in}
use Rattle.cqs_plan_reader.specs.Places.{below_place, at_index, job_place, part_place}

-- an integer from least to most
abbrev pub number_faults : List ℕ → ℕ → ℕ → Data → List Fault
number_faults place least most value =
    expect_shape place (as_integer value) (λ number.
    unless (int_le (pos least) number && int_le number (pos most)) place fault.Range)

-- the faults of the numbers that a kind requires
abbrev pub resource_number_faults : ResourceKind → List ℕ → Members → List Fault
resource_number_faults kind name table = flat_map (λ number.
    let place = below_place (below_place kind.key name) number.key in
    require place (get_member number.key table) (number_faults place number.least number.most))
    kind.numbers

-- the faults of the i-th resource of a kind, where these names stand in earlier kinds
abbrev pub resource_faults : ResourceKind → List (List ℕ) → ℕ → List ℕ × Data → List Fault
resource_faults kind earlier i (name, value) =
    let place = below_place kind.key name in
    unless (is_name name) kind.key fault.Name
    ++ expect_shape place (as_table value) (λ table.
    unless (has_only (map (λ number. number.key) kind.numbers) table) place fault.Key
    ++ unless (not (list_any (bytes_eq name) earlier)) place fault.Name
    ++ unless (nat_lt (length earlier + i) 64) place fault.Many
    ++ resource_number_faults kind name table)

-- the names of the resources of these kinds
abbrev pub names_in : List ResourceKind → Members → List (List ℕ)
names_in kinds root =
    flat_map (λ kind. map (λ m. m.0) (members_in (get_member kind.key root))) kinds

-- the faults of the resources of a kind, name by name, in byte order
abbrev pub kind_faults : ResourceKind → List (List ℕ) → Members → List Fault
kind_faults kind earlier root = optional (get_member kind.key root) (λ value.
    expect_shape kind.key (as_table value) (λ table.
    each (members_list table) (resource_faults kind earlier)))

-- the faults of the resources of these kinds, kind by kind
abbrev pub kinds_faults : List ResourceKind → Members → List Fault
kinds_faults kinds root =
    each kinds (λ i kind. kind_faults kind (names_in (take i kinds) root) root)

abbrev pub resources_faults : Members → List Fault
resources_faults root = kinds_faults resource_kinds root

-- the fault of a text that is no step, of one that gives what isn't held, or of one that arrives at
-- a barrier once more than it has rounds
abbrev pub read_step_faults
    : List ℕ → List Resource → List Step → Result Step FaultKind → List Fault
read_step_faults place resources earlier (Ok step) =
    unless (is_held earlier step) place fault.Unheld
    ++ unless (has_round resources earlier step) place fault.Many
read_step_faults place resources earlier (Err kind) = fault_at place kind

abbrev pub step_faults : List ℕ → List Resource → List Step → Data → List Fault
step_faults place resources earlier value =
    expect_shape place (as_str value) (λ text.
    read_step_faults place resources earlier (step_of resources text))

-- the faults of the j-th of the steps of a job
abbrev pub job_step_faults : List ℕ → List Resource → List Data → ℕ → Data → List Fault
job_step_faults place resources steps j value =
    step_faults (at_index place j) resources (steps_in resources (take j steps)) value

abbrev pub steps_faults : List ℕ → List Resource → List Data → List Fault
steps_faults place resources steps =
    unless (nat_le (length steps) 64) place fault.Many
    ++ each steps (job_step_faults place resources steps)

-- the faults of what a job has at `steps`
abbrev pub steps_part_faults : ℕ → List Resource → Option Data → List Fault
steps_part_faults i resources value =
    let place = part_place i (codes "steps") in
    require place value (λ steps.
    expect_shape place (as_array steps) (λ items. steps_faults place resources (items_list items)))

-- the faults of a name, where some names stand already
abbrev pub name_faults : List ℕ → (List ℕ → Bool) → Data → List Fault
name_faults place stands value =
    expect_shape place (as_str value) (λ text.
    unless (is_name text && not (stands text)) place fault.Name)

-- one of these jobs has the name
abbrev pub is_named : List Data → List ℕ → Bool
is_named jobs name = list_any (λ job. bytes_eq (job_name job) name) jobs

-- jobs of this version may say how long their waits last, and how often they begin one again
abbrev pub has_patience : ℕ → Bool
has_patience version = version == 2

-- the keys of a job
abbrev pub job_keys : ℕ → List (List ℕ)
job_keys version =
    codes "name" ∷ codes "steps" ∷ codes "deadline"
    ∷ (if has_patience version then codes "within" ∷ codes "retry" ∷ [] else [])

-- the faults of how long each wait of the i-th job may last, which a job with retries has to say
abbrev pub within_faults : ℕ → Members → List Fault
within_faults i job =
    let place = part_place i (codes "within") in
    let within = get_member (codes "within") job in
    if is_some (get_member (codes "retry") job)
    then require place within (number_faults place 1 40000)
    else optional within (number_faults place 1 40000)

-- the faults of how often the i-th job may begin a wait again
abbrev pub retry_faults : ℕ → Members → List Fault
retry_faults i job =
    optional (get_member (codes "retry") job) (number_faults (part_place i (codes "retry")) 1 64)

-- the faults of both, in a version that has them
abbrev pub patience_faults : ℕ → ℕ → Members → List Fault
patience_faults version i job =
    if has_patience version then within_faults i job ++ retry_faults i job else []

-- the faults of the i-th job of a plan of this version, where some names stand already
abbrev pub job_faults : ℕ → List Resource → (List ℕ → Bool) → ℕ → Data → List Fault
job_faults version resources stands i value =
    let name_place = part_place i (codes "name") in
    let deadline_place = part_place i (codes "deadline") in
    expect_shape (job_place i) (as_table value) (λ job.
    unless (has_only (job_keys version) job) (job_place i) fault.Key
    ++ require name_place (get_member (codes "name") job) (name_faults name_place stands)
    ++ optional (get_member (codes "deadline") job) (number_faults deadline_place 0 40000)
    ++ patience_faults version i job
    ++ steps_part_faults i resources (get_member (codes "steps") job))

-- the faults of the i-th of these jobs, where the names of those before it stand already
abbrev pub listed_job_faults : ℕ → List Resource → List Data → ℕ → Data → List Fault
listed_job_faults version resources jobs i value =
    job_faults version resources (is_named (take i jobs)) i value

abbrev pub jobs_faults : ℕ → List Resource → List Data → List Fault
jobs_faults version resources jobs =
    unless (nat_le (length jobs) 4096) (codes "job") fault.Many
    ++ each jobs (listed_job_faults version resources jobs)

-- the faults of what the root has at `job`
abbrev pub jobs_part_faults : ℕ → List Resource → Option Data → List Fault
jobs_part_faults version resources value = optional value (λ jobs.
    expect_shape (codes "job") (as_array jobs) (λ items.
    jobs_faults version resources (items_list items)))

-- the fault of a barrier at which more jobs arrive than it has parties
abbrev pub barrier_faults : List Job → ℕ → Resource → List Fault
barrier_faults jobs at resource =
    unless (has_parties resource.kind (arriving at jobs))
    (below_place (codes "barrier") resource.name) fault.Many

abbrev pub barriers_faults : List Resource → List Job → List Fault
barriers_faults resources jobs = each resources (barrier_faults jobs)

-- the faults of the jobs that the root has, and then of the barriers at which they arrive
abbrev pub arriving_jobs_faults : ℕ → List Resource → Option Data → List Fault
arriving_jobs_faults version resources value =
    jobs_part_faults version resources value
    ++ barriers_faults resources (map (job_in resources) (items_in value))

-- the keys of the root
abbrev pub root_keys : List (List ℕ)
root_keys = codes "version" ∷ codes "turns" ∷ map (λ kind. kind.key) resource_kinds ++ codes "job"
    ∷ []

-- the faults of an integer that the root has to have
abbrev pub root_number_faults : List ℕ → ℕ → ℕ → Members → List Fault
root_number_faults key least most root =
    require key (get_member key root) (number_faults key least most)

-- all faults of a document, in order
abbrev pub faults_in : Members → List Fault
faults_in root =
    unless (has_only root_keys root) (codes "plan") fault.Key
    ++ root_number_faults (codes "version") 1 2 root
    ++ root_number_faults (codes "turns") 1 40000 root
    ++ resources_faults root
    ++ arriving_jobs_faults (version_in root) (resources_in resource_kinds root)
    (get_member (codes "job") root)
