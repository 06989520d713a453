-- A job without a fault is what a job has to be.
use Rattle.std.proofs.Common.{◌≡◌, ℕ, zero, suc, ◌<◌, ◌≤◌, Bool, true, false, not, nat_le, List, [], ◌∷◌, length, get_or, take, Option, Some, None, Result, Ok, Err, slice_get, refl, sym, ap, subst, ◌∙◌, arith}
use Rattle.std.specs.Prelude.{codes, IfSome, All}
use Rattle.std.specs.List.{filter_map}
use Rattle.std.proofs.lemmas.Bool.{and_parts, leb-true, ltb-true, not-true}
use Rattle.std.proofs.lemmas.Option.{get_or_from_slice_get}
use Rattle.toml.specs.Data.{Data, boolean, table, get, get_member, as_table, as_str, as_array, Members, Items}
use Rattle.cqs_plan.specs.declared.plans.fault_kind.FaultKind.{FaultKind}
use Rattle.cqs_plan.specs.declared.plans.fault_kind.FaultKind.TheVariants as fault
use Rattle.cqs_plan.specs.declared.plans.job.Job.{Job}
use Rattle.cqs_plan.specs.declared.plans.resource.Resource.{Resource}
use Rattle.cqs_plan.specs.declared.plans.step.Step.{Step}
use Rattle.cqs_plan.specs.declared.plans.step.Step.TheVariants.{Arrive, Give}
use Rattle.cqs_plan.specs.Language.{is_name}
use Rattle.cqs_plan_reader.specs.FaultRules.{has_only, optional, require, unless}
use Rattle.cqs_plan_reader.specs.Faults.{job_faults, job_keys, job_step_faults, name_faults, number_faults, patience_faults, read_step_faults, step_faults, steps_faults, steps_part_faults}
use Rattle.cqs_plan.specs.Arriving.{has_round}
use Rattle.cqs_plan.specs.Holding.{is_held}
use Rattle.cqs_plan_reader.specs.Places.{at_index, job_place, part_place}
use Rattle.cqs_plan_reader.specs.Meaning.{items_in, items_list, text_in, given_number, job_in, job_name, number_in, step_in, step_of, steps_in}
use Rattle.cqs_plan.specs.Validity.{IsStep, IsJob, IsPatient, ArrivesInRounds, GivesWhatItTook}
use Rattle.cqs_plan_reader.specs.Retries.{RetriesWithin}
use Rattle.cqs_plan_reader.proofs.ValidNumbers.{no_faults, unless-passed, required-there, shaped-right, number-valid, each-faultless}
use Rattle.cqs_plan_reader.proofs.ValidSteps.{step-valid}
use Rattle.cqs_plan_reader.proofs.ValidPatience.{IsPatience, patience-valid}

-- a value, where no other is at hand
abbrev pub nothing : Data
nothing = boolean false

-- each element gives something
abbrev AllSome : {X Y : Type 0} → (X → Option Y) → List X → Type 0
AllSome {X} {Y} f xs = (i : ℕ) (d : X) → i < length xs → (y : Y) × (f (get_or xs i d) ≡ Some y)

rest_some : {X Y : Type 0} (f : X → Option Y) (x : X) (xs : List X) → AllSome f (x ∷ xs) → AllSome f xs
rest_some f x xs all = λ i d below. all (suc i) d (omega arith)

length-all_some : {X Y : Type 0} (f : X → Option Y) (xs : List X) → AllSome f xs
    → length (filter_map f xs) ≡ length xs
length-all_some f [] all = refl
length-all_some f (x ∷ xs) all =
    let (y, is) = all 0 x (omega arith) in rw is (ap suc (length-all_some f xs (rest_some f x xs all)))

take-all_some : {X Y : Type 0} (f : X → Option Y) (i : ℕ) (xs : List X) → AllSome f xs
    → take i (filter_map f xs) ≡ filter_map f (take i xs)
take-all_some f zero [] all = refl
take-all_some f (suc i) [] all = refl
take-all_some f zero (x ∷ xs) all = refl
take-all_some f (suc i) (x ∷ xs) all =
    let (y, is) =
    all 0 x (omega arith) in rw is (ap (λ ys. y ∷ ys) (take-all_some f i xs (rest_some f x xs all)))

get-all_some : {X Y : Type 0} (f : X → Option Y) (xs : List X) (i : ℕ) (d : X) → AllSome f xs
    → i < length xs
    → slice_get (filter_map f xs) i ≡ f (get_or xs i d)
get-all_some f [] i d all below = absurd (omega arith)
get-all_some f (x ∷ xs) zero d all below = let (y, is) = all 0 x (omega arith) in rw is
get-all_some f (x ∷ xs) (suc i) d all below =
    let (y, is) =
    all 0 x (omega arith) in rw is (get-all_some f xs i d (rest_some f x xs all) (omega arith))

slice_get-within : {X : Type 0} (xs : List X) (i : ℕ) (x : X) → slice_get xs i ≡ Some x → i < length xs
slice_get-within [] i x is = cc
slice_get-within (y ∷ xs) zero x is = omega arith
slice_get-within (y ∷ xs) (suc i) x is = let below = slice_get-within xs i x is in omega arith

-- what a step without a fault says
record ReadsAs (resources : List Resource) (earlier : List Step) (value : Data) (step : Step) : Type 0 where
  says : step_in resources value ≡ Some step
  valid : IsStep resources step
  held : is_held earlier step ≡ true
  round : has_round resources earlier step ≡ true

read_case : (place : List ℕ) (resources : List Resource) (earlier : List Step) (read : Result Step FaultKind)
    → read_step_faults place resources earlier read ≡ []
    → (step : Step) × (read ≡ Ok step) × (is_held earlier step ≡ true) × (has_round resources earlier step ≡ true)
read_case place resources earlier (Ok step) none =
    let parts =
    no_faults (unless (is_held earlier step) place fault.Unheld)
    (unless (has_round resources earlier step) place fault.Many) none in
    (step, refl, unless-passed _ place _ parts.0, unless-passed _ place _ parts.1)
read_case place resources earlier (Err kind) none = cc

step_in-read : (resources : List Resource) (value : Data) (text : List ℕ) (step : Step)
    → as_str value ≡ Some text
    → step_of resources text ≡ Ok step → step_in resources value ≡ Some step
step_in-read resources value text step is read = rw (is, read)

reads : (place : List ℕ) (resources : List Resource) (earlier : List Step) (value : Data)
    → step_faults place resources earlier value ≡ [] → (step : Step) × ReadsAs resources earlier value step
reads place resources earlier value none =
    let (text, is, faultless) = shaped-right place (as_str value) _ none in
    let (step, read, held, round) = read_case place resources earlier (step_of resources text) faultless in (
      step,
      record {
        says = step_in-read resources value text step is read;
        valid = step-valid resources text step read;
        held = held;
        round = round;
      },
    )

-- what the steps of a job without a fault are
record AreReadAs (resources : List Resource) (values : List Data) : Type 0 where
  few : length values ≤ 64
  each : (j : ℕ) (d : Data) → j < length values
      → (step : Step) × ReadsAs resources (steps_in resources (take j values)) (get_or values j d) step

all_read : (place : List ℕ) (resources : List Resource) (values : List Data)
    → steps_faults place resources values ≡ []
    → AreReadAs resources values
all_read place resources values none =
    let parts = no_faults (unless (nat_le (length values) 64) place fault.Many) _ none in record {
      few = leb-true (length values) 64 (unless-passed _ place _ parts.0);
      each = λ j d below.
          reads (at_index place j) resources (steps_in resources (take j values)) (get_or values j d)
          (each-faultless (job_step_faults place resources values) 0 j values j d parts.1
          (omega arith) below);
    }

all_some : (resources : List Resource) (values : List Data) → AreReadAs resources values
    → AllSome (step_in resources) values
all_some resources values read = λ j d below. let (step, shows) = read.each j d below in (step, shows.says)

steps-valid : (resources : List Resource) (values : List Data) → AreReadAs resources values
    → All (IsStep resources) (steps_in resources values)
steps-valid resources values read = λ k d below.
    let some = all_some resources values read in
    let inside : k < length values = rw (← length-all_some (step_in resources) values some) below in
    let (step, shows) = read.each k nothing inside in
    let there : slice_get (steps_in resources values) k ≡ Some step =
    get-all_some (step_in resources) values k nothing some inside ∙ shows.says in
    rw (get_or_from_slice_get (steps_in resources values) k step d there) shows.valid

gives-valid : (resources : List Resource) (values : List Data) → AreReadAs resources values
    → GivesWhatItTook (steps_in resources values)
gives-valid resources values read = λ k place gives.
    let some = all_some resources values read in
    let below = slice_get-within (steps_in resources values) k (Give place) gives in
    let inside : k < length values = rw (← length-all_some (step_in resources) values some) below in
    let (step, shows) = read.each k nothing inside in
    let there : slice_get (steps_in resources values) k ≡ Some step =
    get-all_some (step_in resources) values k nothing some inside ∙ shows.says in
    let same : step ≡ Give place = cc in
    let held : is_held (steps_in resources (take k values)) (Give place) ≡ true =
    ap (is_held (steps_in resources (take k values))) (sym same) ∙ shows.held in
    rw (take-all_some (step_in resources) k values some) (ltb-true _ _ held)

arrives-valid : (resources : List Resource) (values : List Data) → AreReadAs resources values
    → ArrivesInRounds resources (steps_in resources values)
arrives-valid resources values read = λ k place arrives.
    let some = all_some resources values read in
    let below = slice_get-within (steps_in resources values) k (Arrive place) arrives in
    let inside : k < length values = rw (← length-all_some (step_in resources) values some) below in
    let (step, shows) = read.each k nothing inside in
    let there : slice_get (steps_in resources values) k ≡ Some step =
    get-all_some (step_in resources) values k nothing some inside ∙ shows.says in
    let same : step ≡ Arrive place = cc in
    let round : has_round resources (steps_in resources (take k values)) (Arrive place) ≡ true =
    ap (has_round resources (steps_in resources (take k values))) (sym same) ∙ shows.round in
    rw (take-all_some (step_in resources) k values some) (ltb-true _ _ round)

-- what a job has at a key of its table
pub get-table : (key : List ℕ) (job : Data) (found : Members) → as_table job ≡ Some found
    → get key job ≡ get_member key found
get-table key (table ms) found is = let same : ms ≡ found = cc in rw same
get-table key _ found is = cc

deadline-valid : (place : List ℕ) (value : Option Data) → optional value (number_faults place 0 40000) ≡ []
    → IfSome (given_number value) (λ turn. turn ≤ 40000)
deadline-valid place None none = tt
deadline-valid place (Some d) none = (number-valid place 0 40000 d none).1

-- the name of a job without a fault
record IsNewName (stands : List ℕ → Bool) (name : List ℕ) : Type 0 where
  named : is_name name ≡ true
  fresh : stands name ≡ false

text_in-there : (value : Option Data) (d : Data) (text : List ℕ) → value ≡ Some d → as_str d ≡ Some text
    → text_in value ≡ text
text_in-there value d text is says = rw (is, says)

pub items_in-there : (value : Option Data) (d : Data) (items : Items) → value ≡ Some d
    → as_array d ≡ Some items → items_in value ≡ items_list items
items_in-there value d items is says = rw (is, says)

name-valid : (place : List ℕ) (stands : List ℕ → Bool) (value : Option Data)
    → require place value (name_faults place stands) ≡ []
    → IsNewName stands (text_in value)
name-valid place stands value none =
    let (d, is, faultless) = required-there place value (name_faults place stands) none in
    let (text, says, passed) = shaped-right place (as_str d) _ faultless in
    let tests = and_parts (is_name text) (not (stands text)) (unless-passed _ place _ passed) in
    rw (text_in-there value d text is says)
    (record { named = tests.0; fresh = not-true (stands text) tests.1 })

steps_part-valid : (i : ℕ) (resources : List Resource) (value : Option Data)
    → steps_part_faults i resources value ≡ []
    → AreReadAs resources (items_in value)
steps_part-valid i resources value none =
    let place = part_place i (codes "steps") in
    let (d, is, faultless) = required-there place value _ none in
    let (items, says, read) = shaped-right place (as_array d) _ faultless in
    rw (items_in-there value d items is says) (all_read place resources (items_list items) read)

-- the job that a table says
abbrev table_job : List Resource → Members → Job
table_job resources job = record {
  name = text_in (get_member (codes "name") job);
  steps = steps_in resources (items_in (get_member (codes "steps") job));
  deadline = given_number (get_member (codes "deadline") job);
  within = given_number (get_member (codes "within") job);
  retry = number_in (get_member (codes "retry") job);
}

job_name-table : (value : Data) (job : Members) → as_table value ≡ Some job
    → job_name value ≡ text_in (get_member (codes "name") job)
job_name-table value job is = rw (get-table (codes "name") value job is)

job_in-table : (resources : List Resource) (value : Data) (job : Members) → as_table value ≡ Some job
    → job_in resources value ≡ table_job resources job
job_in-table resources value job is =
    let name = get-table (codes "name") value job is in
    let steps = get-table (codes "steps") value job is in
    let deadline = get-table (codes "deadline") value job is in
    let within = get-table (codes "within") value job is in
    let retry = get-table (codes "retry") value job is in
    rw (name, steps, deadline, within, retry)

table_job-valid : (version : ℕ) (resources : List Resource) (job : Members)
    → is_name (text_in (get_member (codes "name") job)) ≡ true
    → AreReadAs resources (items_in (get_member (codes "steps") job))
    → IfSome (given_number (get_member (codes "deadline") job)) (λ turn. turn ≤ 40000)
    → IsPatience version (table_job resources job).within (table_job resources job).retry
    → IsJob resources (table_job resources job)
table_job-valid version resources job named steps deadline patience =
    let values = items_in (get_member (codes "steps") job) in
    let as_many = length-all_some (step_in resources) values (all_some resources values steps) in record {
      named = named;
      deadline = deadline;
      within = patience.turns;
      retry = patience.few;
      few = rw as_many steps.few;
      steps = steps-valid resources values steps;
      gives = gives-valid resources values steps;
      arrives = arrives-valid resources values steps;
    }

-- a job without a fault is a job, its name is new, and its waits are those of its version
pub record IsReadJob (version : ℕ) (resources : List Resource) (stands : List ℕ → Bool) (value : Data)
    : Type 0 where
  pub valid : IsJob resources (job_in resources value)
  pub fresh : stands (job_name value) ≡ false
  pub bounded : RetriesWithin (job_in resources value)
  pub patient : version ≡ 1 → IsPatient (job_in resources value)

first-patient : (version : ℕ) (job : Job) → IsPatience version job.within job.retry → version ≡ 1 → IsPatient job
first-patient version job patience one =
    let (within, retry) = patience.first one in record { within = within; retry = retry }

pub job-valid : (version : ℕ) (resources : List Resource) (stands : List ℕ → Bool) (i : ℕ) (value : Data)
    → job_faults version resources stands i value ≡ []
    → IsReadJob version resources stands value
job-valid version resources stands i value none =
    let (job, is, faultless) = shaped-right (job_place i) (as_table value) _ none in
    let front = no_faults _ (steps_part_faults i resources (get_member (codes "steps") job)) faultless in
    let before = no_faults _ (patience_faults version i job) front.0 in
    let late = part_place i (codes "deadline") in
    let turn = get_member (codes "deadline") job in
    let middle = no_faults _ (optional turn (number_faults late 0 40000)) before.0 in
    let start = no_faults (unless (has_only (job_keys version) job) (job_place i) fault.Key) _ middle.0 in
    let only = unless-passed (has_only (job_keys version) job) (job_place i) fault.Key start.0 in
    let name = name-valid (part_place i (codes "name")) stands (get_member (codes "name") job) start.1 in
    let steps = steps_part-valid i resources (get_member (codes "steps") job) front.1 in
    let deadline = deadline-valid late turn middle.1 in
    let patience = patience-valid version i job only before.1 in
    let says = job_in-table resources value job is in record {
      valid = rw says (table_job-valid version resources job name.named steps deadline patience);
      fresh = ap stands (job_name-table value job is) ∙ name.fresh;
      bounded = subst RetriesWithin (sym says) patience.bounded;
      patient = rw says (first-patient version (table_job resources job) patience);
    }
