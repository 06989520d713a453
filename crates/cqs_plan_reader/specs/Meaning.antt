-- Which plan a document without a fault is.
use Rattle.std.specs.Prelude.{ℕ, ◌+◌, ◌-◌, ◌*◌, ℤ, pos, negsuc, Bool, ◌&&◌, not, ◌==◌, nat_le, nat_eq, if◌then◌else◌, List, [], ◌∷◌, map, Option, Some, unwrap_or, option_map, option_and_then, Result, Ok, Err, codes, fold, find, count_by}
use Rattle.std.specs.List.{list_all, starts_with, flat_map, filter_map, position_from, before_first, after_first}
use Rattle.std.specs.Option.{option_map_or}
use Rattle.std.specs.Result.{result_ok}
use Rattle.std.specs.Char.{is_ascii_digit}
use Rattle.std.specs.Str.{bytes_eq}
use Rattle.toml.specs.Data.{Data, Items, no_items, item, Members, no_members, member, get, get_member, as_integer, as_str, as_array, as_table}
use Rattle.cqs_plan.specs.declared.plans.resource.Resource.{Resource}
use Rattle.cqs_plan.specs.declared.plans.job.Job.{Job}
use Rattle.cqs_plan.specs.declared.plans.plan.Plan.{Plan}
use Rattle.cqs_plan.specs.declared.plans.fault_kind.FaultKind.{FaultKind}
use Rattle.cqs_plan.specs.declared.plans.fault_kind.FaultKind.TheVariants as fault
use Rattle.cqs_plan.specs.declared.plans.step.Step.{Step}
use Rattle.cqs_plan.specs.declared.plans.step.Step.TheVariants.{Work}
use Rattle.cqs_plan.specs.Language.{ResourceKind, resource_kinds, Verb, verbs}

-- the items of an array, and the members of a table with their keys, in order
abbrev pub items_list : Items → List Data
items_list no_items = []
items_list (item value items) = value ∷ items_list items

abbrev pub members_list : Members → List (List ℕ × Data)
members_list no_members = []
members_list (member key value members) = (key, value) ∷ members_list members

-- an integer as a count; below zero it is none
abbrev pub count_in : ℤ → ℕ
count_in (pos n) = n
count_in (negsuc n) = 0

-- what a value says that may be absent or of another type
abbrev pub number_in : Option Data → ℕ
number_in value = option_map_or count_in (option_and_then as_integer value) 0

-- the number that a value says, where there is a value
abbrev pub given_number : Option Data → Option ℕ
given_number value = option_map (λ given. number_in (Some given)) value

-- what a value says that may be absent or of another type
abbrev pub text_in : Option Data → List ℕ
text_in value = unwrap_or (option_and_then as_str value) []

abbrev pub items_in : Option Data → List Data
items_in value = option_map_or items_list (option_and_then as_array value) []

abbrev pub members_in : Option Data → List (List ℕ × Data)
members_in value = option_map_or members_list (option_and_then as_table value) []

-- the resource of a kind that a name and its table say
abbrev pub resource_in : ResourceKind → List ℕ × Data → Resource
resource_in kind (name, value) = record {
  name = name;
  kind = kind.kind (map (λ number. number_in (get number.key value)) kind.numbers);
}

-- the resources: kind by kind, and within a kind as their table has them,
-- in byte order of the names
abbrev pub resources_in : List ResourceKind → Members → List Resource
resources_in kinds root =
    flat_map (λ kind. map (resource_in kind) (members_in (get_member kind.key root))) kinds

abbrev pub is_space : ℕ → Bool
is_space byte = byte == 32

-- exactly one space
abbrev pub has_one_space : List ℕ → Bool
has_one_space text = count_by is_space text == 1

-- digits without a leading 0
abbrev pub is_decimal : List ℕ → Bool
is_decimal text = list_all is_ascii_digit text && not (starts_with nat_eq text (codes "0"))

-- the number that digits write
abbrev pub decimal_value : List ℕ → ℕ
decimal_value digits = fold (λ value digit. value * 10 + (digit - 48)) 0 digits

-- `work n`: n turns, from 1 to 1,000
abbrev pub work_step : List ℕ → Result Step FaultKind
work_step text =
    if is_decimal text && (nat_le 1 (decimal_value text) && nat_le (decimal_value text) 1000)
    then Ok (Work (decimal_value text))
    else Err fault.Step

-- the step at the resource of this name, if the verb works on it
abbrev pub step_at : Verb → List Resource → List ℕ → Result Step FaultKind
step_at verb resources name =
    option_map_or (λ place. Ok (verb.step place))
    (position_from (λ resource. bytes_eq resource.name name && verb.works_on resource.kind) 0
    resources)
    (Err fault.Target)

-- a verb and its argument
abbrev pub verb_step : List Resource → List ℕ → List ℕ → Result Step FaultKind
verb_step resources word argument =
    if bytes_eq word (codes "work") then work_step argument
    else option_map_or (λ verb. step_at verb resources argument)
    (find (λ verb. bytes_eq word verb.word) verbs)
    (Err fault.Step)

-- the step that a text says: a verb, one space and an argument
abbrev pub step_of : List Resource → List ℕ → Result Step FaultKind
step_of resources text =
    if has_one_space text then verb_step resources (before_first is_space text)
    (after_first is_space text)
    else Err fault.Step

abbrev pub step_in : List Resource → Data → Option Step
step_in resources value =
    option_and_then (λ text. result_ok (step_of resources text)) (as_str value)

-- the steps that these values say, in order
abbrev pub steps_in : List Resource → List Data → List Step
steps_in resources values = filter_map (step_in resources) values

abbrev pub job_name : Data → List ℕ
job_name job = text_in (get (codes "name") job)

abbrev pub job_in : List Resource → Data → Job
job_in resources job = record {
  name = job_name job;
  steps = steps_in resources (items_in (get (codes "steps") job));
  deadline = given_number (get (codes "deadline") job);
  within = given_number (get (codes "within") job);
  retry = number_in (get (codes "retry") job);
}

-- the version that a root names
abbrev pub version_in : Members → ℕ
version_in root = number_in (get_member (codes "version") root)

abbrev pub plan_in : Members → Plan
plan_in root = record {
  version = version_in root;
  turns = number_in (get_member (codes "turns") root);
  resources = resources_in resource_kinds root;
  jobs = map (job_in (resources_in resource_kinds root)) (items_in (get_member (codes "job") root));
}
