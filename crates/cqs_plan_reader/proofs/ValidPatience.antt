-- What a job without a fault says of its waits.
use Rattle.std.proofs.Common.{◌≡◌, ℕ, ◌≤◌, true, false, List, [], Option, Some, None, inl, inr, refl, arith}
use Rattle.std.specs.Prelude.{codes, IfSome, IsSome, is_some, if◌then◌else◌}
use Rattle.std.specs.Int.{IsInRange}
use Rattle.std.proofs.lemmas.Bool.{cases_Bool}
use Rattle.toml.specs.Data.{Data, get_member, Members}
use Rattle.cqs_plan_reader.specs.FaultRules.{Fault, has_only, optional, require}
use Rattle.cqs_plan_reader.specs.Faults.{has_patience, job_keys, number_faults, patience_faults, retry_faults, within_faults}
use Rattle.cqs_plan_reader.specs.Meaning.{given_number, number_in}
use Rattle.cqs_plan_reader.specs.Places.{part_place}
use Rattle.cqs_plan_reader.proofs.Absent.{absent}
use Rattle.cqs_plan_reader.proofs.ValidNumbers.{no_faults, number-valid}

-- what such a job may say of how long its waits last, and how often it begins one again
pub record IsPatience (version : ℕ) (within : Option ℕ) (retry : ℕ) : Type 0 where
  pub turns : IfSome within (λ turns. IsInRange 1 40000 turns)
  pub few : retry ≤ 64
  pub bounded : 1 ≤ retry → IsSome within
  pub first : version ≡ 1 → (within ≡ None) × (retry ≡ 0)

-- the faults of what stands at `within`, by what stands at `retry`
abbrev faults_by : List ℕ → Option Data → Option Data → List Fault
faults_by place retry within =
    if is_some retry then require place within (number_faults place 1 40000)
    else optional within (number_faults place 1 40000)

within-valid : (place : List ℕ) (retry within : Option Data) → faults_by place retry within ≡ []
    → IfSome (given_number within) (λ turns. IsInRange 1 40000 turns)
within-valid place retry None none = tt
within-valid place None (Some d) none = number-valid place 1 40000 d none
within-valid place (Some r) (Some d) none = number-valid place 1 40000 d none

bounded-valid : (place : List ℕ) (retry within : Option Data) → faults_by place retry within ≡ []
    → 1 ≤ number_in retry → IsSome (given_number within)
bounded-valid place None within none some = absurd (omega arith)
bounded-valid place (Some r) None none some = cc
bounded-valid place (Some r) (Some d) none some = refl

retry-valid : (place : List ℕ) (value : Option Data) → optional value (number_faults place 1 64) ≡ []
    → number_in value ≤ 64
retry-valid place None none = omega arith
retry-valid place (Some d) none = (number-valid place 1 64 d none).1

-- in a version without them neither is there
pub neither : (version : ℕ) (job : Members) → has_patience version ≡ false
    → has_only (job_keys version) job ≡ true
    → (get_member (codes "within") job ≡ None) × (get_member (codes "retry") job ≡ None)
neither version job old only =
    let first : has_only (job_keys 1) job ≡ true = rw old at only in
    (absent (job_keys 1) (codes "within") job refl first, absent (job_keys 1) (codes "retry") job refl first)

abbrev HasPatience : ℕ → Members → Type 0
HasPatience version job =
    IsPatience version (given_number (get_member (codes "within") job)) (number_in (get_member (codes "retry") job))

no-patience : (version : ℕ) → IsPatience version None 0
no-patience version = record {
  turns = tt;
  few = omega arith;
  bounded = λ some. absurd (omega arith);
  first = λ one. (refl, refl);
}

some-patience : (version i : ℕ) (job : Members) → has_patience version ≡ true → within_faults i job ≡ []
    → retry_faults i job ≡ [] → HasPatience version job
some-patience version i job new no_within no_retry =
    let within = get_member (codes "within") job in
    let retry = get_member (codes "retry") job in
    let place = part_place i (codes "within") in record {
      turns = within-valid place retry within no_within;
      few = retry-valid (part_place i (codes "retry")) retry no_retry;
      bounded = bounded-valid place retry within no_within;
      first = λ one. absurd cc;
    }

pub patience-valid : (version i : ℕ) (job : Members) → has_only (job_keys version) job ≡ true
    → patience_faults version i job ≡ [] → HasPatience version job
patience-valid version i job only none = elim (cases_Bool (has_patience version)) [
  | inl new ↦
      let both = no_faults (within_faults i job) (retry_faults i job) (rw new at none) in
      some-patience version i job new both.0 both.1
  | inr old ↦ let (within, retry) = neither version job old only in rw (within, retry) (no-patience version)
]
