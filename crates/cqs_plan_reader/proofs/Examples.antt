-- The first faults of some documents, computed.
use Rattle.std.proofs.Common.{◌≡◌, ℕ, List, ◌++◌, Option, Some, None, codes, refl}
use Rattle.std.specs.Prelude.{slice_get, option_and_then}
use Rattle.toml.specs.Parse.{parse_document}
use Rattle.toml.proofs.OnLiterals.{toml_on_literals}
use Rattle.cqs_plan.specs.declared.plans.fault_kind.FaultKind.{FaultKind}
use Rattle.cqs_plan.specs.declared.plans.fault_kind.FaultKind.TheVariants as fault
use Rattle.cqs_plan_reader.specs.FaultRules.{Fault}
use Rattle.cqs_plan_reader.specs.Faults.{faults_in}
use Rattle.cqs_plan_reader.specs.Places.{at_index, job_place, part_place}

-- the first fault of a text, if it is a document
abbrev first_fault : List ℕ → Option Fault
first_fault text = option_and_then (λ root. slice_get (faults_in root) 0) (parse_document text)

abbrev HasFirst : List ℕ → List ℕ → FaultKind → Type 0
HasFirst text place kind = first_fault text ≡ Some (record { place = place; kind = kind })

abbrev step_place : ℕ → ℕ → List ℕ
step_place i j = at_index (part_place i (codes "steps")) j

-- a plan with nothing, one with a semaphore, and one with a job besides, which has these steps
abbrev empty : List ℕ
empty = codes "version = 1\nturns = 8\n"

abbrev db : List ℕ
db = empty ++ codes "[semaphore.db]\nsize = 1\n"

abbrev with_job : List ℕ → List ℕ
with_job steps = db ++ codes "[[job]]\nname = \"a\"\nsteps = [" ++ steps ++ codes "]\n"

empty_text : HasFirst (codes "") (codes "version") fault.Missing
unfolding toml_on_literals
empty_text = refl

no_turns : HasFirst (codes "version = 1\n") (codes "turns") fault.Missing
unfolding toml_on_literals
no_turns = refl

no_jobs : first_fault empty ≡ None
unfolding toml_on_literals
no_jobs = refl

no_size : HasFirst (empty ++ codes "[semaphore.db]\n") (codes "semaphore.db.size") fault.Missing
unfolding toml_on_literals
no_size = refl

size_zero :
    HasFirst (empty ++ codes "[semaphore.db]\nsize = 0\n") (codes "semaphore.db.size") fault.Range
unfolding toml_on_literals
size_zero = refl

a_mutex : first_fault (db ++ codes "[mutex.m]\n") ≡ None
unfolding toml_on_literals
a_mutex = refl

sized_mutex : HasFirst (db ++ codes "[mutex.m]\nsize = 1\n") (codes "mutex.m") fault.Key
unfolding toml_on_literals
sized_mutex = refl

mutex_of_a_name_that_stands : HasFirst (db ++ codes "[mutex.db]\n") (codes "mutex.db") fault.Name
unfolding toml_on_literals
mutex_of_a_name_that_stands = refl

a_pool : first_fault (db ++ codes "[pool.buf]\nsize = 4096\n") ≡ None
unfolding toml_on_literals
a_pool = refl

pool_of_4097 : HasFirst (db ++ codes "[pool.buf]\nsize = 4097\n") (codes "pool.buf.size") fault.Range
unfolding toml_on_literals
pool_of_4097 = refl

a_queue : HasFirst (db ++ codes "[queue.q]\n") (codes "plan") fault.Key
unfolding toml_on_literals
a_queue = refl

no_name : HasFirst (db ++ codes "[[job]]\n") (part_place 0 (codes "name")) fault.Missing
unfolding toml_on_literals
no_name = refl

no_steps : HasFirst (db ++ codes "[[job]]\nname = \"a\"\n") (part_place 0 (codes "steps")) fault.Missing
unfolding toml_on_literals
no_steps = refl

whole_plan : first_fault (with_job (codes "\"take db\", \"work 2\", \"give db\"")) ≡ None
unfolding toml_on_literals
whole_plan = refl

given_first : HasFirst (with_job (codes "\"give db\", \"take db\"")) (step_place 0 0) fault.Unheld
unfolding toml_on_literals
given_first = refl

two_spaces : HasFirst (with_job (codes "\"take db\", \"take  db\"")) (step_place 0 1) fault.Step
unfolding toml_on_literals
two_spaces = refl

unknown_target : HasFirst (with_job (codes "\"take \"")) (step_place 0 0) fault.Target
unfolding toml_on_literals
unknown_target = refl

-- a latch, and a barrier of two parties and one round
abbrev both : List ℕ
both = db ++ codes "[latch.l]\ncount = 1\n[barrier.b]\nparties = 2\nrounds = 1\n"

abbrev who_makes : List ℕ → List ℕ → List ℕ
who_makes name steps =
    codes "[[job]]\nname = \"" ++ name ++ codes "\"\nsteps = [" ++ steps ++ codes "]\n"

a_latch_and_a_barrier : first_fault (both
    ++ who_makes (codes "a") (codes "\"wait l\", \"arrive b\"")
    ++ who_makes (codes "c") (codes "\"arrive b\", \"down l\"")) ≡ None
unfolding toml_on_literals
a_latch_and_a_barrier = refl

no_rounds : HasFirst (db ++ codes "[barrier.b]\nparties = 2\n") (codes "barrier.b.rounds") fault.Missing
unfolding toml_on_literals
no_rounds = refl

down_at_a_barrier : HasFirst (both ++ who_makes (codes "a") (codes "\"down b\"")) (step_place 0 0) fault.Target
unfolding toml_on_literals
down_at_a_barrier = refl

one_arrival_too_many :
    HasFirst (both ++ who_makes (codes "a") (codes "\"arrive b\", \"arrive b\"")) (step_place 0 1) fault.Many
unfolding toml_on_literals
one_arrival_too_many = refl

one_party_too_many : HasFirst (both ++ who_makes (codes "a") (codes "\"arrive b\"")
    ++ who_makes (codes "c") (codes "\"arrive b\"") ++ who_makes (codes "d") (codes "\"arrive b\""))
    (codes "barrier.b") fault.Many
unfolding toml_on_literals
one_party_too_many = refl

-- a plan of a version, with a job that has these keys besides
abbrev with_keys : List ℕ → List ℕ → List ℕ
with_keys version keys =
    codes "version = " ++ version ++ codes "\nturns = 8\n[[job]]\nname = \"a\"\nsteps = []\n" ++ keys

both_keys : first_fault (with_keys (codes "2") (codes "within = 2\nretry = 1\n")) ≡ None
unfolding toml_on_literals
both_keys = refl

retry_alone : HasFirst (with_keys (codes "2") (codes "retry = 1\n")) (part_place 0 (codes "within")) fault.Missing
unfolding toml_on_literals
retry_alone = refl

retry_of_65 :
    HasFirst (with_keys (codes "2") (codes "within = 2\nretry = 65\n")) (part_place 0 (codes "retry")) fault.Range
unfolding toml_on_literals
retry_of_65 = refl

within_in_version_1 : HasFirst (with_keys (codes "1") (codes "within = 2\n")) (job_place 0) fault.Key
unfolding toml_on_literals
within_in_version_1 = refl

version_3 : HasFirst (with_keys (codes "3") (codes "within = 2\n")) (codes "version") fault.Range
unfolding toml_on_literals
version_3 = refl
