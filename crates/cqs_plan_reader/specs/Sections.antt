-- The sections of a plan: what each says, and what is known once some of them were read.
use Rattle.std.specs.Prelude.{◌≡◌, ℕ, ◌<◌, ◌≤◌, List, [], ◌∷◌, ◌++◌, map, length, All}
use Rattle.toml.specs.Data.{Members}
use Rattle.cqs_plan.specs.declared.plans.resource.Resource.{Resource}
use Rattle.cqs_plan_reader.specs.declared.reader.sections.Section.{Section}
use Rattle.cqs_plan_reader.specs.declared.reader.sections.Section.TheVariants.{Semaphore, Mutex, Pool, Latch, Barrier}
use Rattle.cqs_plan_reader.specs.Faults.{kinds_faults}
use Rattle.cqs_plan.specs.Language.{ResourceKind, semaphores, mutexes, pools, latches, barriers}
use Rattle.cqs_plan_reader.specs.Meaning.{resources_in}
use Rattle.cqs_plan.specs.Order.{AreInOrder, rank}
use Rattle.cqs_plan.specs.Validity.{IsResource}

-- the kind whose resources a section names
abbrev pub kind_of : Section → ResourceKind
kind_of Semaphore = semaphores
kind_of Mutex = mutexes
kind_of Pool = pools
kind_of Latch = latches
kind_of Barrier = barriers

-- the kinds whose sections come before it
abbrev pub kinds_before : Section → List ResourceKind
kinds_before Semaphore = []
kinds_before Mutex = semaphores ∷ []
kinds_before Pool = semaphores ∷ mutexes ∷ []
kinds_before Latch = semaphores ∷ mutexes ∷ pools ∷ []
kinds_before Barrier = semaphores ∷ mutexes ∷ pools ∷ latches ∷ []

-- and with its own
abbrev pub kinds_up_to : Section → List ResourceKind
kinds_up_to section = kinds_before section ++ kind_of section ∷ []

-- the names of resources
abbrev pub names_of : List Resource → List (List ℕ)
names_of resources = map (λ resource. resource.name) resources

-- at most 64, each valid, in the order of a plan
pub record AreFound (resources : List Resource) : Type 0 where
  pub few : length resources ≤ 64
  pub valid : All IsResource resources
  pub order : AreInOrder resources

-- The sections of these kinds have no fault, and say these resources.
pub record AreRead (kinds : List ResourceKind) (root : Members) (resources : List Resource)
    : Type 0 where
  pub faultless : kinds_faults kinds root ≡ []
  pub says : resources ≡ resources_in kinds root
  pub found : AreFound resources
  pub below : All (λ resource. rank resource.kind < length kinds) resources
