-- How the resources stand between two turns, and so in the lines at the end of a report.
use Rattle.std.specs.Prelude.{◌≡◌, ◌⊎◌, ℕ, ◌+◌, ◌<◌, ◌≤◌, Some, length, slice_get}
use Rattle.cqs_plan.specs.declared.floors.answers.FloorEnd.{FloorEnd}
use Rattle.cqs_plan.specs.declared.floors.answers.FloorEnd.TheVariants as end
use Rattle.cqs_plan.specs.declared.plans.kind.Kind.{Kind}
use Rattle.cqs_plan.specs.declared.plans.kind.Kind.TheVariants as kind
use Rattle.cqs_plan.specs.declared.plans.plan.Plan.{Plan}
use Rattle.cqs_plan.specs.declared.plans.resource.Resource.{Resource}
use Rattle.cqs_plan.specs.Floor.{stands_in, to_come_at}
use Rattle.cqs_plan.specs.FloorCalls.{end_answer}
use Rattle.cqs_plan.specs.Runnable.{IsRunnable}
use Rattle.cqs_turns_report.specs.Turns.{machine_after}

-- free and held permits or elements are all that there are, and nobody waits in line while one
-- is free
abbrev pub HoldsAll : ℕ → ℕ → ℕ → ℕ → Type 0
HoldsAll size free held line = (free + held ≡ size) × ((free ≡ 0) ⊎ (line ≡ 0))

-- A latch counts no more than the plan says, and nobody waits in line once it is open. The rounds
-- of a barrier that are over are some of those that the plan gives it.
abbrev pub Balances : Kind → FloorEnd → Type 0
Balances (kind.Semaphore permits) (end.Permits free held line) = HoldsAll permits free held line
Balances kind.Mutex (end.Permits free held line) = HoldsAll 1 free held line
Balances (kind.Pool elements) (end.Permits free held line) = HoldsAll elements free held line
Balances (kind.Latch count) (end.Latch left line) = (left ≤ count) × ((0 < left) ⊎ (line ≡ 0))
Balances (kind.Rounds parties rounds) (end.Rounds over) = over ≤ rounds
Balances (kind.Semaphore permits) (end.Latch left line) = ⊥
Balances (kind.Semaphore permits) (end.Rounds over) = ⊥
Balances kind.Mutex (end.Latch left line) = ⊥
Balances kind.Mutex (end.Rounds over) = ⊥
Balances (kind.Pool elements) (end.Latch left line) = ⊥
Balances (kind.Pool elements) (end.Rounds over) = ⊥
Balances (kind.Latch count) (end.Permits free held line) = ⊥
Balances (kind.Latch count) (end.Rounds over) = ⊥
Balances (kind.Rounds parties rounds) (end.Permits free held line) = ⊥
Balances (kind.Rounds parties rounds) (end.Latch left line) = ⊥

-- each resource of a plan, by what the plan says that it is
abbrev pub EveryResourceBalances : Type 0
EveryResourceBalances =
    (plan : Plan) (turns at : ℕ) (resource : Resource) → IsRunnable plan
    → slice_get plan.resources at ≡ Some resource
    → Balances resource.kind (end_answer (machine_after plan turns).scene.floor at)

-- Of a round with so many still to come and so many who wait: until the last has come these are all
-- the parties, and from then on nobody waits.
pub record IsEvenRound (parties to_come line : ℕ) : Type 0 where
  pub before : 0 < to_come → to_come + line ≡ parties
  pub after : to_come ≡ 0 → line ≡ 0

-- each round of each barrier of a plan
abbrev pub EveryRoundBalances : Type 0
EveryRoundBalances =
    (plan : Plan) (turns at round parties rounds : ℕ) (resource : Resource) → IsRunnable plan
    → slice_get plan.resources at ≡ Some resource → resource.kind ≡ kind.Rounds parties rounds
    → IsEvenRound parties (to_come_at (machine_after plan turns).scene.floor at round)
    (length (stands_in (machine_after plan turns).scene.floor at round).line)
