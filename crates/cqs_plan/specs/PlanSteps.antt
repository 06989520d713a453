-- The steps of a plan's jobs on one resource.
use Rattle.std.specs.Prelude.{ℕ, ◌==◌, Bool, false}
use Rattle.cqs_plan.specs.declared.plans.step.Step.{Step}
use Rattle.cqs_plan.specs.declared.plans.step.Step.TheVariants.{Take, Give, Down, Await, Arrive, Work}

-- takes of this resource
abbrev pub is_take : ℕ → Step → Bool
is_take at (Take place) = place == at
is_take at (Give place) = false
is_take at (Down place) = false
is_take at (Await place) = false
is_take at (Arrive place) = false
is_take at (Work turns) = false

-- gives of this resource
abbrev pub is_give : ℕ → Step → Bool
is_give at (Give place) = place == at
is_give at (Take place) = false
is_give at (Down place) = false
is_give at (Await place) = false
is_give at (Arrive place) = false
is_give at (Work turns) = false

-- arrives at this resource
abbrev pub is_arrival : ℕ → Step → Bool
is_arrival at (Arrive place) = place == at
is_arrival at (Take place) = false
is_arrival at (Give place) = false
is_arrival at (Down place) = false
is_arrival at (Await place) = false
is_arrival at (Work turns) = false

-- may have to wait at this resource: takes, waits or arrives there
abbrev pub may_wait : ℕ → Step → Bool
may_wait at (Take place) = place == at
may_wait at (Give place) = false
may_wait at (Down place) = false
may_wait at (Await place) = place == at
may_wait at (Arrive place) = place == at
may_wait at (Work turns) = false
