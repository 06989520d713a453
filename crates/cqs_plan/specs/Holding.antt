-- What a job holds, by the steps that it has made.
pub use Rattle.cqs_plan.specs.PlanSteps.{is_take, is_give}
use Rattle.std.specs.Prelude.{ℕ, ◌<◌, Bool, true, nat_lt, List, count_by}
use Rattle.cqs_plan.specs.declared.plans.step.Step.{Step}
use Rattle.cqs_plan.specs.declared.plans.step.Step.TheVariants.{Take, Give, Down, Await, Arrive, Work}

-- these steps took more of the resource than they gave back
abbrev pub TookMore : List Step → ℕ → Type 0
TookMore earlier place = count_by (is_give place) earlier < count_by (is_take place) earlier

-- a `give` has more earlier takes of its resource than gives
abbrev pub is_held : List Step → Step → Bool
is_held earlier (Give place) =
    nat_lt (count_by (is_give place) earlier) (count_by (is_take place) earlier)
is_held earlier (Take place) = true
is_held earlier (Down place) = true
is_held earlier (Await place) = true
is_held earlier (Arrive place) = true
is_held earlier (Work turns) = true
