-- The steps of a job that are counted before it may make another.
use Rattle.std.specs.Prelude.{ℕ, Bool}
use Rattle.cqs_plan.specs.declared.plans.step.Step.{Step}
use Rattle.cqs_plan_reader.specs.declared.reader.steps.Counted.{Counted}
use Rattle.cqs_plan_reader.specs.declared.reader.steps.Counted.TheVariants.{Takes, Gives, Arrivals}
use Rattle.cqs_plan.specs.PlanSteps.{is_arrival, is_give, is_take}

-- the steps at a resource that count
abbrev pub is_counted : Counted → ℕ → Step → Bool
is_counted Takes at = is_take at
is_counted Gives at = is_give at
is_counted Arrivals at = is_arrival at
