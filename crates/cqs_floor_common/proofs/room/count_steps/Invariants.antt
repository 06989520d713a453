use Rattle.std.proofs.Common.{◌≡◌, ℕ, ◌+◌, get_or, count_by, take}
use Rattle.cqs_plan.specs.PlanSteps.{may_wait}
use Rattle.cqs_floor_common.proofs.room.count_steps.Given as goal

abbrev pub invariant-loop-step : goal.invariant-loop-step
invariant-loop-step l = record {
  counts : (at : ℕ) → get_or l.room at 0 ≡ get_or l.initial.room at 0
      + count_by (may_wait at) (take l.step-index l.steps);
}
