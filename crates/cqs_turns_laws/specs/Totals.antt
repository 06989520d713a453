-- The totals of a report.
use Rattle.std.specs.Prelude.{◌≡◌, ℕ, ◌+◌, List, length, count_by}
use Rattle.cqs_plan.specs.declared.plans.plan.Plan.{Plan}
use Rattle.cqs_turns_report.specs.declared.states.Progress.{Progress}
use Rattle.cqs_turns_report.specs.Lines.{is_done, has_given_up, is_late, is_unfinished}
use Rattle.cqs_turns_report.specs.Turns.{machine_after}

-- the sum of the four totals
abbrev pub total_of : List Progress → ℕ
total_of progress =
    count_by is_done progress + count_by has_given_up progress + count_by is_late progress
    + count_by is_unfinished progress

-- each job is counted in one of the totals, and in no other
abbrev pub TotalsAddUp : Type 0
TotalsAddUp = (plan : Plan) → total_of (machine_after plan plan.turns).progress ≡ length plan.jobs
