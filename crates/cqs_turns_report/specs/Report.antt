-- The report of a plan: the lines of its turns, then a line for each resource, then the totals.
-- The last two are its summary.
use Rattle.std.specs.Prelude.{ℕ, List, ◌++◌}
use Rattle.cqs_plan.specs.declared.plans.plan.Plan.{Plan}
use Rattle.cqs_turns_report.specs.Lines.{ends_text, total_text}
use Rattle.cqs_turns_report.specs.Turns.{Machine, machine_after}

-- what is told after the last turn: the lines of the resources, then the totals
abbrev pub summary_after : Plan → Machine → List ℕ
summary_after plan m = ends_text plan.resources 0 m.scene.floor ++ total_text m.progress

-- the whole report, where the turns end with this machine
abbrev pub report_after : Plan → Machine → List ℕ
report_after plan m =
    m.scene.text ++ ends_text plan.resources 0 m.scene.floor ++ total_text m.progress

-- the report of a plan
abbrev pub report_of : Plan → List ℕ
report_of plan = report_after plan (machine_after plan plan.turns)

-- what the report of a plan tells after the last turn
abbrev pub summary_of : Plan → List ℕ
summary_of plan = summary_after plan (machine_after plan plan.turns)
