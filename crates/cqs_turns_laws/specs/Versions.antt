-- The versions of plans.
use Rattle.std.specs.Prelude.{◌≡◌, All}
use Rattle.cqs_plan.specs.declared.plans.plan.Plan.{Plan}
use Rattle.cqs_plan.specs.Validity.{IsPatient}
use Rattle.cqs_turns_report.specs.FirstVersion.{first_report_of}
use Rattle.cqs_turns_report.specs.Report.{report_of}

-- where each job is one of version 1, the report is that of the turn machine of version 1
abbrev pub VersionOneKeepsItsReports : Type 0
VersionOneKeepsItsReports =
    (plan : Plan) → All IsPatient plan.jobs → report_of plan ≡ first_report_of plan
