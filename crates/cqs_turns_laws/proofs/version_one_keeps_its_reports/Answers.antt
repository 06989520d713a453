use Rattle.cqs_turns_report.proofs.SameAsFirst.{report-same}
use Rattle.cqs_turns_laws.proofs.version_one_keeps_its_reports.Goals as goal

pub returns : goal.returns
returns c = report-same
