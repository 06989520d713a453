use Rattle.cqs_turns_laws.proofs.JobStories.{every-report-has-its-lines}
use Rattle.cqs_turns_laws.proofs.every_report_has_its_lines.Goals as goal

pub returns : goal.returns
returns c = every-report-has-its-lines
