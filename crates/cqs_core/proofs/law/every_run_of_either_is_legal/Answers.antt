use Rattle.cqs_core.proofs.EitherRuns.{every-run-of-either-is-legal}
use Rattle.cqs_core.proofs.law.every_run_of_either_is_legal.Goals as goal

pub returns : goal.returns
returns c = every-run-of-either-is-legal
