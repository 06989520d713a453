use Rattle.cqs_latch_object.proofs.LatchRuns.{every-run-is-legal}
use Rattle.cqs_latch_object.proofs.laws.every_run_is_legal.Goals as goal

pub returns : goal.returns
returns c = every-run-is-legal
