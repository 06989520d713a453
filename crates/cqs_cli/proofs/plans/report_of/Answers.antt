use Rattle.std.proofs.Common.{refl}
use Rattle.cqs_cli.proofs.RunFloors.{has-run}
use Rattle.cqs_cli.proofs.plans.report_of.Goals as goal

pub returns-clause-keeps : goal.returns-clause-keeps
returns-clause-keeps c = record {
  floor = c.run_plan.new.floor;
  is = refl;
  ran = has-run _ _ c.is_kept.ensures c.in_ok-run_plan.ensures.floor c.in_ok-run_plan.ensures.legal;
}
