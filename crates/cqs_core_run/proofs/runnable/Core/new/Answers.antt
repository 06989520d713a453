use Rattle.std.proofs.Common.{arith}
use Rattle.cqs_core.specs.SemaphoreShown.{IsSize}
use Rattle.std.proofs.Common.{false}
use Rattle.cqs_core.proofs.EitherRuns.{opened-either}
use Rattle.cqs_core_run.proofs.runnable.Core.new.Goals as goal

pub invariant_of-result : goal.invariant_of-result
invariant_of-result c =
    let size : IsSize c.args.permits c.args.passes = record {
      some_permits = omega arith;
      few_permits = omega arith;
      some_passes = omega arith;
      few_passes = omega arith;
    } in
    rw c.in_ok-table.ensures (opened-either false c.args.permits c.args.passes size)
