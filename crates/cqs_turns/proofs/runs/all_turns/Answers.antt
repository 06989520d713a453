use Rattle.std.proofs.Common.{subst, sym}
use Rattle.cqs_turns_report.specs.Running.{IsRunning}
use Rattle.cqs_turns_report.proofs.Growth.{on-err, prefix-of-later}
use Rattle.cqs_turns_report.proofs.Opened.{opening-running}
use Rattle.cqs_turns.proofs.runs.all_turns.Goals as goal

pub loop-turn-init : goal.loop-turn-init
loop-turn-init g c = record {
  now = c.requires.opening;
  running = subst (IsRunning c.args.plan.now) (sym c.requires.opening)
      (opening-running c.args.plan.now c.requires.runnable);
  kept = c.requires.kept;
}

pub returns-in_err-one_turn-clause-err : goal.returns-in_err-one_turn-clause-err
returns-in_err-one_turn-clause-err g c =
    on-err c.from_residual.result
    (prefix-of-later c.args.plan.now c.loop-turn.turn c.args.plan.now.turns _ _ c.loop-turn.invariant.now
    c.loop-turn-test.true c.in_err-one_turn.ensures.err)
