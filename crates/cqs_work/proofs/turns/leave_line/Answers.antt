use Rattle.std.proofs.Common.{refl}
use Rattle.cqs_work.proofs.Closing.{left-line, no-line-else}
use Rattle.cqs_work.proofs.turns.leave_line.Goals as goal

pub returns-in_ok-leave-in-Waiting-clause-did : goal.returns-in_ok-leave-in-Waiting-clause-did
returns-in_ok-leave-in-Waiting-clause-did g c =
    left-line c.args.actor.now _ _ c.args.state.now.progress _ c.in-Waiting.at c.in-Waiting.round c.in-Waiting.number _
    c.in-Waiting.is c.in_ok-leave-in-Waiting.ensures.did

pub returns-in-Stepping : goal.returns-in-Stepping
returns-in-Stepping g c = record {
  did = no-line-else c.args.actor.now _ c.args.state.now.progress c.in-Stepping.is c.requires.stands;
  held = c.requires.held;
  stage = refl;
}
