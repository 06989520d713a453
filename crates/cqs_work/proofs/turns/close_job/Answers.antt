use Rattle.cqs_work.proofs.Closing.{closes}
use Rattle.cqs_work.proofs.turns.close_job.Goals as goal

pub returns-clause-did : goal.returns-clause-did
returns-clause-did g c =
    closes c.args.actor.now _ _ _ c.args.state.now.progress _ c.in_ok-leave_line.ensures.did
    c.in_ok-leave_line.ensures.held c.give_all.ensures.did
