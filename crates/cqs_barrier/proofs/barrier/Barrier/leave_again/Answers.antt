use Rattle.cqs_barrier.proofs.LeftSteps.{starts-here, left-so}
use Rattle.cqs_barrier.proofs.barrier.Barrier.leave_again.Goals as goal

pub returns-clause-left : goal.returns-clause-left
returns-clause-left g c =
    left-so _ _ _ _ _ (starts-here _ c.requires.has.further) c.requires.belongs.live.own
    c.leave.ensures.belongs.live.legal c.leave.ensures.leaves
