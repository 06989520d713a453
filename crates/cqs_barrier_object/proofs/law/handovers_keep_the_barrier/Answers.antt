use Rattle.cqs_barrier_object.proofs.WordSteps.{handover-keeps}
use Rattle.cqs_barrier_object.proofs.law.handovers_keep_the_barrier.Goals as goal

pub returns : goal.returns
returns c = handover-keeps
