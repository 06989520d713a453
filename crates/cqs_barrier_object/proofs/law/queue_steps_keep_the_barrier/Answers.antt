use Rattle.cqs_barrier_object.proofs.Steps.{step-keeps}
use Rattle.cqs_barrier_object.proofs.law.queue_steps_keep_the_barrier.Goals as goal

pub returns : goal.returns
returns c = step-keeps
