use Rattle.cqs_latch_object.proofs.LatchSteps.{step-core}
use Rattle.cqs_latch_object.proofs.laws.queue_steps_keep_the_latch.Goals as goal

pub returns : goal.returns
returns c = step-core
