use Rattle.cqs_latch_object.proofs.LatchSteps.{word-core}
use Rattle.cqs_latch_object.proofs.laws.word_steps_keep_the_latch.Goals as goal

pub returns : goal.returns
returns c = word-core
