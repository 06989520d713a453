use Rattle.cqs_latch_object.proofs.LatchBounds.{waiters-are-few}
use Rattle.cqs_latch_object.proofs.laws.waiters_are_few.Goals as goal

pub returns : goal.returns
returns c = waiters-are-few
