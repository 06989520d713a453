use Rattle.cqs_barrier_object.proofs.Steps.{nothing-left}
use Rattle.cqs_barrier_object.proofs.law.nothing_is_left_to_a_withdrawer.Goals as goal

pub returns : goal.returns
returns c = nothing-left
