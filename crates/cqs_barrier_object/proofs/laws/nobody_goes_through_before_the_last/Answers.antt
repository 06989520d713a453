use Rattle.cqs_barrier_object.proofs.Conserved.{nobody-before-last}
use Rattle.cqs_barrier_object.proofs.laws.nobody_goes_through_before_the_last.Goals as goal

pub returns : goal.returns
returns c = nobody-before-last
