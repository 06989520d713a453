use Rattle.cqs_barrier_object.proofs.Conserved.{last-is-last}
use Rattle.cqs_barrier_object.proofs.laws.the_last_is_the_last.Goals as goal

pub returns : goal.returns
returns c = last-is-last
