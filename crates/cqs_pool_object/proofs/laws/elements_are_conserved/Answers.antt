use Rattle.cqs_pool_object.proofs.PoolConserved.{conserved-after}
use Rattle.cqs_pool_object.proofs.laws.elements_are_conserved.Goals as goal

pub returns : goal.returns
returns c = conserved-after
