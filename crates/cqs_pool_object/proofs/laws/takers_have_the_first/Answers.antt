use Rattle.cqs_pool_object.proofs.PoolOrder.{first-taken}
use Rattle.cqs_pool_object.proofs.laws.takers_have_the_first.Goals as goal

pub returns : goal.returns
returns c = first-taken
