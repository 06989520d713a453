use Rattle.cqs_pool_object.proofs.PoolOrder.{step-in_order}
use Rattle.cqs_pool_object.proofs.laws.steps_keep_the_order.Goals as goal

pub returns : goal.returns
returns c = step-in_order
