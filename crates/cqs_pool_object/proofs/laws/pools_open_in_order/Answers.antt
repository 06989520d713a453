use Rattle.cqs_pool_object.proofs.PoolOrder.{opened-in_order}
use Rattle.cqs_pool_object.proofs.laws.pools_open_in_order.Goals as goal

pub returns : goal.returns
returns c = opened-in_order
