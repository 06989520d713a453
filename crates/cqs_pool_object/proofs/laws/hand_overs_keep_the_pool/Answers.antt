use Rattle.cqs_pool_object.proofs.PoolOpens.{handed-pool}
use Rattle.cqs_pool_object.proofs.laws.hand_overs_keep_the_pool.Goals as goal

pub returns : goal.returns
returns c = handed-pool
