use Rattle.cqs_pool_object.proofs.PoolOpens.{opened-pool}
use Rattle.cqs_pool_object.proofs.laws.pools_open.Goals as goal

pub returns : goal.returns
returns c = opened-pool
