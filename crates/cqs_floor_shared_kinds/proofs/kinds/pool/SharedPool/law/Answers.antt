use Rattle.cqs_floor_shared_kinds.proofs.PoolMeets.{pool-lawful}
use Rattle.cqs_floor_shared_kinds.proofs.kinds.pool.SharedPool.law.Goals as goal

pub returns : goal.returns
returns c = pool-lawful
