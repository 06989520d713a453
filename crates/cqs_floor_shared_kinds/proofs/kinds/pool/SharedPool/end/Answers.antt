use Rattle.cqs_floor_shared_kinds.proofs.PoolMeets.{pool-end}
use Rattle.cqs_floor_shared_kinds.proofs.kinds.pool.SharedPool.end.Goals as goal

pub returns : goal.returns
returns c = pool-end c.args.self.now c.args.kind c.elements.result c.elements.ensures c.requires
