use Rattle.cqs_floor_alone_kinds.specs.declared.any_sole.AnySole.TheVariants.{Pool}
use Rattle.cqs_floor_alone_kinds.specs.AnySoles.{store_any}
use Rattle.cqs_floor_alone_kinds.specs.SolePool.{store_pool}
use Rattle.cqs_floor_alone_kinds.proofs.AmongStores.{acquires-among}
use Rattle.cqs_floor_alone_kinds.proofs.AnySoles.{pool-among}
use Rattle.cqs_floor_alone_kinds.proofs.any_sole.AnySoleSoleResource.take.Goals as goal

pub returns-in-Pool : goal.returns-in-Pool
returns-in-Pool g c =
    let s = g.S.SoleSemaphore.sole in
    rw c.in-Pool.is
    (acquires-among store_pool (store_any s) Pool (pool-among s) c.in-Pool.sole c.take-in-Pool.new.self
    c.args.job c.take-in-Pool.result c.take-in-Pool.ensures)
