use Rattle.cqs_floor_alone_kinds.specs.declared.any_sole.AnySole.TheVariants.{Latch, Pool, Rounds}
use Rattle.cqs_floor_alone_kinds.specs.AnySoles.{store_any}
use Rattle.cqs_floor_alone_kinds.specs.SoleLatch.{store_latch}
use Rattle.cqs_floor_alone_kinds.specs.SolePool.{store_pool}
use Rattle.cqs_floor_alone_kinds.specs.SoleRounds.{store_rounds}
use Rattle.cqs_floor_alone_kinds.proofs.AmongStores.{tells-among}
use Rattle.cqs_floor_alone_kinds.proofs.AnySoles.{latch-among, pool-among, rounds-among}
use Rattle.cqs_floor_alone_kinds.proofs.any_sole.AnySoleSoleResource.end.Goals as goal

pub returns-in-Pool : goal.returns-in-Pool
returns-in-Pool g c =
    let s = g.S.SoleSemaphore.sole in
    rw c.in-Pool.is
    (tells-among store_pool (store_any s) Pool (pool-among s) c.in-Pool.sole c.end-in-Pool.new.self
    c.args.kind c.end-in-Pool.result c.end-in-Pool.ensures)

pub returns-in-Latch : goal.returns-in-Latch
returns-in-Latch g c =
    let s = g.S.SoleSemaphore.sole in
    rw c.in-Latch.is
    (tells-among store_latch (store_any s) Latch (latch-among s) c.in-Latch.sole c.end-in-Latch.new.self
    c.args.kind c.end-in-Latch.result c.end-in-Latch.ensures)

pub returns-in-Rounds : goal.returns-in-Rounds
returns-in-Rounds g c =
    let s = g.S.SoleSemaphore.sole in
    rw c.in-Rounds.is
    (tells-among store_rounds (store_any s) Rounds (rounds-among s) c.in-Rounds.sole c.end-in-Rounds.new.self
    c.args.kind c.end-in-Rounds.result c.end-in-Rounds.ensures)
