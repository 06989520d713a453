use Rattle.cqs_floor_alone_kinds.specs.declared.any_sole.AnySole.TheVariants.{Latch, Pool, Rounds}
use Rattle.cqs_floor_alone_kinds.specs.AnySoles.{store_any}
use Rattle.cqs_floor_alone_kinds.specs.SoleLatch.{store_latch}
use Rattle.cqs_floor_alone_kinds.specs.SolePool.{store_pool}
use Rattle.cqs_floor_alone_kinds.specs.SoleRounds.{store_rounds}
use Rattle.cqs_floor_alone_kinds.proofs.AmongStores.{polls-among}
use Rattle.cqs_floor_alone_kinds.proofs.AnySoles.{latch-among, pool-among, rounds-among}
use Rattle.cqs_floor_alone_kinds.proofs.any_sole.AnySoleSoleResource.look.Goals as goal

pub returns-in-Pool : goal.returns-in-Pool
returns-in-Pool g c =
    let s = g.S.SoleSemaphore.sole in
    rw c.in-Pool.is
    (polls-among store_pool (store_any s) Pool (pool-among s) c.in-Pool.sole c.look-in-Pool.new.self
    c.args.job c.args.round c.args.wait c.look-in-Pool.result c.look-in-Pool.ensures)

pub returns-in-Latch : goal.returns-in-Latch
returns-in-Latch g c =
    let s = g.S.SoleSemaphore.sole in
    rw c.in-Latch.is
    (polls-among store_latch (store_any s) Latch (latch-among s) c.in-Latch.sole c.look-in-Latch.new.self
    c.args.job c.args.round c.args.wait c.look-in-Latch.result c.look-in-Latch.ensures)

pub returns-in-Rounds : goal.returns-in-Rounds
returns-in-Rounds g c =
    let s = g.S.SoleSemaphore.sole in
    rw c.in-Rounds.is
    (polls-among store_rounds (store_any s) Rounds (rounds-among s) c.in-Rounds.sole c.look-in-Rounds.new.self
    c.args.job c.args.round c.args.wait c.look-in-Rounds.result c.look-in-Rounds.ensures)
