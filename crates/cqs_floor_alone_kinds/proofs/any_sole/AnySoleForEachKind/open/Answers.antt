use Rattle.std.proofs.Common.{Some, rules}
use Rattle.cqs_floor_alone_kinds.specs.declared.any_sole.AnySole.TheVariants.{Latch, Permits, Pool, Rounds}
use Rattle.cqs_floor_alone_kinds.specs.AnySoles.{store_any}
use Rattle.cqs_floor_alone_kinds.specs.Lifted.{of_semaphore}
use Rattle.cqs_floor_alone_kinds.specs.SoleLatch.{store_latch}
use Rattle.cqs_floor_alone_kinds.specs.SolePool.{store_pool}
use Rattle.cqs_floor_alone_kinds.specs.SoleRounds.{store_rounds}
use Rattle.cqs_floor_alone_kinds.specs.Soles.{IsOfPermits}
use Rattle.cqs_floor_alone_kinds.proofs.AmongStores.{opened-among}
use Rattle.cqs_floor_alone_kinds.proofs.AnySoles.{latch-among, permits-among, pool-among, rounds-among}
use Rattle.cqs_floor_alone_kinds.proofs.Lifted.{lifted-opened}
use Rattle.cqs_floor_alone_kinds.proofs.any_sole.AnySoleForEachKind.open.Goals as goal

pub returns-in_ok-sole-in-Semaphore : goal.returns-in_ok-sole-in-Semaphore
returns-in_ok-sole-in-Semaphore g c =
    let s = g.S.SoleSemaphore.sole in
    let sort : IsOfPermits (Some c.args.kind) = search rules in
    opened-among (of_semaphore s) (store_any s) Permits (permits-among s) c.args.kind c.args.room _
    (lifted-opened s _ c.args.kind c.args.room sort c.in_ok-sole-in-Semaphore.ensures)

pub returns-in_ok-sole-in-Pool : goal.returns-in_ok-sole-in-Pool
returns-in_ok-sole-in-Pool g c =
    let s = g.S.SoleSemaphore.sole in
    rw c.in-Pool.is
    (opened-among store_pool (store_any s) Pool (pool-among s) _ c.args.room _ c.in_ok-sole-in-Pool.ensures)

pub returns-in_ok-sole-in-Latch : goal.returns-in_ok-sole-in-Latch
returns-in_ok-sole-in-Latch g c =
    let s = g.S.SoleSemaphore.sole in
    rw c.in-Latch.is
    (opened-among store_latch (store_any s) Latch (latch-among s) _ c.args.room _ c.in_ok-sole-in-Latch.ensures)

pub returns-in_ok-sole-in-Rounds : goal.returns-in_ok-sole-in-Rounds
returns-in_ok-sole-in-Rounds g c =
    let s = g.S.SoleSemaphore.sole in
    rw c.in-Rounds.is
    (opened-among store_rounds (store_any s) Rounds (rounds-among s) _ c.args.room _ c.in_ok-sole-in-Rounds.ensures)
