use Rattle.cqs_floor_shared_any.specs.declared.kinds.any.AnyShared.TheVariants.{Permits, Pool, Latch, Rounds}
use Rattle.cqs_floor_shared_any.specs.AnyShares.{share_any}
use Rattle.cqs_floor_shared_any.proofs.AmongShares.{leaves-among}
use Rattle.cqs_floor_shared_any.proofs.kinds.any.AnySharedSharedResource.leave.Goals as goal

pub returns-in-Permits : goal.returns-in-Permits
returns-in-Permits g c =
    rw c.in-Permits.is
    (leaves-among share_any Permits c.args.job c.in-Permits.share c.leave.new.self c.args.round c.args.wait
    c.leave.result c.leave.ensures)

pub returns-in-Pool : goal.returns-in-Pool
returns-in-Pool g c =
    rw c.in-Pool.is
    (leaves-among share_any Pool c.args.job c.in-Pool.share c.leave-in-Pool.new.self c.args.round c.args.wait
    c.leave-in-Pool.result c.leave-in-Pool.ensures)

pub returns-in-Latch : goal.returns-in-Latch
returns-in-Latch g c =
    rw c.in-Latch.is
    (leaves-among share_any Latch c.args.job c.in-Latch.share c.leave-in-Latch.new.self c.args.round
    c.args.wait c.leave-in-Latch.result c.leave-in-Latch.ensures)

pub returns-in-Rounds : goal.returns-in-Rounds
returns-in-Rounds g c =
    rw c.in-Rounds.is
    (leaves-among share_any Rounds c.args.job c.in-Rounds.share c.leave-in-Rounds.new.self c.args.round
    c.args.wait c.leave-in-Rounds.result c.leave-in-Rounds.ensures)
