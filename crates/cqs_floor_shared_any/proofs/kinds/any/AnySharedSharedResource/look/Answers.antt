use Rattle.cqs_floor_shared_any.specs.declared.kinds.any.AnyShared.TheVariants.{Permits, Pool, Latch, Rounds}
use Rattle.cqs_floor_shared_any.specs.AnyShares.{share_any}
use Rattle.cqs_floor_shared_any.proofs.AmongShares.{looks-among}
use Rattle.cqs_floor_shared_any.proofs.kinds.any.AnySharedSharedResource.look.Goals as goal

pub returns-in-Permits : goal.returns-in-Permits
returns-in-Permits c =
    rw c.in-Permits.is
    (looks-among share_any Permits c.args.job c.in-Permits.share c.look.new.self c.args.round c.args.wait
    c.look.result c.look.ensures)

pub returns-in-Pool : goal.returns-in-Pool
returns-in-Pool c =
    rw c.in-Pool.is
    (looks-among share_any Pool c.args.job c.in-Pool.share c.look-in-Pool.new.self c.args.round c.args.wait
    c.look-in-Pool.result c.look-in-Pool.ensures)

pub returns-in-Latch : goal.returns-in-Latch
returns-in-Latch c =
    rw c.in-Latch.is
    (looks-among share_any Latch c.args.job c.in-Latch.share c.look-in-Latch.new.self c.args.round c.args.wait
    c.look-in-Latch.result c.look-in-Latch.ensures)

pub returns-in-Rounds : goal.returns-in-Rounds
returns-in-Rounds c =
    rw c.in-Rounds.is
    (looks-among share_any Rounds c.args.job c.in-Rounds.share c.look-in-Rounds.new.self c.args.round
    c.args.wait c.look-in-Rounds.result c.look-in-Rounds.ensures)
