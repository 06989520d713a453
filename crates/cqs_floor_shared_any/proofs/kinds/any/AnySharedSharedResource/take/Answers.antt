use Rattle.cqs_floor_shared_any.specs.declared.kinds.any.AnyShared.TheVariants.{Permits, Pool}
use Rattle.cqs_floor_shared_any.specs.AnyShares.{share_any}
use Rattle.cqs_floor_shared_any.proofs.AmongShares.{takes-among}
use Rattle.cqs_floor_shared_any.proofs.kinds.any.AnySharedSharedResource.take.Goals as goal

pub returns-in-Permits : goal.returns-in-Permits
returns-in-Permits g c =
    rw c.in-Permits.is
    (takes-among share_any Permits c.args.job c.in-Permits.share c.take.new.self c.take.result c.take.ensures)

pub returns-in-Pool : goal.returns-in-Pool
returns-in-Pool g c =
    rw c.in-Pool.is
    (takes-among share_any Pool c.args.job c.in-Pool.share c.take-in-Pool.new.self c.take-in-Pool.result
    c.take-in-Pool.ensures)
