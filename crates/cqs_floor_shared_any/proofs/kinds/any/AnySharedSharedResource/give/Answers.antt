use Rattle.cqs_floor_shared_any.specs.declared.kinds.any.AnyShared.TheVariants.{Permits, Pool}
use Rattle.cqs_floor_shared_any.specs.AnyShares.{share_any}
use Rattle.cqs_floor_shared_any.proofs.AmongShares.{gives-among}
use Rattle.cqs_floor_shared_any.proofs.kinds.any.AnySharedSharedResource.give.Goals as goal

pub returns-in-Permits : goal.returns-in-Permits
returns-in-Permits g c =
    rw c.in-Permits.is
    (gives-among share_any Permits c.args.job c.in-Permits.share c.give.new.self c.give.result c.give.ensures)

pub returns-in-Pool : goal.returns-in-Pool
returns-in-Pool g c =
    rw c.in-Pool.is
    (gives-among share_any Pool c.args.job c.in-Pool.share c.give-in-Pool.new.self c.give-in-Pool.result
    c.give-in-Pool.ensures)
