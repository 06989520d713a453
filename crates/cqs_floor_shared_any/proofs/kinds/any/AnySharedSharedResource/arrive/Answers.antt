use Rattle.cqs_floor_shared_any.specs.declared.kinds.any.AnyShared.TheVariants.{Rounds}
use Rattle.cqs_floor_shared_any.specs.AnyShares.{share_any}
use Rattle.cqs_floor_shared_any.proofs.AmongShares.{arrives-among}
use Rattle.cqs_floor_shared_any.proofs.kinds.any.AnySharedSharedResource.arrive.Goals as goal

pub returns : goal.returns
returns g c =
    rw c.in-Rounds.is
    (arrives-among share_any Rounds c.args.job c.args.round c.in-Rounds.share c.arrive.new.self
    c.arrive.result c.arrive.ensures)
