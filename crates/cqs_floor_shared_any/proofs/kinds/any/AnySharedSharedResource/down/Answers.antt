use Rattle.cqs_floor_shared_any.specs.declared.kinds.any.AnyShared.TheVariants.{Latch}
use Rattle.cqs_floor_shared_any.specs.AnyShares.{share_any}
use Rattle.cqs_floor_shared_any.proofs.AmongShares.{counts-among}
use Rattle.cqs_floor_shared_any.proofs.kinds.any.AnySharedSharedResource.down.Goals as goal

pub returns : goal.returns
returns g c =
    rw c.in-Latch.is
    (counts-among share_any Latch c.in-Latch.share c.down.new.self c.down.result
    c.down.ensures)
