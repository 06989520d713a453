use Rattle.cqs_floor_shared_any.specs.declared.kinds.any.AnyShared.TheVariants.{Latch}
use Rattle.cqs_floor_shared_any.specs.AnyShares.{share_any}
use Rattle.cqs_floor_shared_any.proofs.AmongShares.{waits-among}
use Rattle.cqs_floor_shared_any.proofs.kinds.any.AnySharedSharedResource.wait.Goals as goal

pub returns : goal.returns
returns g c =
    rw c.in-Latch.is
    (waits-among share_any Latch c.args.job c.in-Latch.share c.wait.new.self c.wait.result
    c.wait.ensures)
