use Rattle.std.proofs.Common.{subst}
use Rattle.cqs_floor_shared_any.specs.AnyShares.{share_any}
use Rattle.cqs_floor_shared_queue.specs.FloorKept.{IsKept}
use Rattle.cqs_floor_shared_queue.proofs.OnlyPasses.{only-passes}
use Rattle.cqs_floor_shared_queue.proofs.floors.share_floor.tell_passes.Goals as goal

pub returns : goal.returns
returns c met =
    only-passes c.args.floor.now (subst (IsKept share_any) c.floor.view_is c.floor.invariant) met
