use Rattle.std.proofs.Common.{refl}
use Rattle.cqs_floor_shared_kinds.proofs.PermitSplits.{permits-split}
use Rattle.cqs_floor_shared_kinds.proofs.kinds.permits.SharedPermits.split.Goals as goal

pub returns-in-Ok : goal.returns-in-Ok
returns-in-Ok c =
    permits-split _ _ _ refl (rw c.deref.ensures at c.in-Ok.ensures.belongs)
    (rw c.deref.ensures at c.in-Ok.ensures.new_belongs) c.in_ok-semaphore.ensures c.in-Ok.ensures.looked
    c.in-Ok.ensures.ready c.in-Ok.ensures.came c.in-Ok.ensures.new_ready c.args.gives
