use Rattle.std.proofs.Common.{refl}
use Rattle.cqs_rule.specs.Passes.{pass_view}
use Rattle.cqs_floor_shared_kinds.proofs.PoolMeets.{pool-meet, room-for-both}
use Rattle.cqs_floor_shared_kinds.proofs.kinds.pool.SharedPool.meet.Goals as goal

pub take_over-requires : goal.take_over-requires
take_over-requires c =
    room-for-both c.args.self.now c.args.given (pass_view c.meet.new.pass) c.requires c.in-Ok.ensures.met.opening
    c.in-Ok.ensures.belongs.live.known c.in-Ok.ensures.elements

pub returns : goal.returns
returns c =
    pool-meet _ c.args.given _ refl (rw c.deref.ensures at c.in-Ok.ensures.belongs) c.take_over.ensures.capacity
    c.take_over.ensures.items c.in-Ok.ensures.met c.in-Ok.ensures.ready c.in-Ok.ensures.elements
