use Rattle.std.proofs.Common.{arith, refl}
use Rattle.cqs_floor_shared_any.proofs.LatchMeets.{both-few, latch-meet}
use Rattle.cqs_floor_shared_any.proofs.kinds.latch.SharedLatch.meet.Goals as goal

pub overflow_add-self : goal.overflow_add-self
overflow_add-self c =
    let x = c.args.self.now in
    let few = both-few x c.args.given (record x { pass = c.meet.new.pass }) refl
    (rw c.deref.ensures at c.in-Ok.ensures.belongs) c.in-Ok.ensures.met c.in-Ok.ensures.ready c.requires in
    omega (arith, few)

pub returns : goal.returns
returns c =
    latch-meet _ c.args.given _ refl (rw c.deref.ensures at c.in-Ok.ensures.belongs) c.in-Ok.ensures.met
    c.in-Ok.ensures.ready refl
