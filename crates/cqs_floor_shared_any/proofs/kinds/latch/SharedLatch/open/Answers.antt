use Rattle.std.proofs.Common.{◌∙◌, arith, refl}
use Rattle.cqs_floor_shared_any.proofs.LatchOpens.{latch-opened}
use Rattle.cqs_floor_shared_any.proofs.kinds.latch.SharedLatch.open.Goals as goal

pub returns-in-Ok-new : goal.returns-in-Ok-new
returns-in-Ok-new c =
    let same = c.in-Ok-new.ensures.ok in
    latch-opened _ c.args.kind c.args.workers c.args.waits c.requires.sort c.requires.sized
    (rw same c.in-Ok.ensures.belongs) (rw same (c.in-Ok.ensures.count ∙ c.counts.ensures))
    (rw same c.in-Ok.ensures.mode) (rw same c.in-Ok.ensures.passes.0)
    (rw same (omega (arith, c.in-Ok.ensures.passes.1, c.from.ensures)))
    c.in-Ok.ensures.first c.in-Ok.ensures.own c.in-Ok.ensures.nothing c.in-Ok.ensures.ready refl
