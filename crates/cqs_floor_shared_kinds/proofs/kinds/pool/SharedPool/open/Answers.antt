use Rattle.std.proofs.Common.{◌∙◌, arith}
use Rattle.cqs_floor_shared_kinds.proofs.PoolOpens.{pool-opened}
use Rattle.cqs_floor_shared_kinds.proofs.kinds.pool.SharedPool.open.Goals as goal

pub returns-in-Ok-new : goal.returns-in-Ok-new
returns-in-Ok-new c =
    let same = c.in-Ok-new.ensures.ok in
    pool-opened _ c.args.kind c.args.workers c.args.takes c.requires.sort (rw same c.in-Ok.ensures.belongs)
    (rw same (c.in-Ok.ensures.size ∙ c.elements-elements.ensures)) (rw same c.in-Ok.ensures.passes.0)
    (rw same (omega (arith, c.in-Ok.ensures.passes.1, c.from.ensures)))
    c.in-Ok.ensures.first c.in-Ok.ensures.own c.in-Ok.ensures.nothing c.in_ok-held.ensures.items
    (omega (arith, c.in_ok-held.ensures.capacity, c.elements-elements.ensures))
    c.in-Ok.ensures.ready
