use Rattle.std.proofs.Common.{arith, refl}
use Rattle.cqs_floor_shared_any.proofs.RoundsOpens.{round-opened}
use Rattle.cqs_floor_shared_any.proofs.kinds.round.SharedRound.open.Goals as goal

pub returns-in-Ok-new : goal.returns-in-Ok-new
returns-in-Ok-new c =
    let same = c.in-Ok-new.ensures.ok in
    round-opened _ c.args.parties c.args.workers c.args.arrivals (rw same c.in-Ok.ensures.belongs)
    (rw same c.in-Ok.ensures.parties) (rw same c.in-Ok.ensures.passes.0)
    (rw same (omega (arith, c.in-Ok.ensures.passes.1, c.from.ensures)))
    c.in-Ok.ensures.first c.in-Ok.ensures.own c.in-Ok.ensures.nothing c.in-Ok.ensures.all refl
