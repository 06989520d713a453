use Rattle.std.proofs.Common.{refl, arith}
use Rattle.cqs_floor_alone_kinds.proofs.LatchSole.{latch-opened}
use Rattle.cqs_floor_alone_kinds.proofs.latch_sole.LatchSole.open.Goals as goal

pub returns : goal.returns
returns c =
    latch-opened _ c.args.count c.args.waits c.requires.few_waits c.requires.some
    (omega (arith, c.in-Ok.ensures.passes.1, c.from.ensures)) c.in-Ok.ensures.belongs c.in-Ok.ensures.mode
    c.in-Ok.ensures.count c.in-Ok.ensures.first c.in-Ok.ensures.nothing c.in-Ok.ensures.alone c.in-Ok.ensures.ready
    refl refl
