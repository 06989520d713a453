use Rattle.std.proofs.Common.{arith}
use Rattle.cqs_floor_alone_kinds.proofs.RoundCalls.{round-opened}
use Rattle.cqs_floor_alone_kinds.proofs.round_sole.RoundSole.open.Goals as goal

pub returns-in-Ok : goal.returns-in-Ok
returns-in-Ok c =
    round-opened _ c.args.parties c.args.arrivals (omega (arith, c.in-Ok.ensures.passes.1, c.from.ensures))
    c.in-Ok.ensures.belongs c.in-Ok.ensures.parties c.in-Ok.ensures.first c.in-Ok.ensures.nothing
    c.in-Ok.ensures.alone c.in-Ok.ensures.all
