use Rattle.std.proofs.Common.{refl, arith}
use Rattle.cqs_floor_alone_kinds.proofs.PoolSole.{pool_opened}
use Rattle.cqs_floor_alone_kinds.proofs.pool_sole.PoolSole.open.Goals as goal

pub returns : goal.returns
returns c =
    pool_opened _ c.args.elements c.args.takes c.requires.few_takes c.requires.few
    (omega (arith, c.in-Ok.ensures.passes.1, c.from.ensures)) c.in-Ok.ensures.belongs c.in-Ok.ensures.size
    c.in-Ok.ensures.first c.in-Ok.ensures.nothing c.in-Ok.ensures.alone c.in-Ok.ensures.ready
    c.in_ok-with_capacity.ensures.items (omega (arith, c.in_ok-with_capacity.ensures.exact)) refl refl
