use Rattle.std.proofs.Common.{arith}
use Rattle.cqs_floor_alone_kinds.proofs.PoolSole.{few-counted, pool-tells}
use Rattle.cqs_floor_alone_kinds.proofs.pool_sole.PoolSole.end.Goals as goal

pub overflow_sub-result : goal.overflow_sub-result
overflow_sub-result c =
    let few = few-counted _ c.args.kind _ _ _ c.requires.funded in omega (arith, c.elements.ensures, few)

pub returns : goal.returns
returns c = rw c.elements.ensures (pool-tells _ c.args.kind)
