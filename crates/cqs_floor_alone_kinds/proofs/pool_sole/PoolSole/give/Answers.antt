use Rattle.std.proofs.Common.{refl, arith}
use Rattle.cqs_floor_alone_kinds.proofs.PoolPlaced.{placed-only}
use Rattle.cqs_floor_alone_kinds.proofs.PoolSole.{few-counted_at, in-hand}
use Rattle.cqs_floor_alone_kinds.proofs.PoolGives.{pool-frees, pool-sends}
use Rattle.cqs_floor_alone_kinds.proofs.pool_sole.PoolSole.give.Goals as goal

pub put-requires-clause-has : goal.put-requires-clause-has
put-requires-clause-has c =
    in-hand c.args.self.now c.args.job _ c.take_out-element.ensures.first c.requires.funded.hands

pub overflow_add-self : goal.overflow_add-self
overflow_add-self c =
    let few = few-counted_at c.args.self.now _ _ _ _ c.requires.funded in omega (arith, few)

pub returns-in-Some : goal.returns-in-Some
returns-in-Some c =
    let placed = rw c.in-Some.is at c.put.ensures.placed in
    rw c.number-number.ensures (pool-sends _ _ c.put.ensures.mine c.take_out-element.ensures.capacity c.args.job _
    c.take_out-element.ensures.first c.take_out-element.ensures.rest c.in-Some.wait
    (placed-only _ _ _ _ placed c.requires.funded.rests.only) placed refl refl)

pub returns-in-None : goal.returns-in-None
returns-in-None c =
    let placed = rw c.in-None.is at c.put.ensures.placed in
    rw c.number-number.ensures (pool-frees _ _ c.put.ensures.mine c.take_out-element.ensures.capacity c.args.job _
    c.take_out-element.ensures.first c.take_out-element.ensures.rest
    (placed-only _ _ _ _ placed c.requires.funded.rests.only) placed refl refl)
