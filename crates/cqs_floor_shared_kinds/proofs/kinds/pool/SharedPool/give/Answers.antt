use Rattle.std.proofs.Common.{refl}
use Rattle.cqs_pool.specs.Elements.{number_of}
use Rattle.cqs_rule.specs.Passes.{pass_view}
use Rattle.cqs_floor_shared_kinds.proofs.PoolShares.{pool-gives_late, pool-leaves_it, pool-sends}
use Rattle.cqs_floor_shared_kinds.proofs.ElementsInHand.{first-in-hand}
use Rattle.cqs_floor_shared_kinds.proofs.kinds.pool.SharedPool.give.Goals as goal

pub put-requires-clause-has : goal.put-requires-clause-has
put-requires-clause-has g c κs =
    first-in-hand c.args.job (number_of c.take_out-element.result) c.args.self.now.held.items _ c.requires.funded.hands
    c.take_out-element.ensures.first

pub returns-in-Ok-Sent : goal.returns-in-Ok-Sent
returns-in-Ok-Sent g c =
    let ends = rw c.in-Ok-Sent.field-0-is at c.in-Ok-Sent.ensures.ends in
    rw c.number-number.ensures (pool-sends _ _ refl (rw c.deref.ensures at c.in-Ok-Sent.ensures.belongs)
    c.take_out-element.ensures.capacity c.args.job _ c.take_out-element.ensures.first c.take_out-element.ensures.rest
    c.in-Ok-Sent.wait (rw c.in-Ok-Sent.field-0-is at c.in-Ok-Sent.ensures.called) ends.1)

pub returns-in-Ok-Left : goal.returns-in-Ok-Left
returns-in-Ok-Left g c =
    let ends = rw c.in-Ok-Left.field-0-is at c.in-Ok-Left.ensures.ends in
    rw c.number-number.ensures (pool-leaves_it _ _ refl (rw c.deref.ensures at c.in-Ok-Left.ensures.belongs)
    c.take_out-element.ensures.capacity c.args.job _ c.take_out-element.ensures.first c.take_out-element.ensures.rest
    c.in-Ok-Left.wait (rw c.in-Ok-Left.field-0-is at c.in-Ok-Left.ensures.called) ends)

pub returns-in-Ok-Under : goal.returns-in-Ok-Under
returns-in-Ok-Under g c =
    let ends = rw c.in-Ok-Under.field-0-is at c.in-Ok-Under.ensures.ends in
    rw (c.gave.ensures, c.number-number.ensures) (pool-gives_late _ _ refl
    (rw c.deref-in-Ok-Under.ensures at c.finish.ensures.mine)
    c.take_out-element.ensures.capacity c.args.job _ c.take_out-element.ensures.first c.take_out-element.ensures.rest
    c.in-Ok-Under.under (pass_view c.put.new.pass)
    (rw c.in-Ok-Under.field-0-is at c.in-Ok-Under.ensures.called) ends c.finish.ensures.went c.finish.ensures.rests
    c.finish.result (rw ends.brings at c.finish.ensures.tells))
