use Rattle.std.proofs.Common.{refl, sym, subst}
use Rattle.cqs_pool.specs.Calls.{IsMine}
use Rattle.cqs_floor_alone_kinds.proofs.PoolCalls.{lates-comes, leaves-comes}
use Rattle.cqs_floor_alone_kinds.proofs.PoolTakes.{pool-lates_at}
use Rattle.cqs_floor_alone_kinds.proofs.PoolWaits.{pool-leaves_at}
use Rattle.cqs_floor_alone_kinds.proofs.pool_sole.PoolSole.leave.Goals as goal

pub cancel-requires-clause-belongs : goal.cancel-requires-clause-belongs
cancel-requires-clause-belongs c = λ κs.
    subst (λ p. IsMine c.args.self.now.pool p) (sym c.wait_of-token.ensures.same) c.requires.funded.mine

pub returns-in-Cancelled-None : goal.returns-in-Cancelled-None
returns-in-Cancelled-None c =
    let same = c.wait_of-token.ensures.same in
    let none = c.in-Cancelled-None in
    let plain = rw (same, none.is, none.field-0-is) at c.cancel.ensures.alone in
    pool-leaves_at _ _ c.cancel.ensures.belongs refl refl c.args.job c.args._round _ _ c.wait_of-token.ensures.place
    c.requires.has.0 (leaves-comes _ _ _ (rw (same, none.is, none.field-0-is) at c.cancel.ensures.cancelled)
    (rw (same, none.is, none.field-0-is) at c.cancel.ensures.leaves) plain)
    (λ alone. (plain alone).0) refl refl

pub returns-in-TooLate : goal.returns-in-TooLate
returns-in-TooLate c =
    let same = c.wait_of-token.ensures.same in
    rw c.number-number.ensures (pool-lates_at _ _ c.cancel.ensures.belongs c.push_reserved.ensures.capacity c.args.job
    c.in-TooLate.element c.push_reserved.ensures.items c.args._round _ _ c.wait_of-token.ensures.place refl refl
    c.requires.has.0
    (lates-comes _ _ _ c.in-TooLate.element (rw (same, c.in-TooLate.is) at c.cancel.ensures.cancelled))
    (rw (same, c.in-TooLate.is) at c.cancel.ensures.alone) (rw (same, c.in-TooLate.is) at c.cancel.ensures.new))
