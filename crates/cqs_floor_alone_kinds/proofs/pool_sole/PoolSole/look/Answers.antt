use Rattle.std.proofs.Common.{refl, sym, subst}
use Rattle.cqs_pool.specs.Calls.{IsMine}
use Rattle.cqs_floor_alone_kinds.proofs.PoolCalls.{grants-comes, pends-comes}
use Rattle.cqs_floor_alone_kinds.proofs.PoolTakes.{pool-grants_at}
use Rattle.cqs_floor_alone_kinds.proofs.PoolWaits.{pool-pends_at}
use Rattle.cqs_floor_alone_kinds.proofs.pool_sole.PoolSole.look.Goals as goal

pub poll-requires-clause-belongs : goal.poll-requires-clause-belongs
poll-requires-clause-belongs c = λ κs.
    subst (λ p. IsMine c.args.self.now.pool p) (sym c.wait_of-token.ensures.same) c.requires.funded.mine

pub returns-in-Pending : goal.returns-in-Pending
returns-in-Pending c =
    let token = c.wait_of-token.result in
    let same = c.wait_of-token.ensures.same in
    pool-pends_at _ _ c.poll.ensures.belongs refl refl c.args.job c.args._round _ _ c.wait_of-token.ensures.place
    (pends-comes _ _ token c.in-Pending.field-0 (rw (same, c.in-Pending.is) at c.poll.ensures.called)
    (rw (same, c.in-Pending.is) at c.poll.ensures.polled))
    (rw (same, c.in-Pending.is) at c.poll.ensures.alone) refl refl

pub returns-in-Granted : goal.returns-in-Granted
returns-in-Granted c =
    let token = c.wait_of-token.result in
    let same = c.wait_of-token.ensures.same in
    rw c.number-number.ensures (pool-grants_at _ _ c.poll.ensures.belongs c.push_reserved.ensures.capacity c.args.job
    c.in-Granted.element c.push_reserved.ensures.items c.args._round _ _ c.wait_of-token.ensures.place refl refl
    c.requires.has.0
    (grants-comes _ _ token c.in-Granted.element (rw (same, c.in-Granted.is) at c.poll.ensures.called)
    (rw (same, c.in-Granted.is) at c.poll.ensures.polled))
    (rw (same, c.in-Granted.is) at c.poll.ensures.alone)
    (rw (same, c.in-Granted.is) at c.poll.ensures.new))
