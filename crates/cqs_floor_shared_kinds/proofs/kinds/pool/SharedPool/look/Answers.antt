use Rattle.std.proofs.Common.{◌<◌, vec_capacity, refl, sym, subst}
use Rattle.std.specs.Arc.{arc_value}
use Rattle.cqs_pool.specs.Calls.{IsMine}
use Rattle.cqs_pool.specs.Elements.{number_of}
use Rattle.cqs_rule.specs.Passes.{pass_view}
use Rattle.cqs_floor_shared_kinds.proofs.PoolShares.{pool-granted, pool-looks, room-for-wait}
use Rattle.cqs_floor_shared_kinds.proofs.kinds.pool.SharedPool.look.Goals as goal

pub poll-requires-clause-belongs : goal.poll-requires-clause-belongs
poll-requires-clause-belongs c κs =
    rw c.deref-2.ensures (subst (λ p. IsMine (arc_value c.args.self.now.pool) p) (sym c.wait_of-token.ensures.same)
    c.requires.funded.mine)

pub push_reserved-requires : goal.push_reserved-requires
push_reserved-requires c =
    let rule = rw (c.wait_of-token.ensures.same, c.in-Granted.is) at c.poll.ensures.called in
    let polled = rw (c.wait_of-token.ensures.same, c.in-Granted.is) at c.poll.ensures.polled in
    subst (λ n. n < vec_capacity c.args.self.now.held) (sym c.args.self.now.held.ok.0)
    (room-for-wait c.args.self.now c.requires.a (pass_view c.poll.new.pass) (number_of c.in-Granted.element)
    c.requires.funded rule.called.same.opening c.poll.ensures.belongs.live.known polled.2.elements_are)

pub returns-in-Pending : goal.returns-in-Pending
returns-in-Pending c =
    let polled = rw (c.wait_of-token.ensures.same, c.in-Pending.is) at c.poll.ensures.polled in
    pool-looks _ _ refl (rw c.deref-2.ensures at c.poll.ensures.belongs) refl _ c.wait_of-token.result _
    c.wait_of-token.ensures.place c.requires.has.0 c.requires.has.1.open_yet refl c.args.job
    (rw (c.wait_of-token.ensures.same, c.in-Pending.is) at c.poll.ensures.called) polled.3

pub returns-in-Granted : goal.returns-in-Granted
returns-in-Granted c =
    let polled = rw (c.wait_of-token.ensures.same, c.in-Granted.is) at c.poll.ensures.polled in
    rw c.number-number.ensures (pool-granted _ _ refl (rw c.deref-2.ensures at c.poll.ensures.belongs)
    c.push_reserved.ensures.capacity _ c.wait_of-token.result _
    c.wait_of-token.ensures.place c.requires.has.0 c.requires.has.1.open_yet c.args.job c.in-Granted.element
    c.push_reserved.ensures.items polled.2
    (rw (c.wait_of-token.ensures.same, c.in-Granted.is) at c.poll.ensures.called))
