use Rattle.std.proofs.Common.{refl, sym, subst}
use Rattle.std.specs.Arc.{arc_value}
use Rattle.cqs_latch.specs.Calls.{IsMine}
use Rattle.cqs_floor_shared_any.proofs.LatchShares.{looks-on, looks-through}
use Rattle.cqs_floor_shared_any.proofs.kinds.latch.SharedLatch.look.Goals as goal

pub poll-requires-clause-belongs : goal.poll-requires-clause-belongs
poll-requires-clause-belongs c κs =
    rw c.deref-2.ensures (subst (λ p. IsMine (arc_value c.args.self.now.latch) p) (sym c.wait_of-token.ensures.same)
    c.requires.funded.mine)

pub returns-in-Pending : goal.returns-in-Pending
returns-in-Pending c =
    looks-on _ _ refl (rw c.deref-2.ensures at c.poll.ensures.belongs) _ c.wait_of-token.result _
    c.wait_of-token.ensures.place c.requires.has.0 c.requires.has.1.open_yet refl c.args.job c.in-Pending.field-0
    (rw (c.wait_of-token.ensures.same, c.in-Pending.is) at c.poll.ensures.called)
    (rw (c.wait_of-token.ensures.same, c.in-Pending.is) at c.poll.ensures.polled)

pub returns-in-Through : goal.returns-in-Through
returns-in-Through c =
    looks-through _ _ refl (rw c.deref-2.ensures at c.poll.ensures.belongs) _ c.wait_of-token.result _
    c.wait_of-token.ensures.place c.requires.has.0 c.requires.has.1.open_yet refl c.args.job
    (rw (c.wait_of-token.ensures.same, c.in-Through.is) at c.poll.ensures.called)
    (rw (c.wait_of-token.ensures.same, c.in-Through.is) at c.poll.ensures.polled)
