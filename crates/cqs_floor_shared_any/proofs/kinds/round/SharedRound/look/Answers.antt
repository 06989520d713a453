use Rattle.std.proofs.Common.{refl, subst, sym}
use Rattle.std.specs.Arc.{arc_value}
use Rattle.cqs_barrier.specs.Calls.{IsMine}
use Rattle.cqs_barrier.specs.Waits.{wait_in}
use Rattle.cqs_floor_shared_any.proofs.RoundsOne.{looks-pending, looks-through}
use Rattle.cqs_floor_shared_any.proofs.kinds.round.SharedRound.look.Goals as goal

pub poll-requires-clause-belongs : goal.poll-requires-clause-belongs
poll-requires-clause-belongs c κs =
    rw c.deref-2.ensures (subst (λ p. IsMine (arc_value c.args.self.now.barrier) p) (sym c.wait_of-token.ensures.same)
    c.requires.round.mine)

pub returns-in-Pending : goal.returns-in-Pending
returns-in-Pending c =
    looks-pending c.args.self.now _ refl (rw c.deref-2.ensures at c.poll.ensures.belongs) refl
    (wait_in c.wait_of-token.result) _ c.wait_of-token.ensures.place c.requires c.in-Pending.field-0
    (rw (c.wait_of-token.ensures.same, c.in-Pending.is) at c.poll.ensures.called)
    (rw (c.wait_of-token.ensures.same, c.in-Pending.is) at c.poll.ensures.polled)

pub returns-in-Through : goal.returns-in-Through
returns-in-Through c =
    looks-through c.args.self.now _ refl (rw c.deref-2.ensures at c.poll.ensures.belongs) refl
    (wait_in c.wait_of-token.result) _ c.wait_of-token.ensures.place c.requires
    (rw (c.wait_of-token.ensures.same, c.in-Through.is) at c.poll.ensures.called)
    (rw (c.wait_of-token.ensures.same, c.in-Through.is) at c.poll.ensures.polled)
