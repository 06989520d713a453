use Rattle.std.proofs.Common.{refl, ap, sym, subst, ◌∙◌, length}
use Rattle.std.proofs.lemmas.List.{length_push}
use Rattle.cqs_semaphore.specs.Calls.{IsMine}
use Rattle.cqs_floor_alone_kinds.proofs.QueueSole.{queue-grants, queue-pends}
use Rattle.cqs_floor_alone_kinds.proofs.queue_sole.QueueSoleSoleSemaphore.poll.Goals as goal

pub poll-requires-clause-belongs : goal.poll-requires-clause-belongs
poll-requires-clause-belongs c = λ κs.
    subst (λ p. IsMine c.args.self.now.semaphore p) (sym c.wait_of-token.ensures.same) c.requires.funded.mine

pub returns-in-Granted : goal.returns-in-Granted
returns-in-Granted c =
    queue-grants _ _ c.poll.ensures.belongs c.push_reserved.ensures.capacity c.wait_of-token.result _
    c.wait_of-token.ensures.place c.in-Granted.permit
    (rw (c.wait_of-token.ensures.same, c.in-Granted.is) at c.poll.ensures.called)
    (rw (c.wait_of-token.ensures.same, c.in-Granted.is) at c.poll.ensures.polled)
    (rw (c.wait_of-token.ensures.same, c.in-Granted.is) at c.poll.ensures.alone)
    (ap (λ ps. length ps) c.push_reserved.ensures.items ∙ length_push _ _)

pub returns-in-Pending : goal.returns-in-Pending
returns-in-Pending c =
    queue-pends _ _ c.poll.ensures.belongs refl c.wait_of-token.result _ c.wait_of-token.ensures.place refl
    c.in-Pending.field-0
    (rw (c.wait_of-token.ensures.same, c.in-Pending.is) at c.poll.ensures.called)
    (rw (c.wait_of-token.ensures.same, c.in-Pending.is) at c.poll.ensures.polled)
    (rw (c.wait_of-token.ensures.same, c.in-Pending.is) at c.poll.ensures.alone)
