use Rattle.std.proofs.Common.{Option, refl, ap, sym, subst, ◌∙◌, length}
use Rattle.std.proofs.lemmas.List.{length_push}
use Rattle.cqs_rule.specs.declared.queue.tokens.Under.{Under}
use Rattle.cqs_semaphore.specs.declared.answers.CancelAnswer.TheVariants.{Cancelled}
use Rattle.cqs_semaphore.specs.Alone.{HandsNone}
use Rattle.cqs_semaphore.specs.Calls.{IsMine}
use Rattle.cqs_floor_alone_kinds.proofs.QueueSole.{queue-lates, queue-leaves}
use Rattle.cqs_floor_alone_kinds.proofs.QueueSends.{left-now}
use Rattle.cqs_floor_alone_kinds.proofs.queue_sole.QueueSoleSoleSemaphore.cancel.Goals as goal

pub cancel-requires-clause-belongs : goal.cancel-requires-clause-belongs
cancel-requires-clause-belongs c = λ κs.
    subst (λ p. IsMine c.args.self.now.semaphore p) (sym c.wait_of-token.ensures.same) c.requires.funded.mine

pub returns-in-TooLate : goal.returns-in-TooLate
returns-in-TooLate c =
    queue-lates _ _ c.cancel.ensures.belongs c.push_reserved.ensures.capacity c.wait_of-token.result _
    c.wait_of-token.ensures.place c.in-TooLate.permit
    (rw (c.wait_of-token.ensures.same, c.in-TooLate.is) at c.cancel.ensures.cancelled)
    (rw (c.wait_of-token.ensures.same, c.in-TooLate.is) at c.cancel.ensures.alone)
    (ap (λ ps. length ps) c.push_reserved.ensures.items ∙ length_push _ _)

pub unreachable-requires : goal.unreachable-requires
unreachable-requires c =
    subst (λ (u : Option Under). HandsNone (Cancelled u)) c.in-Cancelled-Some.field-0-is
    ((rw (c.wait_of-token.ensures.same, c.in-Cancelled-Some.is) at c.cancel.ensures.alone_hands_none)
    c.requires.funded.rests.alone)

pub returns-in-Cancelled-None : goal.returns-in-Cancelled-None
returns-in-Cancelled-None c =
    queue-leaves _ _ c.cancel.ensures.belongs refl c.wait_of-token.result _ c.wait_of-token.ensures.place refl
    c.in-Cancelled-None.field-0 (rw (c.wait_of-token.ensures.same, c.in-Cancelled-None.is) at c.cancel.ensures.alone)
    (λ alone still. left-now _ _ _ alone still _ c.in-Cancelled-None.field-0-is
    (rw (c.wait_of-token.ensures.same, c.in-Cancelled-None.is) at c.cancel.ensures.cancelled))
