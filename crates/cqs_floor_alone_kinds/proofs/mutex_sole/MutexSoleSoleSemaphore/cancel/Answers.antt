use Rattle.std.proofs.Common.{Option, refl, ap, sym, subst, ◌∙◌, length}
use Rattle.std.proofs.lemmas.List.{length_push}
use Rattle.cqs_rule.specs.declared.queue.tokens.Under.{Under}
use Rattle.cqs_semaphore.specs.declared.answers.CancelAnswer.TheVariants.{Cancelled}
use Rattle.cqs_semaphore.specs.Alone.{HandsNone}
use Rattle.cqs_mutex.specs.Mutexes.{Belongs}
use Rattle.cqs_floor_alone_kinds.proofs.MutexSole.{cancelled-here, mutex-lates, mutex-leaves}
use Rattle.cqs_floor_alone_kinds.proofs.QueueSends.{left-now}
use Rattle.cqs_floor_alone_kinds.proofs.mutex_sole.MutexSoleSoleSemaphore.cancel.Goals as goal

pub cancel-requires-clause-belongs : goal.cancel-requires-clause-belongs
cancel-requires-clause-belongs c = λ κs.
    subst (λ p. Belongs c.args.self.now.mutex p) (sym c.wait_of-token.ensures.same) c.requires.funded.mine

pub returns-in-TooLate : goal.returns-in-TooLate
returns-in-TooLate c =
    mutex-lates _ _ c.cancel.ensures.belongs c.push_reserved.ensures.capacity c.wait_of-token.result _
    c.wait_of-token.ensures.place c.in-TooLate.guard
    (rw (c.wait_of-token.ensures.same, c.in-TooLate.is) at c.cancel.ensures.left)
    (ap (λ ps. length ps) c.push_reserved.ensures.items ∙ length_push _ _)

pub unreachable-requires : goal.unreachable-requires
unreachable-requires c =
    subst (λ (u : Option Under). HandsNone (Cancelled u)) c.in-Cancelled-Some.field-0-is
    ((rw (c.wait_of-token.ensures.same, c.in-Cancelled-Some.is) at c.cancel.ensures.left).hands_none
    c.requires.funded.rests.alone)

pub returns-in-Cancelled-None : goal.returns-in-Cancelled-None
returns-in-Cancelled-None c =
    mutex-leaves _ _ c.cancel.ensures.belongs refl c.wait_of-token.result _ c.wait_of-token.ensures.place refl
    c.in-Cancelled-None.field-0 _ (rw (c.wait_of-token.ensures.same, c.in-Cancelled-None.is) at c.cancel.ensures.left)
    (λ alone still. left-now _ _ _ alone still _ c.in-Cancelled-None.field-0-is
    (cancelled-here _ _ _ _ (rw (c.wait_of-token.ensures.same, c.in-Cancelled-None.is) at c.cancel.ensures.left)))
