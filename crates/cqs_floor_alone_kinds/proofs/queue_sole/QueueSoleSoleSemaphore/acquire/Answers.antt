use Rattle.std.proofs.Common.{Ok, refl, ap, sym, subst, ◌∙◌, length}
use Rattle.std.proofs.lemmas.List.{length_push}
use Rattle.cqs_rule.specs.Passes.{pass_view}
use Rattle.cqs_semaphore.specs.declared.answers.Acquired.TheVariants.{Later}
use Rattle.cqs_semaphore.specs.Answers.{Acquires}
use Rattle.cqs_semaphore.specs.Calls.{CallRule, IsMine}
use Rattle.cqs_semaphore.specs.Entries.{acquired_entries, acquired_further}
use Rattle.cqs_floor_alone_kinds.proofs.QueueSole.{queue-takes, queue-waits}
use Rattle.cqs_floor_alone_kinds.proofs.queue_sole.QueueSoleSoleSemaphore.acquire.Goals as goal

pub spend_wait-requires-clause-belongs : goal.spend_wait-requires-clause-belongs
spend_wait-requires-clause-belongs c = rw c.queue.ensures c.in-Ok-Later.ensures.belongs

pub returns-in-Ok-Now : goal.returns-in-Ok-Now
returns-in-Ok-Now c =
    queue-takes _ _ c.in-Ok-Now.ensures.belongs c.push_reserved.ensures.capacity c.in-Ok-Now.permit
    (rw c.in-Ok-Now.field-0-is at c.in-Ok-Now.ensures.called)
    (rw c.in-Ok-Now.field-0-is at c.in-Ok-Now.ensures.acquired)
    (rw c.in-Ok-Now.field-0-is at c.in-Ok-Now.ensures.alone)
    (ap (λ ps. length ps) c.push_reserved.ensures.items ∙ length_push _ _)

pub returns-in-Ok-Later : goal.returns-in-Ok-Later
returns-in-Ok-Later c =
    let rule = rw c.in-Ok-Later.field-0-is at c.in-Ok-Later.ensures.called in
    let got = rw c.in-Ok-Later.field-0-is at c.in-Ok-Later.ensures.acquired in
    let next = sym c.spend_wait.ensures.same in
    let v = pass_view c.args.self.now.pass in
    let wait = c.in-Ok-Later.wait in
    queue-waits _ _ (subst (λ p. IsMine c.args.self.now.semaphore p) next c.in-Ok-Later.ensures.belongs) refl wait _
    c.spend_wait.ensures.place
    (subst (λ p. CallRule v (acquired_entries v.number (Ok (Later wait))) (acquired_further (Ok (Later wait)))
    (pass_view p)) next rule)
    (subst (λ p. Acquires v (Later wait) (pass_view p)) next got)
    (rw c.in-Ok-Later.field-0-is at c.in-Ok-Later.ensures.alone) refl
