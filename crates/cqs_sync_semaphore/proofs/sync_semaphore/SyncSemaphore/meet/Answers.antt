use Rattle.cqs_semaphore_client.specs.Semaphore.{semaphore_object}
use Rattle.cqs_rule_laws.proofs.Courses.{course-met, on-ok}
use Rattle.cqs_sync_semaphore.proofs.sync_semaphore.SyncSemaphore.meet.Goals as goal

pub returns-clause-course : goal.returns-clause-course
returns-clause-course g c =
    on-ok (λ met. course-met semaphore_object _ _ _ _ _ _ met c.meet.ensures.belongs.live.legal) c.meet.result
    c.meet.ensures.met
