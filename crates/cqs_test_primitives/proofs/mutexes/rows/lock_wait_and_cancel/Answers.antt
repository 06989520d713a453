use Rattle.cqs_test_primitives.proofs.MutexWaits.{wait-busy, wait-sent}
use Rattle.cqs_test_primitives.proofs.mutexes.rows.lock_wait_and_cancel.Goals as goal

pub cancel-requires-clause-has : goal.cancel-requires-clause-has
cancel-requires-clause-has g c κs =
    wait-sent _ _ _ _ _ (rw c.in-Ok-Sent.field-0-is at c.in-Ok-Sent.ensures.unlocked)
    (wait-busy _ _ _ c.in-Busy.ensures.tried (rw c.in-Ok-Later.field-0-is at c.in-Ok-Later.ensures.holds))
