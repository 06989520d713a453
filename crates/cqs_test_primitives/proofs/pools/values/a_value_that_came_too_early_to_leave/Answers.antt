use Rattle.cqs_test_primitives.proofs.PoolWaits.{wait-sent}
use Rattle.cqs_test_primitives.proofs.pools.values.a_value_that_came_too_early_to_leave.Goals as goal

pub cancel-requires-clause-has : goal.cancel-requires-clause-has
cancel-requires-clause-has g c κs =
    wait-sent _ _ _ _ _ _ (rw c.in-Ok-Sent.field-0-is at c.in-Ok-Sent.ensures.put)
    (rw c.in-Ok-Later.field-0-is at c.in-Ok-Later.ensures.leaves).0
