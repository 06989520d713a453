use Rattle.cqs_test_primitives.proofs.PoolWaits.{wait-sent}
use Rattle.cqs_test_primitives.proofs.pools.values.a_value_goes_to_the_first_who_waits.Goals as goal

pub poll-requires-2-clause-has : goal.poll-requires-2-clause-has
poll-requires-2-clause-has g c κs =
    wait-sent _ _ _ _ _ _ (rw c.in-Ok-Sent.field-0-is at c.in-Ok-Sent.ensures.put) c.in-Pending.ensures.leaves.1
