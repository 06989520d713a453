use Rattle.cqs_test_primitives.proofs.PoolHands.{has-new}
use Rattle.cqs_test_primitives.proofs.pools.calls.take_now.Goals as goal

pub returns-clause-has : goal.returns-clause-has
returns-clause-has g c =
    let took = rw c.in-Ok-Took.field-0-is at c.in-Ok-Took.ensures.took in has-new _ _ _ took.1.elements_are
