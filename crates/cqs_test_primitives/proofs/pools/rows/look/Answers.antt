use Rattle.cqs_test_primitives.proofs.PoolHands.{has-new}
use Rattle.cqs_test_primitives.proofs.pools.rows.look.Goals as goal

pub returns-clause-has : goal.returns-clause-has
returns-clause-has g c =
    has-new _ _ _ c.in-Granted.ensures.polled.2.elements_are
