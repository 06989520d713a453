use Rattle.cqs_test_primitives.proofs.PoolHands.{has-new, has-kept}
use Rattle.cqs_test_primitives.proofs.pools.elements.take_beside.Goals as goal

pub returns-clause-has : goal.returns-clause-has
returns-clause-has g c =
    let took = rw c.in-Ok-Took.field-0-is at c.in-Ok-Took.ensures.took in has-new _ _ _ took.1.elements_are

pub returns-clause-kept : goal.returns-clause-kept
returns-clause-kept g c =
    let took = rw c.in-Ok-Took.field-0-is at c.in-Ok-Took.ensures.took in
    has-kept _ _ _ _ took.1.elements_are c.requires.kept
