use Rattle.cqs_test_primitives.proofs.PoolHands.{has-left}
use Rattle.cqs_test_primitives.proofs.pools.elements.free_beside.Goals as goal

pub returns-clause-kept : goal.returns-clause-kept
returns-clause-kept g c =
    let ends = rw c.in-Ok-Left.field-0-is at c.in-Ok-Left.ensures.ends in
    has-left _ _ _ _ ends.1.elements_are c.requires.apart c.requires.kept
