use Rattle.std.proofs.Common.{rules}
use Rattle.cqs_test_primitives.proofs.latches.one_of_two_waits_leaves_a_simple_latch.Goals as goal

pub cancel-requires-clause-has : goal.cancel-requires-clause-has
cancel-requires-clause-has g c = λ κs.
    let waited = rw (c.in-Ok-Later.is, c.in-Ok-Later.field-0-is) at c.wait.ensures.waited in
    c.split.ensures.keeps _ waited.2.3
