use Rattle.std.proofs.Common.{arith}
use Rattle.cqs_test_primitives.proofs.BarrierWaits.{later-kept, last-kept, late-kept}
use Rattle.cqs_test_primitives.proofs.barriers.withdrawing.one_pass_arrives_for_three_parties.Goals as goal

pub cancel-requires-2-clause-has : goal.cancel-requires-2-clause-has
cancel-requires-2-clause-has g c = λ κs.
    last-kept _ _ _ (rw c.in-Ok-Last.field-0-is at c.in-Ok-Last.ensures.arrived)
    (later-kept _ _ _ _ (rw c.in-Ok-Later-arrive-2.field-0-is at c.in-Ok-Later-arrive-2.ensures.arrived)
    (rw c.in-Ok-Later-arrive.field-0-is at c.in-Ok-Later-arrive.ensures.arrived).1)

pub poll-requires-clause-has : goal.poll-requires-clause-has
poll-requires-clause-has g c = λ κs.
    late-kept _ _ _ _ c.in-TooLate.ensures.left (λ same. omega arith)
    (last-kept _ _ _ (rw c.in-Ok-Last.field-0-is at c.in-Ok-Last.ensures.arrived)
    (rw c.in-Ok-Later-arrive-2.field-0-is at c.in-Ok-Later-arrive-2.ensures.arrived).1)
