use Rattle.cqs_test_primitives.proofs.BarrierWaits.{last-kept}
use Rattle.cqs_test_primitives.proofs.barriers.withdrawing.one_of_two_parties_withdraws.Goals as goal

pub poll-requires-clause-has : goal.poll-requires-clause-has
poll-requires-clause-has g c = λ κs.
    last-kept _ _ _ (rw c.in-Ok-Last.field-0-is at c.in-Ok-Last.ensures.arrived)
    (rw c.in-Ok-Later-arrive.field-0-is at c.in-Ok-Later-arrive.ensures.arrived).1
