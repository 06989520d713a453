use Rattle.std.proofs.Common.{rules}
use Rattle.cqs_test_primitives.proofs.latches.an_opening_passes_over_150_who_left.Goals as goal

pub poll-requires-clause-has : goal.poll-requires-clause-has
poll-requires-clause-has g c = λ κs.
    let waited = rw (c.in-Ok-Later.is, c.in-Ok-Later.field-0-is) at c.wait.ensures.waited in
    c.count_down.ensures.keeps _ waited.2.3
