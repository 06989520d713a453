use Rattle.std.proofs.Common.{rules}
use Rattle.cqs_test_primitives.proofs.latches.who_waits_while_one_pass_opens_a_latch_is_too_late_to_leave.Goals as goal

pub cancel-requires-clause-has : goal.cancel-requires-clause-has
cancel-requires-clause-has g c = λ κs.
    let waited = rw (c.in-Ok-Later.is, c.in-Ok-Later.field-0-is) at c.wait.ensures.waited in
    c.count_down.ensures.keeps _ waited.2.3
