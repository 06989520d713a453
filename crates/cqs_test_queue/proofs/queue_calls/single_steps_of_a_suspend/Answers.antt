use Rattle.cqs_rule_laws.proofs.Places.{known-still}
use Rattle.cqs_test_queue.proofs.Waiting.{took-on}
use Rattle.cqs_test_queue.proofs.queue_calls.single_steps_of_a_suspend.Goals as goal

pub install-requires-clause-place : goal.install-requires-clause-place
install-requires-clause-place g c =
    known-still _ _ c.in-Ok-At.at
    (took-on c.find.new.pass c.take_value.new.pass c.take_value.result _
    c.take_value.ensures.took c.take_value.ensures.missed)
    (rw c.in-Ok-At.field-0-is at c.in-Ok-At.ensures.finds).1
