use Rattle.cqs_rule_laws.proofs.Places.{known-still}
use Rattle.cqs_test_queue.proofs.Waiting.{left-on}
use Rattle.cqs_test_queue.proofs.queue_calls.single_steps_of_a_resume.Goals as goal

pub serve-requires-clause-place : goal.serve-requires-clause-place
serve-requires-clause-place g c =
    known-still _ _ c.in-Ok-At.at
    (left-on c.find.new.pass c.leave_value.new.pass c.leave_value.result _
    c.leave_value.ensures.made c.leave_value.ensures.missed)
    (rw c.in-Ok-At.field-0-is at c.in-Ok-At.ensures.finds).1
