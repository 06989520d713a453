use Rattle.cqs_test_queue.proofs.Waiting.{owes-it, owes-nothing-named}
use Rattle.cqs_test_queue.proofs.line.owe.Goals as goal

pub returns-clause-owes : goal.returns-clause-owes
returns-clause-owes g c =
    owes-it _ _ _ c.give_permit.ensures.saw (c.is_for_one.ensures c.if-not-is_for_one.false)

pub returns-clause-payload : goal.returns-clause-payload
returns-clause-payload g c = owes-nothing-named _ _ _ c.give_permit.ensures.saw
