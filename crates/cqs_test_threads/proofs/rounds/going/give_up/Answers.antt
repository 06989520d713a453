use Rattle.cqs_test_threads.proofs.Goes.{cancel-withdrawn, cancel-late, cancel-contended}
use Rattle.cqs_test_threads.proofs.rounds.going.give_up.Goals as goal

pub returns-in-Withdrawn-clause-comes : goal.returns-in-Withdrawn-clause-comes
returns-in-Withdrawn-clause-comes c = cancel-withdrawn _ _ _ _ c.requires.waits c.in-Withdrawn.ensures.left

pub returns-in-TooLate-clause-comes : goal.returns-in-TooLate-clause-comes
returns-in-TooLate-clause-comes c = cancel-late _ _ _ _ c.requires.waits c.in-TooLate.ensures.left

pub leave_on-requires-clause-leaves : goal.leave_on-requires-clause-leaves
leave_on-requires-clause-leaves c = (cancel-contended _ _ _ _ _ _ c.requires.waits c.in-Contended.ensures.left).0
