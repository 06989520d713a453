use Rattle.cqs_test_mailbox.specs.Posts.{IsAtRest}
use Rattle.cqs_test_mailbox.proofs.crowded.wait_often.Given as goal

-- between two waits the post owes nothing
abbrev pub invariant-loop-before : goal.invariant-loop-before
invariant-loop-before g l = record { rest : IsAtRest l.mailbox l.post }
