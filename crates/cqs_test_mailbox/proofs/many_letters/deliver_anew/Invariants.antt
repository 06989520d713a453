use Rattle.cqs_mailbox.specs.Mailboxes.{IsDeskOf}
use Rattle.cqs_test_mailbox.specs.Posts.{IsAtRest}
use Rattle.cqs_test_mailbox.proofs.many_letters.deliver_anew.Given as goal

-- between two letters the desk is that of the mailbox, and the post is at rest
abbrev pub invariant-loop-number : goal.invariant-loop-number
invariant-loop-number g l = record { desk : IsDeskOf l.mailbox l.desk; rest : IsAtRest l.mailbox l.post }
