use Rattle.cqs_mailbox.specs.Mailboxes.{IsDeskOf}
use Rattle.cqs_test_mailbox.specs.Posts.{HasSpare}
use Rattle.cqs_test_mailbox.proofs.many_letters.deliver_all.Given as goal

-- between two letters the desk is that of the mailbox, and the post has the envelope to spare
abbrev pub invariant-loop-number : goal.invariant-loop-number
invariant-loop-number g l =
    record { desk : IsDeskOf l.mailbox l.desk; spare : HasSpare l.mailbox l.envelope l.post }
