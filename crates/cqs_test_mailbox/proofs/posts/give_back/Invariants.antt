use Rattle.cqs_test_mailbox.specs.Posts.{HasSpare}
use Rattle.cqs_test_mailbox.proofs.posts.give_back.Given as goal

-- between two tries the post has the envelope to spare
abbrev pub invariant-loop : goal.invariant-loop
invariant-loop g l = record { spare : HasSpare l.mailbox l.envelope l.post }
