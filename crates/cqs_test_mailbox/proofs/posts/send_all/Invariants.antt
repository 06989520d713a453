use Rattle.cqs_test_mailbox.specs.Posts.{IsAtRest}
use Rattle.cqs_test_mailbox.proofs.posts.send_all.Given as goal

-- between two letters the post is at rest
abbrev pub invariant-loop-word : goal.invariant-loop-word
invariant-loop-word g l = record { rest : IsAtRest l.mailbox l.post }
