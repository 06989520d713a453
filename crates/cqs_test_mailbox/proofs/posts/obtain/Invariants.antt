use Rattle.cqs_test_mailbox.specs.Posts.{IsAtRest}
use Rattle.cqs_test_mailbox.proofs.posts.obtain.Given as goal

-- between two attempts the post is at rest
abbrev pub invariant-loop : goal.invariant-loop
invariant-loop g l = record { rest : IsAtRest l.mailbox l.post }
