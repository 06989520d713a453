use Rattle.cqs_test_mailbox.specs.Posts.{IsWaiting}
use Rattle.cqs_test_mailbox.proofs.posts.look_on.Given as goal

-- between two looks the wait goes on
abbrev pub invariant-loop : goal.invariant-loop
invariant-loop l = record { waits : IsWaiting l.mailbox l.wait l.post }
