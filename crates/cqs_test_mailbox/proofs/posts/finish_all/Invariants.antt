use Rattle.cqs_test_mailbox.specs.Posts.{IsOwing}
use Rattle.cqs_test_mailbox.proofs.posts.finish_all.Given as goal

-- between two calls the envelope is still on its way
abbrev pub invariant-loop : goal.invariant-loop
invariant-loop g l = record { owing : IsOwing l.mailbox l.under l.post }
