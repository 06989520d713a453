use Rattle.std.proofs.Common.{All}
use Rattle.cqs_mailbox.specs.Callers.{IsAtRest}
use Rattle.cqs_mailbox.specs.Mailboxes.{IsDeskOf}
use Rattle.cqs_bench_calls.proofs.primitives.mailboxes.hire.Given as goal

-- the posts that were made so far are at rest
abbrev pub invariant-loop : goal.invariant-loop
invariant-loop l = IsDeskOf l.mailbox l.desk × All (IsAtRest l.mailbox) l.posts.items
