use Rattle.cqs_mailbox.specs.Callers.{IsAtRest}
use Rattle.cqs_mailbox.specs.Mailboxes.{IsDeskOf}
use Rattle.cqs_bench_calls.proofs.primitives.mailboxes.free_rounds.Given as goal

-- between two rounds the post is at rest
abbrev pub invariant-loop : goal.invariant-loop
invariant-loop g l = record { desk : IsDeskOf l.mailbox l.desk; rest : IsAtRest l.mailbox l.post }
