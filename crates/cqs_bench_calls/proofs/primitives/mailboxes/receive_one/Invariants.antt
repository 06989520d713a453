use Rattle.cqs_mailbox.specs.Mailboxes.{IsDeskOf}
use Rattle.cqs_bench_calls.proofs.primitives.mailboxes.receive_one.Given as goal

-- between two looks the desk is that of the mailbox
abbrev pub invariant-loop : goal.invariant-loop
invariant-loop g l = record { desk : IsDeskOf l.mailbox l.desk }
