use Rattle.cqs_mailbox.specs.Callers.{IsWaiting}
use Rattle.cqs_bench_calls.proofs.primitives.mailboxes.look_on.Given as goal

-- between two looks the wait goes on
abbrev pub invariant-loop : goal.invariant-loop
invariant-loop g l = record { waits : IsWaiting l.mailbox l.wait l.sender.post }
