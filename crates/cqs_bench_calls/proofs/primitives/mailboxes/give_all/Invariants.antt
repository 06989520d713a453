use Rattle.cqs_mailbox.specs.Callers.{IsAtRest}
use Rattle.cqs_bench_calls.proofs.primitives.mailboxes.give_all.Given as goal

-- between two envelopes the post is at rest
abbrev pub invariant-loop : goal.invariant-loop
invariant-loop g l = record { rest : IsAtRest l.mailbox l.sender.post }
