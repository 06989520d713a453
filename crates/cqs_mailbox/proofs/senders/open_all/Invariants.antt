use Rattle.std.proofs.Common.{◌≡◌, length}
use Rattle.cqs_mailbox.specs.Senders.{AreForSenders}
use Rattle.cqs_mailbox.proofs.senders.open_all.Given as goal

-- so many queues stand, each with the desk's pass of it
abbrev pub invariant-loop-sender : goal.invariant-loop-sender
invariant-loop-sender l = record {
  long : length l.replies.items ≡ l._sender;
  each : AreForSenders l.room 0 l.replies.items l.desks.items;
}
