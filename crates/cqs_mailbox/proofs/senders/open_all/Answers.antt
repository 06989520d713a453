use Rattle.std.proofs.Common.{ap, length, arith}
use Rattle.std.proofs.lemmas.List.{length_push}
use Rattle.cqs_mailbox.proofs.SendersKeep.{senders-none, senders-push}
use Rattle.cqs_mailbox.proofs.senders.open_all.Goals as goal

pub loop-sender-init : goal.loop-sender-init
loop-sender-init c = record {
  long = ap length c.new-replies.ensures.items;
  each = senders-none _ _ _ c.new-replies.ensures.items c.new-desks.ensures.items;
}

pub returns-clause-many : goal.returns-clause-many
returns-clause-many c = let long = c.loop-sender.invariant.long in omega arith

pub returns-clause-each : goal.returns-clause-each
returns-clause-each c = c.loop-sender.invariant.each

pub loop-sender-preserved : goal.loop-sender-preserved
loop-sender-preserved c =
    let long = c.loop-sender.invariant.long in
    record {
      long = rw c.in_ok-push.ensures.items
          (omega (arith, length_push c.loop-sender.replies.items c.in_ok-queue.queue, long));
      each = rw (c.in_ok-push.ensures.items, c.in_ok-push-2.ensures.items)
          (senders-push _ _ _ _ _ c.loop-sender.invariant.each c.in_ok-queue.ensures.room
          c.in_ok-queue.ensures.belongs c.in_ok-queue.ensures.knows);
    }
