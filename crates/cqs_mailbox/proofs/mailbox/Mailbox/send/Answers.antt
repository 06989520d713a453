use Rattle.std.proofs.Common.{refl, arith}
use Rattle.cqs_mailbox.proofs.PostsKeep.{out-space, sent-kept, unsent-kept}
use Rattle.cqs_mailbox.proofs.mailbox.Mailbox.send.Goals as goal

pub push_back_reserved-requires : goal.push_back_reserved-requires
push_back_reserved-requires g c = out-space _ _ _ c.requires.belongs c.requires.spare

pub returns-in-Ok-clause-belongs : goal.returns-in-Ok-clause-belongs
returns-in-Ok-clause-belongs g c =
    let next = c.requires.belongs.next in
    let count = c.in-Ok.ensures.count in
    sent-kept _ _ _ c.args.envelope c.requires.belongs c.requires.spare refl refl refl c.put.ensures.queue
    c.put.ensures.is_post (omega (arith, next, count)) c.push_back_reserved.ensures.items
    c.push_back_reserved.ensures.capacity

pub returns-in-Ok-clause-sent : goal.returns-in-Ok-clause-sent
returns-in-Ok-clause-sent g c = record {
  number = c.requires.belongs.next;
  letter = c.in-Ok.ensures.put;
  out = c.push_back_reserved.ensures.items;
  replies = refl;
}

pub returns-in-Err-clause-belongs : goal.returns-in-Err-clause-belongs
returns-in-Err-clause-belongs g c =
    unsent-kept _ _ _ c.requires.belongs refl refl refl refl refl c.put.ensures.queue c.put.ensures.is_post
    c.in-Err.ensures.put.1

pub returns-in-Err-clause-sent : goal.returns-in-Err-clause-sent
returns-in-Err-clause-sent g c = (
  refl,
  record {
    found = rw c.requires.belongs.mailbox.room_is at c.in-Err.ensures.put.2;
    letters = c.in-Err.ensures.put.1;
    out = refl;
    replies = refl;
  },
)
