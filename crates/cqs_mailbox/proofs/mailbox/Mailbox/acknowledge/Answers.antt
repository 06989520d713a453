use Rattle.std.proofs.Common.{refl, ap, arith}
use Rattle.cqs_mailbox.specs.Tallies.{given_in}
use Rattle.cqs_mailbox.proofs.DeskKeeps.{due-given, due-kept}
use Rattle.cqs_mailbox.proofs.DesksKept.{low-sender, queue-at, pass-at, desk-set}
use Rattle.cqs_mailbox.proofs.SendersKeep.{called-for, senders-set}
use Rattle.cqs_mailbox.proofs.mailbox.Mailbox.acknowledge.Goals as goal

pub index-requires : goal.index-requires
index-requires g c = let low = low-sender _ _ _ c.requires.belongs c.requires.due.made in omega (arith, low)

pub index_mut-requires : goal.index_mut-requires
index_mut-requires g c =
    let many = c.requires.belongs.replies.many in
    let low = low-sender _ _ _ c.requires.belongs c.requires.due.made in
    omega (arith, many, low)

pub give-requires-clause-queue : goal.give-requires-clause-queue
give-requires-clause-queue g c =
    let b = c.requires.belongs in
    let low = low-sender _ _ _ b c.requires.due.made in
    (b.replies.each _ _ _ (queue-at _ _ _ low c.index.ensures) (pass-at _ _ _ _ b low c.index_mut.ensures.value)).pass

pub give-requires-clause-desk : goal.give-requires-clause-desk
give-requires-clause-desk g c =
    let b = c.requires.belongs in
    let low = low-sender _ _ _ b c.requires.due.made in
    (b.replies.each _ _ _ (queue-at _ _ _ low c.index.ensures) (pass-at _ _ _ _ b low c.index_mut.ensures.value)).desk

pub returns-in-Ok-clause-belongs : goal.returns-in-Ok-clause-belongs
returns-in-Ok-clause-belongs g c =
    let b = c.requires.belongs in
    let low = low-sender _ _ _ b c.requires.due.made in
    let which = queue-at _ _ _ low c.index.ensures in
    let there = pass-at _ _ _ _ b low c.index_mut.ensures.value in
    let desk = (b.replies.each _ _ _ which there).desk in
    desk-set _ _ _ b refl refl refl refl
    (senders-set _ _ _ _ _ _ _ _ _ b.replies (omega arith) which there c.give.ensures.queue c.give.ensures.is_desk
    c.requires.due.made)
    (due-given _ _ _ _ _ there desk c.in-Ok.ensures.gave c.requires.due.more b.due)

pub returns-in-Err-clause-belongs : goal.returns-in-Err-clause-belongs
returns-in-Err-clause-belongs g c =
    let b = c.requires.belongs in
    let low = low-sender _ _ _ b c.requires.due.made in
    let which = queue-at _ _ _ low c.index.ensures in
    let there = pass-at _ _ _ _ b low c.index_mut.ensures.value in
    desk-set _ _ _ b refl refl refl refl
    (senders-set _ _ _ _ _ _ _ _ _ b.replies (omega arith) which there c.give.ensures.queue c.give.ensures.is_desk
    c.requires.due.made)
    (λ s. due-kept _ s _ _ _ _ there (ap given_in c.in-Err.ensures.gave.0) (b.due s))

pub returns-in-Ok-clause-acknowledged : goal.returns-in-Ok-clause-acknowledged
returns-in-Ok-clause-acknowledged g c =
    let b = c.requires.belongs in
    let low = low-sender _ _ _ b c.requires.due.made in
    called-for _ _ _ _ _ (pass-at _ _ _ _ b low c.index_mut.ensures.value) c.in-Ok.ensures.gave

pub returns-in-Err-clause-acknowledged : goal.returns-in-Err-clause-acknowledged
returns-in-Err-clause-acknowledged g c =
    let b = c.requires.belongs in
    let low = low-sender _ _ _ b c.requires.due.made in
    let at = pass-at _ _ _ _ b low c.index_mut.ensures.value in
    let room = (b.replies.each _ _ _ (queue-at _ _ _ low c.index.ensures) at).room_is in
    called-for _ _ _ _ _ at (c.in-Err.ensures.gave.0, rw room at c.in-Err.ensures.gave.1)
