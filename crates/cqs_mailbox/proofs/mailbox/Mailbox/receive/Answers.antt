use Rattle.std.proofs.Common.{refl}
use Rattle.cqs_mailbox.proofs.DeskKeeps.{posts-after}
use Rattle.cqs_mailbox.proofs.DesksKept.{received-kept, received-due}
use Rattle.cqs_mailbox.proofs.mailbox.Mailbox.receive.Goals as goal

pub returns-in-Some-clause-belongs : goal.returns-in-Some-clause-belongs
returns-in-Some-clause-belongs g c =
    received-kept _ _ _ _ c.take.result c.requires.belongs refl refl refl refl c.take.ensures.queue
    c.take.ensures.is_desk c.take.ensures.took

pub returns-in-None-clause-belongs : goal.returns-in-None-clause-belongs
returns-in-None-clause-belongs g c =
    received-kept _ _ _ _ c.take.result c.requires.belongs refl refl refl refl c.take.ensures.queue
    c.take.ensures.is_desk c.take.ensures.took

pub returns-in-Some-clause-posts : goal.returns-in-Some-clause-posts
returns-in-Some-clause-posts g c = posts-after _ _ _ c.take.result c.take.ensures.took

pub returns-in-None-clause-posts : goal.returns-in-None-clause-posts
returns-in-None-clause-posts g c = posts-after _ _ _ c.take.result c.take.ensures.took

pub returns-in-Some-clause-due : goal.returns-in-Some-clause-due
returns-in-Some-clause-due g c = received-due _ _ _ _ c.requires.belongs refl c.in-Some.ensures.took
