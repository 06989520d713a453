use Rattle.std.proofs.Common.{sym, subst}
use Rattle.crossbeam_queue.specs.Passes.{view}
use Rattle.cqs_mailbox.specs.Mail.{IsDesk, WereMade}
use Rattle.cqs_mailbox.proofs.MailKeeps.{meets, compares, desk_met, low_met}
use Rattle.cqs_mailbox.proofs.letters.join.Goals as goal

pub absorb-requires-clause-rule : goal.absorb-requires-clause-rule
absorb-requires-clause-rule c = meets _ _ _ _ _ c.requires.desk c.requires.post

pub learn_as-requires-clause-rule : goal.learn_as-requires-clause-rule
learn_as-requires-clause-rule c =
    let desk : IsDesk (view c.absorb.new.pass) =
    rw c.absorb.ensures.rule (desk_met _ _ _ c.requires.desk c.requires.post) in
    compares _ _ desk

pub returns-clause-in_order : goal.returns-clause-in_order
returns-clause-in_order c = rw c.learn_as.ensures.queue.1 c.learn_as.ensures.rule.1.0

pub returns-clause-low : goal.returns-clause-low
returns-clause-low c =
    low_met _ _ _ c.requires.desk c.requires.post (subst WereMade c.absorb.ensures.rule c.learn_as.ensures.rule.1.1)

pub returns-clause-is_desk : goal.returns-clause-is_desk
returns-clause-is_desk c =
    rw c.learn_as.ensures.queue.1 (subst IsDesk (sym c.absorb.ensures.rule)
    (desk_met _ _ _ c.requires.desk c.requires.post))
