use Rattle.std.proofs.Common.{◌∙◌, ap, sym, subst}
use Rattle.cqs_mailbox.specs.Mail.{IsDesk, IsPost, made_in}
use Rattle.cqs_mailbox.proofs.MailKeeps.{hires, hired_desk, hired_post, hired_more}
use Rattle.cqs_mailbox.proofs.letters.hire.Goals as goal

pub another-requires-clause-rule : goal.another-requires-clause-rule
another-requires-clause-rule c = hires _ _ c.requires.desk

pub returns-clause-is_desk : goal.returns-clause-is_desk
returns-clause-is_desk c = subst IsDesk (sym c.another.ensures.rule.0) (hired_desk _ c.requires.desk)

pub returns-clause-is_post : goal.returns-clause-is_post
returns-clause-is_post c = subst (IsPost _) (sym c.another.ensures.rule.1) (hired_post _ c.requires.desk)

pub returns-clause-made : goal.returns-clause-made
returns-clause-made c = ap made_in c.another.ensures.rule.0 ∙ hired_more _ c.requires.desk
