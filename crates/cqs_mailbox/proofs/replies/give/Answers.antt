use Rattle.cqs_mailbox.proofs.TallyKeeps.{gives, learns, give_told, give_desk}
use Rattle.cqs_mailbox.proofs.replies.give.Goals as goal

pub push_as-requires-clause-rule : goal.push_as-requires-clause-rule
push_as-requires-clause-rule g c = (gives _ _ _ _ c.requires.desk, learns _ _ c.requires.desk)

pub returns-clause-gave : goal.returns-clause-gave
returns-clause-gave g c = give_told _ _ _ _ _ c.push_as.ensures.rule

pub returns-clause-is_desk : goal.returns-clause-is_desk
returns-clause-is_desk g c = give_desk _ _ _ _ _ c.requires.desk c.push_as.ensures.rule
