use Rattle.cqs_mailbox.proofs.MailKeeps.{receives, learns, take_told, take_desk}
use Rattle.cqs_mailbox.proofs.letters.take.Goals as goal

pub pop_as-requires-clause-rule : goal.pop_as-requires-clause-rule
pop_as-requires-clause-rule g c = (receives _ _ c.requires.desk, learns _ _ c.requires.desk)

pub returns-clause-took : goal.returns-clause-took
returns-clause-took g c = take_told _ _ _ c.pop_as.ensures.rule

pub returns-clause-is_desk : goal.returns-clause-is_desk
returns-clause-is_desk g c = take_desk _ _ _ c.pop_as.result c.requires.desk (returns-clause-took g c)
