use Rattle.cqs_mailbox.proofs.MailKeeps.{sends, finds, put_told, put_post, put_count}
use Rattle.cqs_mailbox.proofs.letters.put.Goals as goal

pub push_as-requires-clause-rule : goal.push_as-requires-clause-rule
push_as-requires-clause-rule g c = (sends _ _ _ _ c.requires.post c.requires.next, finds _ _)

pub returns-clause-put : goal.returns-clause-put
returns-clause-put g c = put_told _ _ _ _ _ c.push_as.ensures.rule

pub returns-clause-is_post : goal.returns-clause-is_post
returns-clause-is_post g c = put_post _ _ _ _ _ c.push_as.result c.requires.post (returns-clause-put g c)

pub returns-clause-count : goal.returns-clause-count
returns-clause-count g c = put_count _ _ _ _ _ c.push_as.result c.requires.post (returns-clause-put g c)
