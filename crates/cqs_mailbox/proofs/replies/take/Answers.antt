use Rattle.cqs_mailbox.proofs.TallyKeeps.{takes, finds, take_told, take_post}
use Rattle.cqs_mailbox.proofs.replies.take.Goals as goal

pub pop_as-requires-clause-rule : goal.pop_as-requires-clause-rule
pop_as-requires-clause-rule g c = (takes _ _ c.requires.post, finds _ _)

pub returns-clause-took : goal.returns-clause-took
returns-clause-took g c = take_told _ _ _ c.pop_as.ensures.rule

pub returns-clause-is_post : goal.returns-clause-is_post
returns-clause-is_post g c = take_post _ _ _ c.pop_as.result c.requires.post (returns-clause-took g c)
