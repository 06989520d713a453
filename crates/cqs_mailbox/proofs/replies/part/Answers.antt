use Rattle.cqs_mailbox.proofs.TallyKeeps.{parts}
use Rattle.cqs_mailbox.proofs.replies.part.Goals as goal

pub another-requires-clause-rule : goal.another-requires-clause-rule
another-requires-clause-rule c = rw c.requires.none (parts _ 0 0)
