use Rattle.cqs_mailbox.proofs.TallyKeeps.{begins}
use Rattle.cqs_mailbox.proofs.replies.open.Goals as goal

pub ruled-requires-clause-rule : goal.ruled-requires-clause-rule
ruled-requires-clause-rule c = begins
