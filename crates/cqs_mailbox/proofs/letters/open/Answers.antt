use Rattle.cqs_mailbox.proofs.MailKeeps.{begins}
use Rattle.cqs_mailbox.proofs.letters.open.Goals as goal

pub ruled-requires-clause-rule : goal.ruled-requires-clause-rule
ruled-requires-clause-rule c = begins
