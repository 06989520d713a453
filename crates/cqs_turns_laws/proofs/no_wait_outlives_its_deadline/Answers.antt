use Rattle.cqs_turns_laws.proofs.OwnTurn.{no-wait-outlives}
use Rattle.cqs_turns_laws.proofs.no_wait_outlives_its_deadline.Goals as goal

pub returns : goal.returns
returns c = no-wait-outlives
