use Rattle.cqs_rule_laws.proofs.StandStill.{silent-moves}
use Rattle.cqs_semaphore_client.proofs.semaphore.calls.read_state.Goals as goal

pub load_word-requires-clause-law : goal.load_word-requires-clause-law
load_word-requires-clause-law g c = silent-moves _ _ _ _ _
