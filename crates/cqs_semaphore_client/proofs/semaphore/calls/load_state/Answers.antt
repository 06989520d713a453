use Rattle.cqs_semaphore_client.proofs.SemaphoreMoves.{try-load-moves}
use Rattle.cqs_semaphore_client.proofs.semaphore.calls.load_state.Goals as goal

pub load_word-requires-clause-law : goal.load_word-requires-clause-law
load_word-requires-clause-law g c = try-load-moves _ _ _ _ _ c.requires.idle
