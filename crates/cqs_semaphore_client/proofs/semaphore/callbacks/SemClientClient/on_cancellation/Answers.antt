use Rattle.cqs_semaphore_client.proofs.SemaphoreMoves.{decide-moves}
use Rattle.cqs_semaphore_client.proofs.semaphore.callbacks.SemClientClient.on_cancellation.Goals as goal

pub add_word-found-requires-clause-law : goal.add_word-found-requires-clause-law
add_word-found-requires-clause-law g c = decide-moves _ _ _ _ _ _ c.requires.begun.1
