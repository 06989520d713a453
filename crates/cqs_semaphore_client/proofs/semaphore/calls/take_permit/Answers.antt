use Rattle.cqs_rule.specs.Passes.{client_of, pass_view}
use Rattle.cqs_semaphore_client.proofs.SemaphoreMoves.{take-moves, take-stays}
use Rattle.cqs_semaphore_client.proofs.semaphore.calls.take_permit.Goals as goal

pub add_word-requires-clause-law : goal.add_word-requires-clause-law
add_word-requires-clause-law g c = take-moves _ _ _ _ _ c.requires.idle c.requires.may_draw

pub add_word-requires-clause-slots : goal.add_word-requires-clause-slots
add_word-requires-clause-slots g c = take-stays (client_of c.args.queue.now) _ (pass_view c.args.pass.now)
