use Rattle.cqs_latch.proofs.LatchMoves.{leave-moves, none-stays}
use Rattle.cqs_rule.specs.Passes.{pass_view}
use Rattle.cqs_latch.proofs.callbacks.LatchClientClient.on_cancellation.Goals as goal

pub add_word-found-requires-clause-law : goal.add_word-found-requires-clause-law
add_word-found-requires-clause-law g c = leave-moves _ _ _ _ _ _ c.requires.begun.1 c.requires.begun.0

pub add_word-found-requires-clause-slots : goal.add_word-found-requires-clause-slots
add_word-found-requires-clause-slots g c = none-stays _ _ _ _ _ (pass_view c.args.pass.now)
