use Rattle.cqs_latch.proofs.LatchMoves.{wait-load-moves, none-stays}
use Rattle.cqs_rule.specs.Passes.{pass_view}
use Rattle.cqs_latch.proofs.steps.load_to_wait.Goals as goal

pub load_word-requires-clause-law : goal.load_word-requires-clause-law
load_word-requires-clause-law g c = wait-load-moves _ _ _ _ _ c.requires.idle

pub load_word-requires-clause-slots : goal.load_word-requires-clause-slots
load_word-requires-clause-slots g c = none-stays _ _ _ _ _ (pass_view c.args.pass.now)
