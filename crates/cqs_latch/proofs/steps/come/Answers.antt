use Rattle.cqs_latch.proofs.LatchMoves.{come-moves, none-stays}
use Rattle.cqs_rule.specs.Passes.{pass_view}
use Rattle.cqs_latch.proofs.WordSteps.{above-zero}
use Rattle.cqs_latch.proofs.steps.come.Goals as goal

pub add_word-requires-clause-law : goal.add_word-requires-clause-law
add_word-requires-clause-law g c =
    come-moves _ _ _ _ _ _ c.requires.loaded (above-zero c.args.loaded c.requires.above) c.requires.may_draw

pub add_word-requires-clause-slots : goal.add_word-requires-clause-slots
add_word-requires-clause-slots g c = none-stays _ _ _ _ _ (pass_view c.args.pass.now)
