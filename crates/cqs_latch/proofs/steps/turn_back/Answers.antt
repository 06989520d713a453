use Rattle.cqs_latch.proofs.LatchMoves.{turn-moves, none-stays}
use Rattle.cqs_rule.specs.Passes.{pass_view}
use Rattle.cqs_latch.proofs.WordSteps.{above-zero}
use Rattle.cqs_latch.proofs.steps.turn_back.Goals as goal

pub load_word-requires-clause-law : goal.load_word-requires-clause-law
load_word-requires-clause-law g c =
    turn-moves _ _ _ _ _ _ c.requires.loaded (above-zero c.args.loaded c.requires.above)

pub load_word-requires-clause-slots : goal.load_word-requires-clause-slots
load_word-requires-clause-slots g c = none-stays _ _ _ _ _ (pass_view c.args.pass.now)
