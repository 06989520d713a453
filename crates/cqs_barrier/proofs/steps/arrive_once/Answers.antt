use Rattle.cqs_barrier.proofs.BarrierMoves.{arrive-moves, none-stays}
use Rattle.cqs_rule.specs.Passes.{pass_view}
use Rattle.cqs_barrier.proofs.steps.arrive_once.Goals as goal

pub add_word-requires-clause-law : goal.add_word-requires-clause-law
add_word-requires-clause-law g c = arrive-moves _ _ _ c.requires.idle c.requires.may_draw c.requires.holds

pub add_word-requires-clause-slots : goal.add_word-requires-clause-slots
add_word-requires-clause-slots g c = none-stays _ _ _ _ (pass_view c.args.pass.now)
