use Rattle.cqs_barrier.proofs.BarrierMoves.{look-moves, none-stays}
use Rattle.cqs_rule.specs.Passes.{pass_view}
use Rattle.cqs_barrier.proofs.steps.look_to_leave.Goals as goal

pub load_word-requires-clause-law : goal.load_word-requires-clause-law
load_word-requires-clause-law g c = look-moves _ _ _ _ c.requires.leaving

pub load_word-requires-clause-slots : goal.load_word-requires-clause-slots
load_word-requires-clause-slots g c = none-stays _ _ _ _ (pass_view c.args.pass.now)
