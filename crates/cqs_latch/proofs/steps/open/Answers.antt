use Rattle.std.proofs.Common.{arith}
use Rattle.std.proofs.lemmas.Int.{ints}
use Rattle.cqs_latch.proofs.LatchMoves.{open-moves, none-stays}
use Rattle.cqs_rule.specs.Passes.{pass_view}
use Rattle.cqs_latch.proofs.steps.open.Goals as goal

pub or_word-requires-clause-law : goal.or_word-requires-clause-law
or_word-requires-clause-law g c = open-moves _ _ _ _ _ _ c.requires.last (omega (arith, ints))

pub or_word-requires-clause-slots : goal.or_word-requires-clause-slots
or_word-requires-clause-slots g c = none-stays _ _ _ _ _ (pass_view c.args.pass.now)
