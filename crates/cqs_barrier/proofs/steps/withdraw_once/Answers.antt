use Rattle.cqs_barrier.proofs.BarrierMoves.{withdraw-moves, none-stays}
use Rattle.cqs_rule.specs.Passes.{pass_view}
use Rattle.cqs_barrier.proofs.steps.withdraw_once.Goals as goal

pub swap_word-requires-clause-law : goal.swap_word-requires-clause-law
swap_word-requires-clause-law g c =
    rw c.one_more.ensures
    (withdraw-moves _ _ _ _ _ c.args.queue.now.table.shared.key.client.few c.requires.leaving c.requires.some)

pub swap_word-requires-clause-slots : goal.swap_word-requires-clause-slots
swap_word-requires-clause-slots g c = none-stays _ _ _ _ (pass_view c.args.pass.now)
