use Rattle.std.proofs.Common.{◌∙◌}
use Rattle.cqs_work.proofs.Giving.{giving-starts, resource-next, holds-next, gives-next}
use Rattle.cqs_work.proofs.acts.give_all.Goals as goal

pub loop-at-init : goal.loop-at-init
loop-at-init g c =
    giving-starts c.args.actor.now _ _ (c.deref-at-items.ensures.value ∙ c.requires.held) c.requires.stands

pub give-requires-clause-resource : goal.give-requires-clause-resource
give-requires-clause-resource g c = resource-next _ _ _ _ _ c.loop-at.invariant c.loop-at-test.true

pub give-requires-clause-holds : goal.give-requires-clause-holds
give-requires-clause-holds g c = holds-next _ _ _ _ _ c.loop-at.invariant c.loop-at-test.true

pub loop-at-preserved : goal.loop-at-preserved
loop-at-preserved g c =
    gives-next _ _ _ _ _ _ c.give.result c.loop-at.invariant c.loop-at-test.true c.give.ensures.gives
    c.give.ensures.waits c.give.ensures.told
