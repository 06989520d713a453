use Rattle.cqs_plan.specs.declared.floors.answers.FloorGive.TheVariants.{Free}
use Rattle.cqs_turns_report.proofs.Readied.{on_give-left}
use Rattle.cqs_work.proofs.StepNeeds.{give-resource, give-holds}
use Rattle.cqs_work.proofs.StepCalls.{give-did}
use Rattle.cqs_work.proofs.acts.give.Goals as goal

pub give-requires-clause-resource : goal.give-requires-clause-resource
give-requires-clause-resource g c = give-resource c.args.actor.now _ c.args.next c.args.at c.requires.can
    c.requires.step

pub give-requires-clause-holds : goal.give-requires-clause-holds
give-requires-clause-holds g c = give-holds c.args.actor.now _ c.args.next c.args.at c.requires.can c.requires.step

pub returns-clause-did : goal.returns-clause-did
returns-clause-did g c =
    give-did c.args.actor.now _ _ c.args.next c.args.at c.give.result c.requires.can c.requires.step
    c.give.ensures.gives
    c.give.ensures.waits c.give.ensures.told

pub returns-clause-held : goal.returns-clause-held
returns-clause-held g c =
    on_give-left _ _ _ c.args.at (Free 0) _ _ c.requires.can.stands.ready.job c.requires.held c.forget_oldest.ensures
    c.give.ensures.gives.board
