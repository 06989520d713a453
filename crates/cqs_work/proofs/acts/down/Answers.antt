use Rattle.std.proofs.Common.{ap}
use Rattle.cqs_turns_report.specs.Turns.{places_held}
use Rattle.cqs_work.proofs.StepNeeds.{down-resource}
use Rattle.cqs_work.proofs.StepCalls.{down-did}
use Rattle.cqs_work.proofs.acts.down.Goals as goal

pub down-requires : goal.down-requires
down-requires g c = record {
  resource = down-resource c.args.actor.now _ c.args.next c.args.at c.requires.can c.requires.step;
}

pub returns-clause-did : goal.returns-clause-did
returns-clause-did g c =
    down-did c.args.actor.now _ _ c.args.next c.args.at c.down.result c.requires.can c.requires.step
    c.down.ensures.downs
    c.down.ensures.waits c.down.ensures.told

pub returns-clause-held : goal.returns-clause-held
returns-clause-held g c = ap (λ b. places_held b c.args.actor.now.place) c.down.ensures.downs.board
