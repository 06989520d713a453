use Rattle.std.proofs.Common.{Some, ap, ◌∙◌}
use Rattle.cqs_plan.specs.declared.floors.answers.FloorTake.TheVariants.{Waits}
use Rattle.cqs_floor_shared.specs.Calls.{answer_of}
use Rattle.cqs_work.specs.Desk.{with_answer}
use Rattle.cqs_work.proofs.StepNeeds.{take-resource, take-room}
use Rattle.cqs_work.proofs.StepCalls.{take-did}
use Rattle.cqs_work.proofs.acts.take.Goals as goal

pub take-requires-clause-resource : goal.take-requires-clause-resource
take-requires-clause-resource g c = take-resource c.args.actor.now _ c.args.next c.args.at c.requires.can
    c.requires.step

pub take-requires-clause-room : goal.take-requires-clause-room
take-requires-clause-room g c = take-room c.args.actor.now _ c.args.next c.args.at c.requires.can c.requires.step

pub returns-in_ok-push-in-Ok-Now-clause-did : goal.returns-in_ok-push-in-Ok-Now-clause-did
returns-in_ok-push-in-Ok-Now-clause-did g c =
    take-did c.args.actor.now _ _ c.args.next c.args.at _ _ c.requires.can c.requires.step c.take.ensures.takes
    (ap answer_of c.in-Ok-Now.is ∙ ap Some c.in-Ok-Now.field-0-is) c.take.ensures.waits c.take.ensures.told

pub returns-in_ok-note-in-Ok-Waits-clause-did : goal.returns-in_ok-note-in-Ok-Waits-clause-did
returns-in_ok-note-in-Ok-Waits-clause-did g c =
    take-did c.args.actor.now _ _ c.args.next c.args.at _ _ c.requires.can c.requires.step c.take.ensures.takes
    (ap answer_of c.in-Ok-Waits.is ∙ ap Some c.in-Ok-Waits.field-0-is)
    (c.in_ok-note-in-Ok-Waits.ensures
    ∙ ap (λ l. with_answer l c.args.at 0 c.args.actor.now.place (Some (Waits c.in-Ok-Waits.number)))
    c.take.ensures.waits) c.take.ensures.told

pub returns-in-Err-clause-did : goal.returns-in-Err-clause-did
returns-in-Err-clause-did g c =
    take-did c.args.actor.now _ _ c.args.next c.args.at _ _ c.requires.can c.requires.step c.take.ensures.takes
    (ap answer_of c.in-Err.is) c.take.ensures.waits c.take.ensures.told
