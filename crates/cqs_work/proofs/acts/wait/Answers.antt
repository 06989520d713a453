use Rattle.std.proofs.Common.{Some, ap, ◌∙◌}
use Rattle.cqs_plan.specs.declared.floors.answers.FloorTake.TheVariants.{Waits}
use Rattle.cqs_floor_shared.specs.Calls.{answer_of}
use Rattle.cqs_work.specs.Desk.{with_answer}
use Rattle.cqs_work.proofs.StepNeeds.{wait-resource, wait-room, wait-held}
use Rattle.cqs_work.proofs.StepCalls.{wait-did}
use Rattle.cqs_work.proofs.acts.wait.Goals as goal

pub wait-requires-clause-resource : goal.wait-requires-clause-resource
wait-requires-clause-resource g c = wait-resource c.args.actor.now _ c.args.next c.args.at c.requires.can
    c.requires.step

pub wait-requires-clause-room : goal.wait-requires-clause-room
wait-requires-clause-room g c = wait-room c.args.actor.now _ c.args.next c.args.at c.requires.can c.requires.step

pub returns-in-Ok-Now-clause-did : goal.returns-in-Ok-Now-clause-did
returns-in-Ok-Now-clause-did g c =
    wait-did c.args.actor.now _ _ c.args.next c.args.at _ _ c.requires.can c.requires.step c.wait.ensures.comes
    (ap answer_of c.in-Ok-Now.is ∙ ap Some c.in-Ok-Now.field-0-is) c.wait.ensures.waits c.wait.ensures.told

pub returns-in_ok-note-in-Ok-Waits-clause-did : goal.returns-in_ok-note-in-Ok-Waits-clause-did
returns-in_ok-note-in-Ok-Waits-clause-did g c =
    wait-did c.args.actor.now _ _ c.args.next c.args.at _ _ c.requires.can c.requires.step c.wait.ensures.comes
    (ap answer_of c.in-Ok-Waits.is ∙ ap Some c.in-Ok-Waits.field-0-is)
    (c.in_ok-note-in-Ok-Waits.ensures
    ∙ ap (λ l. with_answer l c.args.at 0 c.args.actor.now.place (Some (Waits c.in-Ok-Waits.number)))
    c.wait.ensures.waits) c.wait.ensures.told

pub returns-in-Err-clause-did : goal.returns-in-Err-clause-did
returns-in-Err-clause-did g c =
    wait-did c.args.actor.now _ _ c.args.next c.args.at _ _ c.requires.can c.requires.step c.wait.ensures.comes
    (ap answer_of c.in-Err.is) c.wait.ensures.waits c.wait.ensures.told

pub returns-in-Ok-Now-clause-held : goal.returns-in-Ok-Now-clause-held
returns-in-Ok-Now-clause-held g c = wait-held _ _ c.args.actor.now c.args.at _ c.wait.ensures.comes

pub returns-in_ok-note-in-Ok-Waits-clause-held : goal.returns-in_ok-note-in-Ok-Waits-clause-held
returns-in_ok-note-in-Ok-Waits-clause-held g c = wait-held _ _ c.args.actor.now c.args.at _ c.wait.ensures.comes

pub returns-in-Err-clause-held : goal.returns-in-Err-clause-held
returns-in-Err-clause-held g c = wait-held _ _ c.args.actor.now c.args.at _ c.wait.ensures.comes
