use Rattle.std.proofs.Common.{Some, ap, ◌∙◌, arith}
use Rattle.cqs_plan.specs.declared.floors.answers.FloorTake.TheVariants.{Waits}
use Rattle.cqs_floor_shared.specs.Calls.{answer_of}
use Rattle.cqs_work.specs.Desk.{with_answer}
use Rattle.cqs_work.specs.Hands.{at_hand}
use Rattle.cqs_work.proofs.StepNeeds.{arrive-held, next-small}
use Rattle.cqs_work.proofs.StepCalls.{arrive-did, arrives-in, arrive-room, arrive-party}
use Rattle.cqs_work.proofs.acts.arrive.Goals as goal

pub arrive-requires-clause-resource : goal.arrive-requires-clause-resource
arrive-requires-clause-resource g c =
    arrives-in c.args.actor.now (at_hand g.F.SharedFloor.shared g.G.Gate.begun g.G.Gate.ended c.args.clerk.now)
    c.args.next c.args.at c.requires.can c.requires.step

pub arrive-requires-clause-room : goal.arrive-requires-clause-room
arrive-requires-clause-room g c =
    arrive-room c.args.actor.now (at_hand g.F.SharedFloor.shared g.G.Gate.begun g.G.Gate.ended c.args.clerk.now)
    c.args.next c.args.at c.requires.can c.requires.step

pub arrive-requires-clause-party : goal.arrive-requires-clause-party
arrive-requires-clause-party g c =
    arrive-party c.args.actor.now (at_hand g.F.SharedFloor.shared g.G.Gate.begun g.G.Gate.ended c.args.clerk.now)
    c.args.next c.args.at c.requires.can c.requires.step

pub returns-in-Ok-Now-clause-did : goal.returns-in-Ok-Now-clause-did
returns-in-Ok-Now-clause-did g c =
    arrive-did c.args.actor.now _ c.args.next c.args.at c.requires.can c.requires.step _ _ _ _ c.arrive.ensures.comes
    (ap answer_of c.in-Ok-Now.is ∙ ap Some c.in-Ok-Now.field-0-is) c.arrive.ensures.waits c.arrivals-round.ensures
    c.arrive.ensures.told

pub returns-in_ok-note-in-Ok-Waits-clause-did : goal.returns-in_ok-note-in-Ok-Waits-clause-did
returns-in_ok-note-in-Ok-Waits-clause-did g c =
    arrive-did c.args.actor.now _ c.args.next c.args.at c.requires.can c.requires.step _ _ _ _ c.arrive.ensures.comes
    (ap answer_of c.in-Ok-Waits.is ∙ ap Some c.in-Ok-Waits.field-0-is)
    (c.in_ok-note-in-Ok-Waits.ensures
    ∙ ap (λ l. with_answer l c.args.at c.arrivals-round.result c.args.actor.now.place
    (Some (Waits c.in-Ok-Waits.number))) c.arrive.ensures.waits) c.arrivals-round.ensures c.arrive.ensures.told

pub returns-in-Err-clause-did : goal.returns-in-Err-clause-did
returns-in-Err-clause-did g c =
    arrive-did c.args.actor.now _ c.args.next c.args.at c.requires.can c.requires.step _ _ _ _ c.arrive.ensures.comes
    (ap answer_of c.in-Err.is) c.arrive.ensures.waits c.arrivals-round.ensures
    c.arrive.ensures.told

pub returns-in-Ok-Now-clause-held : goal.returns-in-Ok-Now-clause-held
returns-in-Ok-Now-clause-held g c = arrive-held _ _ c.args.actor.now c.args.at _ c.arrive.ensures.comes

pub returns-in_ok-note-in-Ok-Waits-clause-held : goal.returns-in_ok-note-in-Ok-Waits-clause-held
returns-in_ok-note-in-Ok-Waits-clause-held g c = arrive-held _ _ c.args.actor.now c.args.at _ c.arrive.ensures.comes

pub returns-in-Err-clause-held : goal.returns-in-Err-clause-held
returns-in-Err-clause-held g c = arrive-held _ _ c.args.actor.now c.args.at _ c.arrive.ensures.comes

pub overflow_add-result : goal.overflow_add-result
overflow_add-result g c =
    omega (
      arith,
      next-small c.args.actor.now (g.F.SharedFloor.shared c.args.clerk.now.floor) c.args.next _
          c.requires.can c.requires.step,
    )
