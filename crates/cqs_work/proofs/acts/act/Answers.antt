use Rattle.cqs_work.specs.Hands.{at_hand}
use Rattle.cqs_work.proofs.Acting.{on-ok-both}
use Rattle.cqs_work.proofs.InTurn.{rests-on, stepping-can, stepped-turned}
use Rattle.cqs_work.proofs.acts.act.Goals as goal

pub move_on-requires-clause-can : goal.move_on-requires-clause-can
move_on-requires-clause-can g c =
    stepping-can c.args.actor.now
    (at_hand g.F.SharedFloor.shared g.G.Gate.begun g.G.Gate.ended c.args.clerk.now)
    c.args.state.now.progress c.args.state.now.patience c.in-Stepping.next c.in-Stepping.is c.requires.turn

pub returns-in-Stepping-clause-did : goal.returns-in-Stepping-clause-did
returns-in-Stepping-clause-did g c =
    on-ok-both c.move_on.result
    (λ did patience. stepped-turned c.args.actor.now _ _ c.args.state.now.progress c.args.state.now.patience
    c.in-Stepping.next _ _ c.in-Stepping.is patience did)
    c.move_on.ensures.did c.move_on.ensures.patience

pub returns-in-Ended-clause-did : goal.returns-in-Ended-clause-did
returns-in-Ended-clause-did g c =
    rests-on c.args.actor.now
    (at_hand g.F.SharedFloor.shared g.G.Gate.begun g.G.Gate.ended c.args.clerk.now)
    c.args.state.now.progress c.args.state.now.patience c.in-Ended.field-0 c.in-Ended.is c.requires.turn
