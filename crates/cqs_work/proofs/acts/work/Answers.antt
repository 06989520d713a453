use Rattle.cqs_work.specs.Hands.{at_hand}
use Rattle.cqs_work.proofs.Acting.{on-ok-both}
use Rattle.cqs_work.proofs.InTurn.{works-on, worked-can, worked-turned}
use Rattle.cqs_work.proofs.acts.work.Goals as goal

pub move_on-requires-clause-can : goal.move_on-requires-clause-can
move_on-requires-clause-can g c =
    worked-can c.args.actor.now
    (at_hand g.F.SharedFloor.shared g.G.Gate.begun g.G.Gate.ended c.args.clerk.now)
    c.args.state.now.progress c.args.state.now.patience c.args.next c.args.until c.requires.works c.requires.turn

pub returns-clause-did : goal.returns-clause-did
returns-clause-did g c =
    on-ok-both c.move_on.result
    (λ did patience. worked-turned c.args.actor.now _ _ c.args.state.now.progress c.args.state.now.patience
    c.args.next c.args.until _ _ c.requires.works c.if-actor-until.false patience did)
    c.move_on.ensures.did c.move_on.ensures.patience

pub returns-then-actor-until-clause-did : goal.returns-then-actor-until-clause-did
returns-then-actor-until-clause-did g c =
    works-on c.args.actor.now
    (at_hand g.F.SharedFloor.shared g.G.Gate.begun g.G.Gate.ended c.args.clerk.now)
    c.args.state.now.progress c.args.state.now.patience c.args.next c.args.until c.requires.works c.if-actor-until.true
    c.requires.turn
