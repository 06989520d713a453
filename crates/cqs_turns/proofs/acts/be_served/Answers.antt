use Rattle.cqs_turns_report.specs.Roles.{role, scene, told_served}
use Rattle.cqs_turns_report.specs.Turns.{Role, Scene}
use Rattle.cqs_turns_report.proofs.Growth.{leaves-off, go_on-grows}
use Rattle.cqs_turns.proofs.acts.be_served.Goals as goal

pub returns-in_err-hold-clause-comes : goal.returns-in_err-hold-clause-comes
returns-in_err-hold-clause-comes g c =
    let r : Role = role c.args.actor.now in
    let s : Scene = scene (g.F.Floor.plain c.args.floor.now) c.args.report.now in
    leaves-off c.from_residual.result _ _ c.from_residual.ensures.0
    (go_on-grows r c.args.next s s.floor (told_served c.args.at c.args.round c.args.number c.args.element))

pub returns-in_err-tell-clause-comes : goal.returns-in_err-tell-clause-comes
returns-in_err-tell-clause-comes g c =
    let r : Role = role c.args.actor.now in
    let s : Scene = scene (g.F.Floor.plain c.args.floor.now) c.args.report.now in
    leaves-off c.from_residual-in_err-tell.result _ _ c.from_residual-in_err-tell.ensures.0
    (rw c.in_err-tell.ensures.err
    (go_on-grows r c.args.next s s.floor (told_served c.args.at c.args.round c.args.number c.args.element)))
