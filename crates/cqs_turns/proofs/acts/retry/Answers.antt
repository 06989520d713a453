use Rattle.std.proofs.Common.{◌-◌}
use Rattle.cqs_turns_report.specs.Roles.{role, scene, told_retries}
use Rattle.cqs_turns_report.specs.Turns.{Role, Scene}
use Rattle.cqs_turns_report.proofs.Growth.{leaves-off, go_on-grows}
use Rattle.cqs_turns.proofs.acts.retry.Goals as goal

pub returns-in_err-tell-clause-comes : goal.returns-in_err-tell-clause-comes
returns-in_err-tell-clause-comes g c =
    let r : Role = role c.args.actor.now in
    let s : Scene = scene (g.F.Floor.plain c.args.floor.now) c.args.report.now in
    leaves-off c.from_residual.result _ _ c.from_residual.ensures.0
    (rw c.in_err-tell.ensures.err
    (go_on-grows r (c.args.next - 1) s s.floor (told_retries c.args.at c.args.round c.args.number)))
