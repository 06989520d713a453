use Rattle.cqs_core.specs.Parts.{IsPrefix}
use Rattle.cqs_turns_report.specs.Roles.{role, scene}
use Rattle.cqs_turns_report.specs.Turns.{Role, Scene, after_all_gives, event, leave_told, places_held}
use Rattle.cqs_turns_report.proofs.Growth.{after_gives-grows, leaves-off, prefix-added, prefix-through}
use Rattle.cqs_turns.proofs.acts.give_up.Goals as goal

pub returns-in_err-end-clause-comes : goal.returns-in_err-end-clause-comes
returns-in_err-end-clause-comes g c =
    let r : Role = role c.args.actor.now in
    let s : Scene = scene (g.F.Floor.plain c.args.floor.now) c.args.report.now in
    let told : Scene = event r s s.floor (leave_told c.args.at c.args.round c.args.number c.args.answer) in
    let grown : IsPrefix s.text (after_all_gives r told).text =
    prefix-through _ told.text s.text (after_gives-grows r (places_held told.floor r.place) told)
    (prefix-added s.text _) in
    leaves-off c.from_residual.result _ _ c.from_residual.ensures.0 grown

pub returns-in_err-tell-clause-comes : goal.returns-in_err-tell-clause-comes
returns-in_err-tell-clause-comes g c =
    let r : Role = role c.args.actor.now in
    let s : Scene = scene (g.F.Floor.plain c.args.floor.now) c.args.report.now in
    let told : Scene = event r s s.floor (leave_told c.args.at c.args.round c.args.number c.args.answer) in
    let grown : IsPrefix s.text (after_all_gives r told).text =
    prefix-through _ told.text s.text (after_gives-grows r (places_held told.floor r.place) told)
    (prefix-added s.text _) in
    leaves-off c.from_residual-in_err-tell.result _ _ c.from_residual-in_err-tell.ensures.0
    (rw c.in_err-tell.ensures.err grown)
