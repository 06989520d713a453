use Rattle.std.proofs.Common.{refl}
use Rattle.cqs_rule.specs.Passes.{pass_view}
use Rattle.cqs_cancel.proofs.Steps.{missed-late}
use Rattle.cqs_cancel.proofs.UnaskedSteps.{left-place, found-place}
use Rattle.cqs_cancel.proofs.AloneSteps.{unasked-none}
use Rattle.cqs_cancel.proofs.unasked.cancel_at.Goals as goal

pub settle_left-requires-clause-place : goal.settle_left-requires-clause-place
settle_left-requires-clause-place g c =
    left-place c.args.at.index c.args.pass.now c.leave_line.new.pass c.args.at c.args.at c.in-Ok.ensures.made refl
    c.requires.place

pub look-requires-clause-place : goal.look-requires-clause-place
look-requires-clause-place g c =
    found-place c.args.at.index c.in-Err.field-0 c.args.pass.now c.leave_line.new.pass c.args.at c.args.at
    c.in-Err.ensures.missed refl c.requires.place

pub returns-in-Err-clause-cancelled : goal.returns-in-Err-clause-cancelled
returns-in-Err-clause-cancelled g c =
    let C = g.C.ClientWords in
    missed-late C.object C.primitive _ c.args.at.index c.in-Err.field-0 c.look.result (pass_view c.args.pass.now)
    (pass_view c.leave_line.new.pass) (pass_view c.look.new.pass) c.in-Err.ensures.missed c.look.ensures.looks refl refl

pub returns-in-Ok-clause-alone : goal.returns-in-Ok-clause-alone
returns-in-Ok-clause-alone g c =
    unasked-none c.args.at.index c.settle_left.result c.left_by.result c.args.pass.now c.leave_line.new.pass
    c.settle_left.new.pass c.in-Ok.ensures.made c.requires.idle c.settle_left.ensures.settled c.left_by.ensures
