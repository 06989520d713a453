use Rattle.std.proofs.Common.{refl}
use Rattle.cqs_rule.specs.Passes.{pass_view}
use Rattle.cqs_cancel.proofs.Steps.{missed-late}
use Rattle.cqs_cancel.proofs.AtOnceSteps.{missed-place}
use Rattle.cqs_cancel.proofs.at_once.cancel_at.Goals as goal

pub look-requires-clause-place : goal.look-requires-clause-place
look-requires-clause-place g c =
    missed-place c.args.at.index c.in-Err.field-0 c.args.pass.now c.leave_at_once.new.pass c.args.at c.args.at
    c.in-Err.ensures.missed refl c.requires.place

pub returns-in-Err-clause-left : goal.returns-in-Err-clause-left
returns-in-Err-clause-left g c =
    let C = g.C.ClientWords in
    missed-late C.object C.primitive _ c.args.at.index c.in-Err.field-0 c.look.result (pass_view c.args.pass.now)
    (pass_view c.leave_at_once.new.pass) (pass_view c.look.new.pass) c.in-Err.ensures.missed c.look.ensures.looks
    refl refl
