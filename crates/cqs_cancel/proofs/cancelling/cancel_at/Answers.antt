use Rattle.std.proofs.Common.{refl, ◌∙◌}
use Rattle.cqs_rule.specs.Passes.{pass_view}
use Rattle.cqs_cancel.proofs.Steps.{began-place, missed-place, missed-late}
use Rattle.cqs_cancel.proofs.AloneSteps.{began-ahead}
use Rattle.cqs_cancel.proofs.cancelling.cancel_at.Goals as goal

pub leave-requires-clause-place : goal.leave-requires-clause-place
leave-requires-clause-place g c κs within =
    began-place c.args.at.index c.args.pass.now c.begin_cancel.new.pass c.args.at c.args.at c.in-Ok.ensures.made refl
    c.requires.place

pub look-requires-clause-place : goal.look-requires-clause-place
look-requires-clause-place g c =
    missed-place c.args.at.index c.in-Err.field-0 c.args.pass.now c.begin_cancel.new.pass c.args.at c.args.at
    c.in-Err.ensures.missed refl c.requires.place

pub returns-in-Err-clause-cancelled : goal.returns-in-Err-clause-cancelled
returns-in-Err-clause-cancelled g c =
    let C = g.C.ClientWords in
    missed-late C.object C.primitive _ c.args.at.index c.in-Err.field-0 c.look.result (pass_view c.args.pass.now)
    (pass_view c.begin_cancel.new.pass) (pass_view c.look.new.pass) c.in-Err.ensures.missed c.look.ensures.looks
    refl refl

pub leave-requires-clause-ahead : goal.leave-requires-clause-ahead
leave-requires-clause-ahead g c = λ κs lives.
    began-ahead c.args.at.index c.args.pass.now c.begin_cancel.new.pass c.in-Ok.ensures.made c.requires.idle

pub returns-in-Ok-clause-alone : goal.returns-in-Ok-clause-alone
returns-in-Ok-clause-alone g c = λ alone. c.leave.ensures.alone (c.in-Ok.ensures.made.saw.same.alone ∙ alone)
