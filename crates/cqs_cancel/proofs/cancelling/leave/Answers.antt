use Rattle.std.proofs.Common.{ℕ, Bool, Option, subst}
use Rattle.cqs_rule.specs.Callbacks.{HasAnswered}
use Rattle.cqs_cell.specs.Transitions.{HasSettled}
use Rattle.cqs_cancel.proofs.Steps.{may-ask, answered-place, refused-ended}
use Rattle.cqs_cancel.proofs.AloneSteps.{asked-none}
use Rattle.cqs_cancel.proofs.cancelling.leave.Goals as goal

pub on_cancellation-passes_on-requires-clause-begun : goal.on_cancellation-passes_on-requires-clause-begun
on_cancellation-passes_on-requires-clause-begun g c =
    may-ask g.C.Client.asking _ _ c.args.at.index c.requires.asked c.requires.asks c.requires.leaving

pub settle-requires-clause-place : goal.settle-requires-clause-place
settle-requires-clause-place g c =
    let C = g.C.ClientWords in
    answered-place C.object C.primitive g.C.Client.asking c.args.at.index c.on_cancellation-passes_on.result _ _
    c.args.at c.requires.asked c.on_cancellation-passes_on.ensures.answered c.requires.place

pub complete_refused_resume-requires-clause-ended : goal.complete_refused_resume-requires-clause-ended
complete_refused_resume-requires-clause-ended g c =
    let a = c.on_cancellation-passes_on in
    let no = c.if-passes_on.false in
    refused-ended c.args.at.index c.in-Ok-Some.payload a.new.pass c.settle.new.pass
    (subst (λ (z : Bool × Option ℕ). HasSettled z.0 c.args.at.index z.1 a.new.pass c.settle.new.pass)
    (λ i. (no i, c.in-Ok-Some.field-0-is i)) c.in-Ok-Some.ensures.settled)

pub returns-then-passes_on-clause-alone : goal.returns-then-passes_on-clause-alone
returns-then-passes_on-clause-alone g c = λ alone.
    let a = c.on_cancellation-passes_on in
    let p = c.args.pass.now in
    let k = c.args.at.index in
    let yes = c.if-passes_on.true in
    asked-none g.C.Client.asking k c.in-Ok-Some.payload p a.new.pass c.settle.new.pass c.requires.asked c.requires.ahead
    (subst (λ (b : Bool). HasAnswered g.C.Client.asking k b p a.new.pass) yes a.ensures.answered)
    (subst (λ (z : Bool × Option ℕ). HasSettled z.0 k z.1 a.new.pass c.settle.new.pass)
    (λ i. (yes i, c.in-Ok-Some.field-0-is i)) c.in-Ok-Some.ensures.settled) alone
