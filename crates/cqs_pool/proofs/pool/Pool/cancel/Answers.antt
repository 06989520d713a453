use Rattle.std.proofs.Common.{None, ◌∙◌}
use Rattle.cqs_pool.proofs.AloneSteps.{quiet, plain-leave, plain-late, none-owing, new-one}
use Rattle.cqs_pool.proofs.CancelSteps.{gone, gone-owing, late, left-so, gone-rule, owing-rule}
use Rattle.cqs_pool.proofs.pool.Pool.cancel.Goals as goal

pub returns-in-Gone-clause-cancelled : goal.returns-in-Gone-clause-cancelled
returns-in-Gone-clause-cancelled g c =
    gone _ _ _ c.requires.ready c.requires.belongs.live.own c.cancel_unasked.ensures.belongs.live.legal
    (rw c.in-Gone.is at c.cancel_unasked.ensures.cancelled)

pub returns-in-GoneOwing-clause-cancelled : goal.returns-in-GoneOwing-clause-cancelled
returns-in-GoneOwing-clause-cancelled g c =
    gone-owing _ _ _ _ _ _ c.requires.ready c.requires.belongs.live.own c.pass_on.ensures.belongs.live.legal
    (rw c.in-GoneOwing.is at c.cancel_unasked.ensures.cancelled) c.pass_on.ensures.passed

pub returns-in-Late-clause-cancelled : goal.returns-in-Late-clause-cancelled
returns-in-Late-clause-cancelled g c =
    late _ _ _ _ _ c.requires.ready c.requires.belongs.live.own c.cancel_unasked.ensures.belongs.live.legal
    (rw c.in-Late.is at c.cancel_unasked.ensures.cancelled) c.number-number.ensures

pub returns-in-Gone-clause-leaves : goal.returns-in-Gone-clause-leaves
returns-in-Gone-clause-leaves g c = left-so _ _ _ None (returns-in-Gone-clause-cancelled g c)

pub returns-in-GoneOwing-clause-leaves : goal.returns-in-GoneOwing-clause-leaves
returns-in-GoneOwing-clause-leaves g c = left-so _ _ _ _ (returns-in-GoneOwing-clause-cancelled g c)

pub returns-in-Late-clause-leaves : goal.returns-in-Late-clause-leaves
returns-in-Late-clause-leaves g c = (returns-in-Late-clause-cancelled g c).3.3

pub returns-in-Gone-clause-alone : goal.returns-in-Gone-clause-alone
returns-in-Gone-clause-alone g c = λ alone.
    plain-leave _ _ _
    (gone-rule _ _ _ c.requires.belongs.live.own c.cancel_unasked.ensures.belongs.live.legal
    (rw c.in-Gone.is at c.cancel_unasked.ensures.cancelled)) alone

pub returns-in-GoneOwing-clause-alone : goal.returns-in-GoneOwing-clause-alone
returns-in-GoneOwing-clause-alone g c = λ alone.
    let rule = owing-rule _ _ _ _ c.requires.belongs.live.own c.cancel_unasked.ensures.belongs.live.legal
    (rw c.in-GoneOwing.is at c.cancel_unasked.ensures.cancelled) in
    absurd (none-owing _ _ _ rule.0 alone
    (quiet _ c.requires.belongs.alone c.args.pass.now.live.0 alone c.requires.ready.idle)
    (c.cancel_unasked.ensures.belongs.alone c.cancel_unasked.new.pass.live.0 (rule.0.called.same.alone ∙ alone)) rule.1)

pub returns-in-Late-clause-alone : goal.returns-in-Late-clause-alone
returns-in-Late-clause-alone g c = λ alone.
    let h = returns-in-Late-clause-cancelled g c in plain-late _ _ _ _ _ h.2 alone

pub returns-in-Late-clause-new : goal.returns-in-Late-clause-new
returns-in-Late-clause-new g c =
    new-one _ _ _ _ c.cancel_unasked.ensures.belongs.live.known
    (returns-in-Late-clause-cancelled g c).3.3.elements_are
