use Rattle.std.proofs.Common.{ap, ◌∙◌, subst}
use Rattle.cqs_rule_laws.specs.declared.config.Place.{Place}
use Rattle.cqs_rule.specs.Passes.{pass_view}
use Rattle.cqs_cancel.specs.Unasked.{HasCancelledUnasked}
use Rattle.cqs_cancel.proofs.unasked.cancel_unasked.Goals as goal

pub returns-clause-cancelled : goal.returns-clause-cancelled
returns-clause-cancelled g c =
    let at = c.spend_wait-at in
    subst (λ q. HasCancelledUnasked c.args.wait.number q c.cancel_at.result c.cancel_at.new.pass) at.ensures.same
    (subst (λ (p : Place). HasCancelledUnasked p.index at.new.pass c.cancel_at.result c.cancel_at.new.pass)
    at.ensures.place c.cancel_at.ensures.cancelled)

pub returns-clause-alone : goal.returns-clause-alone
returns-clause-alone g c = λ alone.
    c.cancel_at.ensures.alone (ap (λ q. (pass_view q).alone) c.spend_wait-at.ensures.same ∙ alone)
