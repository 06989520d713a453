use Rattle.std.proofs.Common.{subst}
use Rattle.cqs_rule_laws.specs.declared.config.Place.{Place}
use Rattle.cqs_cancel.specs.AtOnce.{HasLeftAtOnce}
use Rattle.cqs_cancel.proofs.at_once.cancel_at_once.Goals as goal

pub returns-clause-left : goal.returns-clause-left
returns-clause-left g c =
    let at = c.spend_wait-at in
    subst (λ q. HasLeftAtOnce c.args.wait.number q c.cancel_at.result c.cancel_at.new.pass) at.ensures.same
    (subst (λ (p : Place). HasLeftAtOnce p.index at.new.pass c.cancel_at.result c.cancel_at.new.pass)
    at.ensures.place c.cancel_at.ensures.left)
