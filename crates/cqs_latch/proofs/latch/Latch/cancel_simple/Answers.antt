use Rattle.std.proofs.Common.{sym, subst}
use Rattle.cqs_rule_laws.specs.declared.config.CancelMode.TheVariants.{Simple}
use Rattle.cqs_rule.specs.Passes.{pass_view}
use Rattle.cqs_rule.specs.Waits.{place_of}
use Rattle.cqs_latch.specs.LeftAnswers.{HasLeft}
use Rattle.cqs_latch.proofs.CancelSteps.{simple-left}
use Rattle.cqs_latch.proofs.Simple.{is-at_once}
use Rattle.cqs_latch.proofs.latch.Latch.cancel_simple.Goals as goal

pub cancel_at_once-requires-clause-at_once : goal.cancel_at_once-requires-clause-at_once
cancel_at_once-requires-clause-at_once g c = is-at_once _ c.requires.simple

pub returns-clause-left : goal.returns-clause-left
returns-clause-left g c =
    subst (λ a. HasLeft Simple (place_of c.args.wait).index (pass_view c.args.pass.now) a
    (pass_view c.cancel_at_once.new.pass)) (sym c.left_at_once.ensures)
    (simple-left _ _ c.requires.ready c.requires.belongs.live.own c.cancel_at_once.result _
    c.cancel_at_once.ensures.belongs.live.legal c.cancel_at_once.ensures.left)
