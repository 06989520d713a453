use Rattle.std.proofs.Common.{◌∙◌, sym, subst}
use Rattle.cqs_rule.specs.Passes.{pass_view}
use Rattle.cqs_rule.specs.Waits.{place_of}
use Rattle.cqs_latch.specs.LeftAnswers.{HasLeft}
use Rattle.cqs_latch.proofs.AloneSteps.{plain-left}
use Rattle.cqs_latch.proofs.Kept.{keeps-left, ready-left}
use Rattle.cqs_latch.proofs.latch.Latch.cancel.Goals as goal

pub cancel_smart-requires-clause-smart : goal.cancel_smart-requires-clause-smart
cancel_smart-requires-clause-smart g c = λ given lives. c.args.self.now.mode_is ∙ c.in-Smart.is

pub cancel_simple-requires-clause-simple : goal.cancel_simple-requires-clause-simple
cancel_simple-requires-clause-simple g c = λ given lives. c.args.self.now.mode_is ∙ c.in-Simple.is

pub returns-in-Smart-clause-left : goal.returns-in-Smart-clause-left
returns-in-Smart-clause-left g c =
    subst (λ m. HasLeft m (place_of c.args.wait).index (pass_view c.args.pass.now) c.cancel_smart.result
    (pass_view c.cancel_smart.new.pass)) (sym (c.args.self.now.mode_is ∙ c.in-Smart.is)) c.cancel_smart.ensures.left

pub returns-in-Simple-clause-left : goal.returns-in-Simple-clause-left
returns-in-Simple-clause-left g c =
    subst (λ m. HasLeft m (place_of c.args.wait).index (pass_view c.args.pass.now) c.cancel_simple.result
    (pass_view c.cancel_simple.new.pass)) (sym (c.args.self.now.mode_is ∙ c.in-Simple.is)) c.cancel_simple.ensures.left

pub returns-in-Smart-clause-ready : goal.returns-in-Smart-clause-ready
returns-in-Smart-clause-ready g c = ready-left _ _ _ _ _ (returns-in-Smart-clause-left g c)

pub returns-in-Simple-clause-ready : goal.returns-in-Simple-clause-ready
returns-in-Simple-clause-ready g c = ready-left _ _ _ _ _ (returns-in-Simple-clause-left g c)

pub returns-in-Smart-clause-keeps : goal.returns-in-Smart-clause-keeps
returns-in-Smart-clause-keeps g c = keeps-left _ _ _ _ _ (returns-in-Smart-clause-left g c)

pub returns-in-Simple-clause-keeps : goal.returns-in-Simple-clause-keeps
returns-in-Simple-clause-keeps g c = keeps-left _ _ _ _ _ (returns-in-Simple-clause-left g c)

pub returns-in-Smart-clause-alone : goal.returns-in-Smart-clause-alone
returns-in-Smart-clause-alone g c = λ alone. plain-left _ _ _ _ _ (returns-in-Smart-clause-left g c) alone

pub returns-in-Simple-clause-alone : goal.returns-in-Simple-clause-alone
returns-in-Simple-clause-alone g c = λ alone. plain-left _ _ _ _ _ (returns-in-Simple-clause-left g c) alone
