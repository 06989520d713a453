use Rattle.std.proofs.Common.{sym, ap, ◌∙◌, subst}
use Rattle.std.specs.Prelude.{IfSome}
use Rattle.cqs_rule.specs.Claims.{WantsSlot}
use Rattle.cqs_rule.specs.Owed.{under_reached}
use Rattle.cqs_rule_laws.specs.declared.view.Opening.{Opening}
use Rattle.cqs_rule.specs.Passes.{pass_view, client_of}
use Rattle.cqs_latch.specs.Waking.{HasGrown, On}
use Rattle.cqs_latch.proofs.Grown.{finished-grown}
use Rattle.cqs_latch.proofs.AloneByNumber.{finished-ends}
use Rattle.cqs_latch.proofs.AloneOrder.{finished-serves}
use Rattle.cqs_latch.proofs.Simple.{is-smart, is-at_once, shows-plain}
use Rattle.cqs_latch.proofs.WakeSteps.{ended-on, on-wants, resumed-on}
use Rattle.cqs_latch.proofs.latch.Latch.wake_on.Goals as goal

pub finish-requires-clause-smart : goal.finish-requires-clause-smart
finish-requires-clause-smart g c = λ given lives. is-smart _ (c.args.self.now.mode_is ∙ c.in-Smart.is)

pub finish_at_once-requires-clause-at_once : goal.finish_at_once-requires-clause-at_once
finish_at_once-requires-clause-at_once g c = is-at_once _ (c.args.self.now.mode_is ∙ c.in-Simple.is)

pub finish_at_once-requires-clause-plain : goal.finish_at_once-requires-clause-plain
finish_at_once-requires-clause-plain g c =
    shows-plain (client_of c.args.self.now.queue) (c.args.self.now.mode_is ∙ c.in-Simple.is)

pub returns-in-Smart-clause-on : goal.returns-in-Smart-clause-on
returns-in-Smart-clause-on g c =
    subst (λ z. On c.args.under (pass_view c.args.pass.now) z (pass_view c.finish.new.pass)) (sym c.handed_back.ensures)
    (resumed-on c.args.under _ _ c.finish.result c.finish.ensures.resumed)

pub returns-in-Smart-clause-grown : goal.returns-in-Smart-clause-grown
returns-in-Smart-clause-grown g c = λ smart.
    subst (λ z. HasGrown (under_reached c.args.under) z (pass_view c.finish.new.pass)) (sym c.handed_back.ensures)
    (finished-grown c.args.under _ _ c.finish.result c.requires.owes c.finish.ensures.resumed)

pub returns-in-Simple-clause-on : goal.returns-in-Simple-clause-on
returns-in-Simple-clause-on g c =
    subst (λ z. On c.args.under (pass_view c.args.pass.now) z (pass_view c.finish_at_once.new.pass))
    (sym c.handed_back_at_once.ensures)
    (ended-on c.args.under _ _ c.finish_at_once.result c.finish_at_once.ensures.finished)

pub returns-in-Smart-clause-simple : goal.returns-in-Smart-clause-simple
returns-in-Smart-clause-simple g c = λ simple. absurd (cc (simple, c.args.self.now.mode_is, c.in-Smart.is))

pub returns-in-Simple-clause-simple : goal.returns-in-Simple-clause-simple
returns-in-Simple-clause-simple g c = λ simple.
    let v = pass_view c.args.pass.now in
    let w = pass_view c.finish_at_once.new.pass in
    subst (λ z. IfSome z (λ under. WantsSlot under v w)) (sym c.handed_back_at_once.ensures)
    (on-wants _ _ v w c.finish_at_once.result c.finish_at_once.ensures.finished)

pub returns-in-Smart-clause-in_order : goal.returns-in-Smart-clause-in_order
returns-in-Smart-clause-in_order g c = λ alone smart.
    finished-serves _ _ c.requires.belongs.alone c.args.pass.now.live.0 c.finish.ensures.belongs.alone
    c.finish.new.pass.live.0 c.finish.ensures.belongs.live.legal c.args.under c.finish.result
    c.finish.ensures.resumed alone

pub returns-in-Simple-clause-in_order : goal.returns-in-Simple-clause-in_order
returns-in-Simple-clause-in_order g c = λ alone smart.
    absurd (cc (smart, c.args.self.now.mode_is, c.in-Simple.is))

pub returns-in-Smart-clause-by_number : goal.returns-in-Smart-clause-by_number
returns-in-Smart-clause-by_number g c = λ alone simple.
    absurd (cc (simple, c.args.self.now.mode_is, c.in-Smart.is))

pub returns-in-Simple-clause-by_number : goal.returns-in-Simple-clause-by_number
returns-in-Simple-clause-by_number g c = λ alone simple.
    finished-ends _ _ c.requires.belongs.alone c.args.pass.now.live.0 c.finish_at_once.ensures.belongs.alone
    c.finish_at_once.new.pass.live.0 c.finish_at_once.ensures.belongs.live.legal
    (ap (λ (o : Opening). o.mode) c.requires.belongs.opening ∙ simple) alone
    c.args.under c.finish_at_once.result c.finish_at_once.ensures.finished
