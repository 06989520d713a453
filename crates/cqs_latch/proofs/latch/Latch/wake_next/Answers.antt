use Rattle.std.proofs.Common.{sym, ap, ◌∙◌, subst}
use Rattle.std.specs.Prelude.{IfSome}
use Rattle.cqs_rule_laws.specs.declared.view.Opening.{Opening}
use Rattle.cqs_rule.specs.Claims.{WantsSlot}
use Rattle.cqs_rule.specs.Passes.{pass_view, client_of}
use Rattle.cqs_latch.specs.Waking.{HasGrown, Next}
use Rattle.cqs_latch.proofs.Grown.{begun-grown}
use Rattle.cqs_latch.proofs.AloneByNumber.{begun-ends}
use Rattle.cqs_latch.proofs.AloneOrder.{begun-serves}
use Rattle.cqs_latch.proofs.Simple.{is-smart, is-at_once, shows-plain}
use Rattle.cqs_latch.proofs.WakeSteps.{ended-next, next-wants, resumed-next}
use Rattle.cqs_latch.proofs.latch.Latch.wake_next.Goals as goal

pub begin-requires-clause-smart : goal.begin-requires-clause-smart
begin-requires-clause-smart g c = λ given lives. is-smart _ (c.args.self.now.mode_is ∙ c.in-Smart.is)

pub begin_at_once-requires-clause-at_once : goal.begin_at_once-requires-clause-at_once
begin_at_once-requires-clause-at_once g c = is-at_once _ (c.args.self.now.mode_is ∙ c.in-Simple.is)

pub begin_at_once-requires-clause-plain : goal.begin_at_once-requires-clause-plain
begin_at_once-requires-clause-plain g c =
    shows-plain (client_of c.args.self.now.queue) (c.args.self.now.mode_is ∙ c.in-Simple.is)

pub returns-in-Smart-clause-next : goal.returns-in-Smart-clause-next
returns-in-Smart-clause-next g c =
    subst (λ z. Next (pass_view c.args.pass.now) z (pass_view c.begin.new.pass)) (sym c.handed_back.ensures)
    (resumed-next _ _ c.begin.result c.begin.ensures.begun)

pub returns-in-Simple-clause-next : goal.returns-in-Simple-clause-next
returns-in-Simple-clause-next g c =
    subst (λ z. Next (pass_view c.args.pass.now) z (pass_view c.begin_at_once.new.pass))
    (sym c.handed_back_at_once.ensures) (ended-next _ _ c.begin_at_once.result c.begin_at_once.ensures.begun)

pub returns-in-Smart-clause-simple : goal.returns-in-Smart-clause-simple
returns-in-Smart-clause-simple g c = λ simple. absurd (cc (simple, c.args.self.now.mode_is, c.in-Smart.is))

pub returns-in-Simple-clause-simple : goal.returns-in-Simple-clause-simple
returns-in-Simple-clause-simple g c = λ simple.
    let v = pass_view c.args.pass.now in
    let w = pass_view c.begin_at_once.new.pass in
    subst (λ z. IfSome z (λ under. WantsSlot under v w)) (sym c.handed_back_at_once.ensures)
    (next-wants v w c.begin_at_once.result c.begin_at_once.ensures.begun)

pub returns-in-Smart-clause-grown : goal.returns-in-Smart-clause-grown
returns-in-Smart-clause-grown g c = λ smart.
    subst (λ z. HasGrown (pass_view c.args.pass.now).facts.reached z (pass_view c.begin.new.pass))
    (sym c.handed_back.ensures) (begun-grown _ _ c.begin.result c.begin.ensures.begun)

pub returns-in-Smart-clause-in_order : goal.returns-in-Smart-clause-in_order
returns-in-Smart-clause-in_order g c = λ alone smart.
    begun-serves _ _ c.requires.belongs.alone c.args.pass.now.live.0 c.begin.ensures.belongs.alone
    c.begin.new.pass.live.0 c.begin.ensures.belongs.live.legal c.begin.result
    c.begin.ensures.begun alone

pub returns-in-Simple-clause-in_order : goal.returns-in-Simple-clause-in_order
returns-in-Simple-clause-in_order g c = λ alone smart.
    absurd (cc (smart, c.args.self.now.mode_is, c.in-Simple.is))

pub returns-in-Smart-clause-by_number : goal.returns-in-Smart-clause-by_number
returns-in-Smart-clause-by_number g c = λ alone simple.
    absurd (cc (simple, c.args.self.now.mode_is, c.in-Smart.is))

pub returns-in-Simple-clause-by_number : goal.returns-in-Simple-clause-by_number
returns-in-Simple-clause-by_number g c = λ alone simple.
    begun-ends _ _ c.requires.belongs.alone c.args.pass.now.live.0 c.begin_at_once.ensures.belongs.alone
    c.begin_at_once.new.pass.live.0 c.begin_at_once.ensures.belongs.live.legal
    (ap (λ (o : Opening). o.mode) c.requires.belongs.opening ∙ simple) alone
    c.begin_at_once.result c.begin_at_once.ensures.begun
