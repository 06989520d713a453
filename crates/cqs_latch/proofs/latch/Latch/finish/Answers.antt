use Rattle.std.proofs.Common.{ap, ◌∙◌, [], None, Some, Ok, Err, subst, arith}
use Rattle.cqs_rule_laws.specs.declared.view.Opening.{Opening}
use Rattle.cqs_rule.specs.Owed.{under_reached}
use Rattle.cqs_rule.specs.Passes.{pass_view}
use Rattle.cqs_latch.specs.Waking.{HasGrown, On}
use Rattle.cqs_latch.proofs.AloneByNumber.{ends-then, finished-by_number}
use Rattle.cqs_latch.proofs.AloneOpen.{plain-finished}
use Rattle.cqs_latch.proofs.AloneOrder.{finished-all, serves-then}
use Rattle.cqs_latch.proofs.DownSteps.{on-owes, on-woke, on-handed}
use Rattle.cqs_latch.proofs.Grown.{grown-ample, smart-where}
use Rattle.cqs_latch.proofs.Kept.{keeps-finished, owes-finished, ready-finished}
use Rattle.cqs_latch.proofs.WakeSteps.{on-ran}
use Rattle.cqs_rule.proofs.Claiming.{wants-since}
use Rattle.cqs_rule.proofs.Extends.{is-ample}
use Rattle.cqs_latch.proofs.latch.Latch.finish.Goals as goal

pub returns-in-Some-clause-finished : goal.returns-in-Some-clause-finished
returns-in-Some-clause-finished g c =
    let v = pass_view c.args.pass.now in
    let w = pass_view c.wake_on.new.pass in
    on-handed v c.requires.belongs.live.own c.args.owed c.in-Some.under w c.requires.owes
    (subst (λ z. On c.args.owed.under v z w) c.in-Some.is c.wake_on.ensures.on)
    (λ none. subst (λ z. HasGrown (under_reached c.args.owed.under) z w) c.in-Some.is
    (c.wake_on.ensures.grown (smart-where _ c.in-Some.under v w c.in-Some.ensures.simple none)) none)
    c.wake_on.ensures.belongs.live.legal

pub wake-requires-clause-idle : goal.wake-requires-clause-idle
wake-requires-clause-idle g c = λ given lives.
    let v = pass_view c.args.pass.now in
    let u = pass_view c.wake_on.new.pass in
    let on = subst (λ z. On c.args.owed.under v z u) c.in_default.is c.wake_on.ensures.on in
    (on-owes c.args.owed on.0 v u c.requires.owes on.1).0

pub wake-requires-clause-owes : goal.wake-requires-clause-owes
wake-requires-clause-owes g c = λ given lives.
    let v = pass_view c.args.pass.now in
    let u = pass_view c.wake_on.new.pass in
    let on = subst (λ z. On c.args.owed.under v z u) c.in_default.is c.wake_on.ensures.on in
    (on-owes c.args.owed on.0 v u c.requires.owes on.1).1

pub wake-requires-clause-payload : goal.wake-requires-clause-payload
wake-requires-clause-payload g c = λ given lives.
    let v = pass_view c.args.pass.now in
    let u = pass_view c.wake_on.new.pass in
    let on = subst (λ z. On c.args.owed.under v z u) c.in_default.is c.wake_on.ensures.on in
    (on-owes c.args.owed on.0 v u c.requires.owes on.1).2

pub returns-in-None-clause-finished : goal.returns-in-None-clause-finished
returns-in-None-clause-finished g c =
    let v = pass_view c.args.pass.now in
    let u = pass_view c.wake_on.new.pass in
    let on = subst (λ z. On c.args.owed.under v z u) c.in_default.is c.wake_on.ensures.on in
    on-woke v c.requires.belongs.live.own c.args.owed on.0 u _ None c.requires.owes on.1 c.in-None.ensures.wakes tt
    c.wake.ensures.belongs.live.legal

pub returns-in-Some-wake-clause-finished : goal.returns-in-Some-wake-clause-finished
returns-in-Some-wake-clause-finished g c =
    let v = pass_view c.args.pass.now in
    let u = pass_view c.wake_on.new.pass in
    let on = subst (λ z. On c.args.owed.under v z u) c.in_default.is c.wake_on.ensures.on in
    on-woke v c.requires.belongs.live.own c.args.owed on.0 u _ (Some c.in-Some-wake.owed) c.requires.owes on.1
    c.in-Some-wake.ensures.wakes (λ none.
    let smart = smart-where _ c.in-Some-wake.owed.under u (pass_view c.wake.new.pass) c.in-Some-wake.ensures.simple none
    in
    let first = subst (λ z. HasGrown (under_reached c.args.owed.under) z u) c.in_default.is
    (c.wake_on.ensures.grown smart) in
    let later = c.in-Some-wake.ensures.grown none in
    omega (arith, first, later)) c.wake.ensures.belongs.live.legal

pub returns-in-Some-clause-keeps : goal.returns-in-Some-clause-keeps
returns-in-Some-clause-keeps g c = keeps-finished c.args.owed (Err _) _ _ (returns-in-Some-clause-finished g c)

pub returns-in-None-clause-keeps : goal.returns-in-None-clause-keeps
returns-in-None-clause-keeps g c = keeps-finished c.args.owed (Ok tt) _ _ (returns-in-None-clause-finished g c)

pub returns-in-Some-wake-clause-keeps : goal.returns-in-Some-wake-clause-keeps
returns-in-Some-wake-clause-keeps g c =
    keeps-finished c.args.owed (Err _) _ _ (returns-in-Some-wake-clause-finished g c)

pub returns-in-Some-clause-owes : goal.returns-in-Some-clause-owes
returns-in-Some-clause-owes g c = owes-finished c.args.owed _ _ _ (returns-in-Some-clause-finished g c)

pub returns-in-None-clause-ready : goal.returns-in-None-clause-ready
returns-in-None-clause-ready g c = ready-finished c.args.owed _ _ (returns-in-None-clause-finished g c)

pub returns-in-Some-wake-clause-owes : goal.returns-in-Some-wake-clause-owes
returns-in-Some-wake-clause-owes g c = owes-finished c.args.owed _ _ _ (returns-in-Some-wake-clause-finished g c)

pub returns-in-Some-clause-alone : goal.returns-in-Some-clause-alone
returns-in-Some-clause-alone g c =
    plain-finished c.args.owed (Err _) _ _ (returns-in-Some-clause-finished g c) c.requires.owes
    c.requires.belongs.alone c.args.pass.now.live.0 c.wake_on.ensures.belongs.alone c.wake_on.new.pass.live.0

pub returns-in-None-clause-alone : goal.returns-in-None-clause-alone
returns-in-None-clause-alone g c =
    plain-finished c.args.owed (Ok tt) _ _ (returns-in-None-clause-finished g c) c.requires.owes
    c.requires.belongs.alone c.args.pass.now.live.0 c.wake.ensures.belongs.alone c.wake.new.pass.live.0

pub returns-in-Some-wake-clause-alone : goal.returns-in-Some-wake-clause-alone
returns-in-Some-wake-clause-alone g c =
    plain-finished c.args.owed (Err _) _ _ (returns-in-Some-wake-clause-finished g c) c.requires.owes
    c.requires.belongs.alone c.args.pass.now.live.0 c.wake.ensures.belongs.alone c.wake.new.pass.live.0

pub returns-in-Some-clause-alone_in_order : goal.returns-in-Some-clause-alone_in_order
returns-in-Some-clause-alone_in_order g c = λ alone smart. c.wake_on.ensures.in_order alone smart

pub returns-in-None-clause-alone_in_order : goal.returns-in-None-clause-alone_in_order
returns-in-None-clause-alone_in_order g c = λ alone smart.
    let on = subst (λ z. On c.args.owed.under (pass_view c.args.pass.now) z (pass_view c.wake_on.new.pass))
    c.in_default.is c.wake_on.ensures.on in
    let same = (on-ran c.args.owed.under on.0 _ _ on.1).1.along.called.same.alone in
    finished-all _ _
    (serves-then [] _ _ _ (c.wake_on.ensures.in_order alone smart)
    (c.wake.ensures.in_order (same ∙ alone) smart))
    (returns-in-None-clause-alone g c alone)

pub returns-in-Some-wake-clause-alone_in_order : goal.returns-in-Some-wake-clause-alone_in_order
returns-in-Some-wake-clause-alone_in_order g c = λ alone smart.
    let on = subst (λ z. On c.args.owed.under (pass_view c.args.pass.now) z (pass_view c.wake_on.new.pass))
    c.in_default.is c.wake_on.ensures.on in
    let same = (on-ran c.args.owed.under on.0 _ _ on.1).1.along.called.same.alone in
    serves-then [] _ _ _ (c.wake_on.ensures.in_order alone smart)
    (c.wake.ensures.in_order (same ∙ alone) smart)

pub returns-in-Some-clause-alone_by_number : goal.returns-in-Some-clause-alone_by_number
returns-in-Some-clause-alone_by_number g c = λ alone simple. c.wake_on.ensures.by_number alone simple

pub returns-in-Some-wake-clause-alone_by_number : goal.returns-in-Some-wake-clause-alone_by_number
returns-in-Some-wake-clause-alone_by_number g c = λ alone simple.
    let on = subst (λ z. On c.args.owed.under (pass_view c.args.pass.now) z (pass_view c.wake_on.new.pass))
    c.in_default.is c.wake_on.ensures.on in
    let same = (on-ran c.args.owed.under on.0 _ _ on.1).1.along.called.same.alone in
    ends-then [] _ _ _ (c.wake_on.ensures.by_number alone simple)
    (c.wake.ensures.by_number (same ∙ alone) simple)

-- in simple mode one is handed back for want of a slot alone, and that never comes in an ample table
pub returns-in-Some-clause-simple_wants : goal.returns-in-Some-clause-simple_wants
returns-in-Some-clause-simple_wants g c = λ simple. c.in-Some.ensures.simple simple

pub returns-in-Some-wake-clause-simple_wants : goal.returns-in-Some-wake-clause-simple_wants
returns-in-Some-wake-clause-simple_wants g c = λ simple.
    let v = pass_view c.args.pass.now in
    let u = pass_view c.wake_on.new.pass in
    let on = subst (λ z. On c.args.owed.under v z u) c.in_default.is c.wake_on.ensures.on in
    let r = (on-ran c.args.owed.under on.0 v u on.1).1 in
    wants-since _ v u _ r.along.called.same r.heads (c.in-Some-wake.ensures.simple simple)

pub returns-in-Some-clause-simple_ends : goal.returns-in-Some-clause-simple_ends
returns-in-Some-clause-simple_ends g c = λ says simple.
    absurd ((returns-in-Some-clause-simple_wants g c simple).scarce
    (is-ample c.args.self.now.queue c.args.pass.now c.requires.belongs says))

pub returns-in-Some-wake-clause-simple_ends : goal.returns-in-Some-wake-clause-simple_ends
returns-in-Some-wake-clause-simple_ends g c = λ says simple.
    absurd ((returns-in-Some-wake-clause-simple_wants g c simple).scarce
    (is-ample c.args.self.now.queue c.args.pass.now c.requires.belongs says))

-- and what is handed back there has no ticket
pub returns-in-Some-clause-grown : goal.returns-in-Some-clause-grown
returns-in-Some-clause-grown g c = λ says.
    let told = returns-in-Some-clause-finished g c in
    grown-ample c.args.owed _ _ _ told (is-ample c.args.self.now.queue c.args.pass.now c.requires.belongs says)

pub returns-in-Some-wake-clause-grown : goal.returns-in-Some-wake-clause-grown
returns-in-Some-wake-clause-grown g c = λ says.
    let told = returns-in-Some-wake-clause-finished g c in
    grown-ample c.args.owed _ _ _ told (is-ample c.args.self.now.queue c.args.pass.now c.requires.belongs says)

pub returns-in-None-clause-alone_by_number : goal.returns-in-None-clause-alone_by_number
returns-in-None-clause-alone_by_number g c = λ alone simple.
    let on = subst (λ z. On c.args.owed.under (pass_view c.args.pass.now) z (pass_view c.wake_on.new.pass))
    c.in_default.is c.wake_on.ensures.on in
    let same = (on-ran c.args.owed.under on.0 _ _ on.1).1.along.called.same.alone in
    let finished = returns-in-None-clause-finished g c in
    finished-by_number _ _
    (ends-then [] _ _ _ (c.wake_on.ensures.by_number alone simple)
    (c.wake.ensures.by_number (same ∙ alone) simple))
    c.wake.ensures.belongs.alone c.wake.new.pass.live.0 (finished.1.called.same.alone ∙ alone)
    (ap (λ (o : Opening). o.mode) c.wake.ensures.belongs.opening ∙ simple)
    (returns-in-None-clause-ready g c) (returns-in-None-clause-alone g c alone).0
