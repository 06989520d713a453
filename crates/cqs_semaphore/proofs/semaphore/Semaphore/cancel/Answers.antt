use Rattle.std.proofs.Common.{Some, ◌∷◌, [], refl, ap, subst}
use Rattle.cqs_rule.specs.Passes.{pass_view}
use Rattle.cqs_rule.specs.Waits.{place_of}
use Rattle.cqs_core.specs.declared.entries.Entry.TheVariants as entry
use Rattle.cqs_semaphore.specs.Calls.{CallRule}
use Rattle.cqs_semaphore.specs.Entries.{passed_further}
use Rattle.cqs_cancel.specs.Alone.{OwesNone}
use Rattle.cqs_semaphore.proofs.AloneSteps.{quiet, plain-left, plain-late, none-brought, none-late}
use Rattle.cqs_semaphore.proofs.Between.{passed-between}
use Rattle.cqs_semaphore.proofs.CancelSteps.{gone, gone-owing, late}
use Rattle.cqs_semaphore.proofs.PlainPasses.{plain-opening}
use Rattle.cqs_semaphore.proofs.semaphore.Semaphore.cancel.Goals as goal

pub returns-in-Gone-clause-cancelled : goal.returns-in-Gone-clause-cancelled
returns-in-Gone-clause-cancelled g c =
    gone _ _ _ c.requires.ready c.requires.belongs.live.own c.cancel.ensures.belongs.live.legal
    (rw c.in-Gone.is at c.cancel.ensures.cancelled)

pub returns-in-Gone-clause-alone : goal.returns-in-Gone-clause-alone
returns-in-Gone-clause-alone g c = λ alone.
    plain-left _ _ _ _ (returns-in-Gone-clause-cancelled g c).1 alone

pub returns-in-GoneOwing-clause-cancelled : goal.returns-in-GoneOwing-clause-cancelled
returns-in-GoneOwing-clause-cancelled g c =
    gone-owing _ _ _ _ _ _ c.requires.ready c.requires.belongs.live.own c.pass_on.ensures.belongs.live.legal
    (rw c.in-GoneOwing.is at c.cancel.ensures.cancelled) c.pass_on.ensures.passed

pub returns-in-GoneOwing-clause-between : goal.returns-in-GoneOwing-clause-between
returns-in-GoneOwing-clause-between g c =
    let so = returns-in-GoneOwing-clause-cancelled g c in
    passed-between (place_of c.args.wait).index (pass_view c.args.pass.now) (pass_view c.pass_on.new.pass) _ so.0 so.2.1

pub returns-in-GoneOwing-clause-alone : goal.returns-in-GoneOwing-clause-alone
returns-in-GoneOwing-clause-alone g c = λ alone.
    plain-left _ _ _ _ (returns-in-GoneOwing-clause-cancelled g c).1 alone

pub returns-in-Late-clause-cancelled : goal.returns-in-Late-clause-cancelled
returns-in-Late-clause-cancelled g c =
    late _ _ _ _ _ c.requires.ready c.requires.belongs.live.own c.cancel.ensures.belongs.live.legal
    (rw c.in-Late.is at c.cancel.ensures.cancelled) (ap (λ k. Some k) c.number-number.ensures)

pub returns-in-Late-clause-alone : goal.returns-in-Late-clause-alone
returns-in-Late-clause-alone g c = λ alone.
    let v = pass_view c.args.pass.now in
    let k = (place_of c.args.wait).index in
    let so = returns-in-Late-clause-cancelled g c in
    plain-late _ _ _
    (subst (λ p. CallRule v (entry.Late v.number k ∷ []) (passed_further p) (pass_view c.cancel.new.pass)) so.2.0 so.1)
    so.2.2 alone

pub returns-in-Gone-clause-alone_brings_none : goal.returns-in-Gone-clause-alone_brings_none
returns-in-Gone-clause-alone_brings_none g c = λ alone.
    let so = returns-in-Gone-clause-cancelled g c in
    none-brought _ _ _ so.0
    (quiet _ (plain-opening c.args.self.now c.requires.belongs (λ x. refl))
    c.requires.belongs.alone c.args.pass.now.live.0 alone c.requires.ready.idle) so.1 alone

pub returns-in-GoneOwing-clause-alone_brings_none : goal.returns-in-GoneOwing-clause-alone_brings_none
returns-in-GoneOwing-clause-alone_brings_none g c = λ alone.
    let so = returns-in-GoneOwing-clause-cancelled g c in
    none-brought _ _ _ so.0
    (quiet _ (plain-opening c.args.self.now c.requires.belongs (λ x. refl))
    c.requires.belongs.alone c.args.pass.now.live.0 alone c.requires.ready.idle) so.1 alone

pub returns-in-Late-clause-alone_brings_none : goal.returns-in-Late-clause-alone_brings_none
returns-in-Late-clause-alone_brings_none g c = λ alone.
    let v = pass_view c.args.pass.now in
    let k = (place_of c.args.wait).index in
    let so = returns-in-Late-clause-cancelled g c in
    none-late _ _ k (quiet _ (plain-opening c.args.self.now c.requires.belongs (λ x. refl))
    c.requires.belongs.alone c.args.pass.now.live.0 alone c.requires.ready.idle)
    (subst (λ p. CallRule v (entry.Late v.number k ∷ []) (passed_further p) (pass_view c.cancel.new.pass)) so.2.0 so.1)
    alone

pub returns-in-GoneOwing-clause-alone_hands_none : goal.returns-in-GoneOwing-clause-alone_hands_none
returns-in-GoneOwing-clause-alone_hands_none g c = λ alone.
    absurd (subst OwesNone c.in-GoneOwing.is (c.cancel.ensures.alone alone))
