use Rattle.std.proofs.Common.{◌∷◌, [], true, false, ap, sym, refl, ◌∙◌}
use Rattle.cqs_core.specs.declared.entries.Entry.TheVariants as entry
use Rattle.cqs_rule.specs.Passes.{pass_view}
use Rattle.cqs_semaphore.proofs.ReleaseSteps.{gave, gave-called, freed, releases-so, released-rule, ends-rule}
use Rattle.cqs_semaphore.proofs.Values.{full-left, gave-left, gave-value, gave-at-once}
use Rattle.cqs_semaphore.specs.declared.answers.Released.TheVariants.{Freed}
use Rattle.cqs_semaphore.proofs.AloneSteps.{quiet, plain-release}
use Rattle.cqs_rule.proofs.Claiming.{saw-left}
use Rattle.cqs_rule_laws.proofs.Calls.{called-by}
use Rattle.cqs_rule_laws.proofs.Rules.{call-rule_own}
use Rattle.cqs_semaphore_client.specs.Semaphore.{semaphore_object}
use Rattle.cqs_semaphore.proofs.PlainPasses.{plain-opening}
use Rattle.cqs_semaphore.proofs.semaphore.Semaphore.release.Goals as goal

pub returns-then-is_below_zero-clause-called : goal.returns-then-is_below_zero-clause-called
returns-then-is_below_zero-clause-called g c =
    let t = gave true _ _ _ _ (sym c.is_below_zero.ensures ∙ c.if-is_below_zero.true) c.in-Ok.ensures.claimed
    c.give_permit.ensures.saw in
    released-rule _ _ _ _ _ _ _ t c.send.ensures.ended c.requires.belongs.live.own c.send.ensures.belongs.live.legal

pub returns-then-is_below_zero-clause-released : goal.returns-then-is_below_zero-clause-released
returns-then-is_below_zero-clause-released g c =
    let t = gave true _ _ _ _ (sym c.is_below_zero.ensures ∙ c.if-is_below_zero.true) c.in-Ok.ensures.claimed
    c.give_permit.ensures.saw in
    releases-so _ _ _ _ _ _ _ c.requires.ready t c.send.ensures.ended

pub returns-then-is_below_zero-clause-alone : goal.returns-then-is_below_zero-clause-alone
returns-then-is_below_zero-clause-alone g c = λ alone.
    let rule = returns-then-is_below_zero-clause-called g c in
    plain-release _ _ c.send.result
    (quiet _ (plain-opening c.args.self.now c.requires.belongs (λ x. refl))
    c.requires.belongs.alone c.args.pass.now.live.0 alone c.requires.ready.idle)
    rule (returns-then-is_below_zero-clause-released g c)
    (λ idle. quiet _ (plain-opening c.args.self.now c.send.ensures.belongs (λ x. refl))
    c.send.ensures.belongs.alone c.send.new.pass.live.0 (rule.called.same.alone ∙ alone) idle) alone

pub returns-clause-called : goal.returns-clause-called
returns-clause-called g c =
    let v = pass_view c.args.pass.now in
    let t = gave false _ _ _ _ (sym c.is_below_zero.ensures ∙ c.if-is_below_zero.false) c.in-Ok.ensures.claimed
    c.give_permit.ensures.saw in
    call-rule_own semaphore_object _ _ (entry.GiveFreed v.number ∷ []) _ (gave-called false _ _ _ t) (λ n. refl, tt)
    c.requires.belongs.live.own c.give_permit.ensures.belongs.live.legal

pub returns-clause-released : goal.returns-clause-released
returns-clause-released g c =
    let t = gave false _ _ _ _ (sym c.is_below_zero.ensures ∙ c.if-is_below_zero.false) c.in-Ok.ensures.claimed
    c.give_permit.ensures.saw in
    freed _ _ _ c.requires.ready t

pub returns-clause-alone : goal.returns-clause-alone
returns-clause-alone g c = λ alone.
    let rule = returns-clause-called g c in
    plain-release _ _ Freed (quiet _ (plain-opening c.args.self.now c.requires.belongs (λ x. refl))
    c.requires.belongs.alone c.args.pass.now.live.0 alone c.requires.ready.idle)
    rule (returns-clause-released g c)
    (λ idle. quiet _ (plain-opening c.args.self.now c.give_permit.ensures.belongs (λ x. refl))
    c.give_permit.ensures.belongs.alone c.give_permit.new.pass.live.0 (rule.called.same.alone ∙ alone)
    idle)
    alone

pub returns-then-is_below_zero-clause-handed : goal.returns-then-is_below_zero-clause-handed
returns-then-is_below_zero-clause-handed g c =
    let sent = ends-rule _ _ _ _ _ c.send.ensures.ended c.give_permit.ensures.belongs.live.own
    c.send.ensures.belongs.live.legal in
    let is = c.in-Ok.ensures.claimed.left.1.is in
    gave-left _ _ _ _ (ap (λ z. z.laid) is) (ap (λ z. z.handed) is) (ap (λ z. z.seen) is) (ap (λ z. z.number) is)
    (gave-value _ _ _ _ _ c.give_permit.ensures.saw c.give_permit.ensures.handed
    (sent.called.more, sent.called.seen) sent.called.handed sent.called.unlaid)

pub returns-clause-handed : goal.returns-clause-handed
returns-clause-handed g c =
    let is = c.in-Ok.ensures.claimed.left.1.is in
    gave-left _ _ _ _ (ap (λ z. z.laid) is) (ap (λ z. z.handed) is) (ap (λ z. z.seen) is) (ap (λ z. z.number) is)
    (gave-at-once _ _ _ _ c.give_permit.ensures.saw c.give_permit.ensures.handed)

-- the step on the state is made after the claim
pub give_permit-requires-clause-full : goal.give_permit-requires-clause-full
give_permit-requires-clause-full g c =
    let is = c.in-Ok.ensures.claimed.left.1.is in
    full-left _ _ _ (ap (λ z. z.laid) is) (ap (λ z. z.handed) is) c.requires.full

-- no slot was free
pub returns-in_default-clause-called : goal.returns-in_default-clause-called
returns-in_default-clause-called g c =
    let crowds = c.in_default.ensures.crowded in
    call-rule_own semaphore_object _ _ [] []
    (called-by semaphore_object _ _ _ [] (saw-left semaphore_object _ _ crowds.heads crowds.spares _ crowds.left)) tt
    c.requires.belongs.live.own c.claim_spares.ensures.belongs.live.legal
