use Rattle.std.proofs.Common.{[], true, false, sym, ◌∙◌, subst, None}
use Rattle.cqs_rule.specs.Passes.{pass_view}
use Rattle.cqs_rule.proofs.Claiming.{saw-left}
use Rattle.cqs_rule_laws.proofs.Calls.{called-by}
use Rattle.cqs_rule_laws.proofs.Rules.{call-rule_own}
use Rattle.cqs_semaphore_client.specs.Semaphore.{semaphore_object}
use Rattle.cqs_semaphore_client.specs.SemaphoreSlots.{IsFull}
use Rattle.cqs_semaphore.proofs.ReleaseSteps.{gave}
use Rattle.cqs_sync_semaphore.specs.Answers.{Releases}
use Rattle.cqs_sync_semaphore.specs.declared.answers.SyncReleased.TheVariants.{Freed}
use Rattle.cqs_sync_semaphore.proofs.AloneSteps.{plain-release, still}
use Rattle.cqs_sync_semaphore.proofs.Between.{releases-between}
use Rattle.cqs_sync_semaphore.proofs.HandledOut.{tells-out}
use Rattle.cqs_sync_semaphore.proofs.ReleaseSteps.{freed-so, releases}
use Rattle.cqs_sync_semaphore.proofs.sync_semaphore.SyncSemaphore.release.Goals as goal

pub returns-then-is_below_zero-clause-released : goal.returns-then-is_below_zero-clause-released
returns-then-is_below_zero-clause-released g c =
    let t = gave true _ _ _ _ (sym c.is_below_zero.ensures ∙ c.if-is_below_zero.true) c.in-Ok.ensures.claimed
    c.give_permit.ensures.saw in
    subst (λ n. Releases n (pass_view c.args.pass.now) c.send.result (pass_view c.send.new.pass))
    c.number-number.ensures
    (releases _ _ _ _ _ c.send.result c.requires.ready t c.send.ensures.ended c.requires.belongs.live.own
    c.send.ensures.belongs.live.legal)

pub returns-then-is_below_zero-clause-between : goal.returns-then-is_below_zero-clause-between
returns-then-is_below_zero-clause-between g c =
    releases-between _ (pass_view c.args.pass.now) c.send.result (pass_view c.send.new.pass)
    (returns-then-is_below_zero-clause-released g c)

pub returns-then-is_below_zero-clause-alone : goal.returns-then-is_below_zero-clause-alone
returns-then-is_below_zero-clause-alone g c = λ alone.
    plain-release (pass_view c.args.pass.now) (pass_view c.send.new.pass) _ c.send.result
    (still _ c.requires.belongs.alone c.args.pass.now.live.0 alone c.requires.ready.idle)
    (returns-then-is_below_zero-clause-released g c)
    (still _ c.send.ensures.belongs.alone c.send.new.pass.live.0)
    (tells-out _ _ _ _ _ c.send.result c.send.ensures.ended (c.send.ensures.belongs.alone c.send.new.pass.live.0)) alone

pub returns-clause-released : goal.returns-clause-released
returns-clause-released g c =
    let t = gave false _ _ _ _ (sym c.is_below_zero.ensures ∙ c.if-is_below_zero.false) c.in-Ok.ensures.claimed
    c.give_permit.ensures.saw in
    freed-so _ _ _ c.requires.ready t c.requires.belongs.live.own c.give_permit.ensures.belongs.live.legal

pub returns-clause-alone : goal.returns-clause-alone
returns-clause-alone g c = λ alone.
    plain-release (pass_view c.args.pass.now) (pass_view c.give_permit.new.pass) None Freed
    (still _ c.requires.belongs.alone c.args.pass.now.live.0 alone c.requires.ready.idle) (returns-clause-released g c)
    (still _ c.give_permit.ensures.belongs.alone c.give_permit.new.pass.live.0) (λ only. tt) alone

-- its permits carry nothing
pub give_permit-requires-clause-full : goal.give_permit-requires-clause-full
give_permit-requires-clause-full g c =
    subst (λ b. IsFull b (pass_view c.claim_spares.new.pass)) (sym c.requires.bare) tt

-- no slot was free
pub returns-in_default-clause-refused : goal.returns-in_default-clause-refused
returns-in_default-clause-refused g c =
    let crowds = c.in_default.ensures.crowded in
    call-rule_own semaphore_object _ _ [] []
    (called-by semaphore_object _ _ _ [] (saw-left semaphore_object _ _ crowds.heads crowds.spares _ crowds.left)) tt
    c.requires.belongs.live.own c.claim_spares.ensures.belongs.live.legal
