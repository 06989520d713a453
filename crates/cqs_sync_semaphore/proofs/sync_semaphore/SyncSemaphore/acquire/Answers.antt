use Rattle.std.proofs.Common.{ℕ, ◌∷◌, [], true, false, sym, refl, ◌∙◌, arith, Option, subst}
use Rattle.cqs_core.specs.declared.entries.Entry.TheVariants as entry
use Rattle.cqs_rule.specs.Passes.{pass_view}
use Rattle.cqs_semaphore.proofs.AcquireSteps.{Came, came, is-crowded, was-free, below-now}
use Rattle.cqs_sync_semaphore.proofs.AcquireSteps.{waits-called, waits-below, waits-acquired}
use Rattle.cqs_sync_semaphore.proofs.AloneSteps.{plain-acquire, still}
use Rattle.cqs_sync_semaphore.specs.declared.answers.SyncAcquired.TheVariants.{Now}
use Rattle.cqs_rule.proofs.Claiming.{called-left}
use Rattle.cqs_rule_laws.proofs.Calls.{called-by}
use Rattle.cqs_rule_laws.proofs.Causes.{worn}
use Rattle.cqs_rule_laws.proofs.Rules.{call-rule_own}
use Rattle.cqs_semaphore_client.specs.Semaphore.{semaphore_object}
use Rattle.cqs_semaphore.specs.Answers.{Takes}
use Rattle.cqs_semaphore.specs.Calls.{CallRule}
use Rattle.cqs_semaphore.specs.Causes.{drawn_in}
use Rattle.cqs_semaphore.specs.Entries.{came_by, took_entries}
use Rattle.cqs_semaphore.proofs.States.{next-count}
use Rattle.cqs_sync_semaphore.proofs.sync_semaphore.SyncSemaphore.acquire.Goals as goal

pub returns-then-next_wait-limit-clause-called : goal.returns-then-next_wait-limit-clause-called
returns-then-next_wait-limit-clause-called g c =
    call-rule_own semaphore_object _ _ [] [] (called-by semaphore_object _ _ _ [] c.next_wait.ensures.saw.saw) tt
    c.requires.belongs.live.own c.next_wait.ensures.belongs.live.legal

pub returns-then-next_wait-limit-clause-worn : goal.returns-then-next_wait-limit-clause-worn
returns-then-next_wait-limit-clause-worn g c = λ is_worn.
    let limit = c.limit.ensures in
    let is = c.requires.belongs.limit in
    let high = c.if-next_wait-limit.true in
    worn semaphore_object drawn_in _ _ _ c.next_wait.ensures.saw.saw (next-count _ _ _ c.next_wait.ensures.saw)
    (omega arith)

pub returns-then-is_above_zero-clause-called : goal.returns-then-is_above_zero-clause-called
returns-then-is_above_zero-clause-called g c =
    let limit = c.limit.ensures in
    let is = c.requires.belongs.limit in
    let low = c.if-next_wait-limit.false in
    let v = pass_view c.args.pass.now in
    let t : Came true v (pass_view c.take_permit.new.pass) =
    came true _ _ _ _ _ _ (sym c.is_above_zero.ensures ∙ c.if-is_above_zero.true) (omega arith)
    c.next_wait.ensures.saw c.in-Ok.ensures.claimed c.take_permit.ensures.saw in
    subst (λ (n : Option ℕ). CallRule v (took_entries v.number n) (came_by n) (pass_view c.take_permit.new.pass))
    (sym c.permit_by.ensures)
    (call-rule_own semaphore_object _ _ (entry.TakeNow v.number ∷ []) _ t.called (λ n. refl, tt)
    c.requires.belongs.live.own c.take_permit.ensures.belongs.live.legal)

pub returns-then-is_above_zero-clause-below : goal.returns-then-is_above_zero-clause-below
returns-then-is_above_zero-clause-below g c =
    let limit = c.limit.ensures in
    let is = c.requires.belongs.limit in
    let low = c.if-next_wait-limit.false in
    below-now true _ _ (came true _ _ _ _ _ _ (sym c.is_above_zero.ensures ∙ c.if-is_above_zero.true) (omega arith)
    c.next_wait.ensures.saw c.in-Ok.ensures.claimed c.take_permit.ensures.saw)

pub returns-then-is_above_zero-clause-acquired : goal.returns-then-is_above_zero-clause-acquired
returns-then-is_above_zero-clause-acquired g c =
    let limit = c.limit.ensures in
    let is = c.requires.belongs.limit in
    let low = c.if-next_wait-limit.false in
    subst (λ (n : Option ℕ). Takes (pass_view c.args.pass.now) n (pass_view c.take_permit.new.pass))
    (sym c.permit_by.ensures)
    (was-free _ _ c.requires.ready (came true _ _ _ _ _ _ (sym c.is_above_zero.ensures ∙ c.if-is_above_zero.true)
    (omega arith) c.next_wait.ensures.saw c.in-Ok.ensures.claimed c.take_permit.ensures.saw))

pub returns-then-is_above_zero-clause-alone : goal.returns-then-is_above_zero-clause-alone
returns-then-is_above_zero-clause-alone g c = λ alone.
    plain-acquire _ _ (Now c.permit_by.result)
    (still _ c.requires.belongs.alone c.args.pass.now.live.0 alone c.requires.ready.idle)
    (returns-then-is_above_zero-clause-called g c) alone

pub returns-clause-called : goal.returns-clause-called
returns-clause-called g c =
    let limit = c.limit.ensures in
    let is = c.requires.belongs.limit in
    let low = c.if-next_wait-limit.false in
    waits-called _ _ _ _ (came false _ _ _ _ _ _ (sym c.is_above_zero.ensures ∙ c.if-is_above_zero.false) (omega arith)
    c.next_wait.ensures.saw c.in-Ok.ensures.claimed c.take_permit.ensures.saw) c.wait_in_line.ensures.waits
    c.requires.belongs.live.own c.wait_in_line.ensures.belongs.live.legal

pub returns-clause-below : goal.returns-clause-below
returns-clause-below g c =
    let limit = c.limit.ensures in
    let is = c.requires.belongs.limit in
    let low = c.if-next_wait-limit.false in
    waits-below _ _ _ _ (came false _ _ _ _ _ _ (sym c.is_above_zero.ensures ∙ c.if-is_above_zero.false) (omega arith)
    c.next_wait.ensures.saw c.in-Ok.ensures.claimed c.take_permit.ensures.saw) c.wait_in_line.ensures.waits

pub returns-clause-acquired : goal.returns-clause-acquired
returns-clause-acquired g c =
    let limit = c.limit.ensures in
    let is = c.requires.belongs.limit in
    let low = c.if-next_wait-limit.false in
    waits-acquired _ _ _ _ c.requires.ready
    (came false _ _ _ _ _ _ (sym c.is_above_zero.ensures ∙ c.if-is_above_zero.false)
    (omega arith) c.next_wait.ensures.saw c.in-Ok.ensures.claimed c.take_permit.ensures.saw)
    c.wait_in_line.ensures.waits

pub returns-clause-alone : goal.returns-clause-alone
returns-clause-alone g c = λ alone.
    plain-acquire _ _ c.wait_in_line.result
    (still _ c.requires.belongs.alone c.args.pass.now.live.0 alone c.requires.ready.idle)
    (returns-clause-called g c) alone

pub returns-in_default-clause-crowded : goal.returns-in_default-clause-crowded
returns-in_default-clause-crowded g c = λ crowded.
    let limit = c.limit.ensures in
    let is = c.requires.belongs.limit in
    let low = c.if-next_wait-limit.false in
    is-crowded _ _ _ _ (omega arith) c.next_wait.ensures.saw c.in_default.ensures.crowded

-- no slot was free
pub returns-in_default-clause-called : goal.returns-in_default-clause-called
returns-in_default-clause-called g c =
    let crowds = c.in_default.ensures.crowded in
    call-rule_own semaphore_object _ _ [] []
    (called-left semaphore_object _ _ _ _ crowds.spares _ c.next_wait.ensures.saw.saw (crowds.heads, crowds.left)) tt
    c.requires.belongs.live.own c.claim_spares.ensures.belongs.live.legal
