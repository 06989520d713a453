use Rattle.std.proofs.Common.{ap, refl, None, Some, ◌∙◌}
use Rattle.cqs_semaphore.proofs.AloneSteps.{none-brought, none-late, plain-late, plain-left}
use Rattle.cqs_semaphore.proofs.CancelSteps.{gone, late}
use Rattle.cqs_sync_semaphore.proofs.AloneSteps.{still}
use Rattle.cqs_sync_semaphore.proofs.CancelSteps.{cancelled, never-owing, too-late}
use Rattle.cqs_sync_semaphore.proofs.SyncPasses.{sync-opening}
use Rattle.cqs_sync_semaphore.proofs.sync_semaphore.SyncSemaphore.cancel.Goals as goal

pub returns-in-Gone-clause-cancelled : goal.returns-in-Gone-clause-cancelled
returns-in-Gone-clause-cancelled g c =
    cancelled _ _ _ (sync-opening c.args.self.now c.cancel.ensures.belongs (λ x. refl))
    (gone _ _ _ c.requires.ready c.requires.belongs.live.own c.cancel.ensures.belongs.live.legal
    (rw c.in-Gone.is at c.cancel.ensures.cancelled))

pub returns-in-Gone-clause-alone : goal.returns-in-Gone-clause-alone
returns-in-Gone-clause-alone g c = λ alone.
    plain-left _ _ _ _ (returns-in-Gone-clause-cancelled g c).0 alone

pub returns-in-Gone-clause-alone_brings_none : goal.returns-in-Gone-clause-alone_brings_none
returns-in-Gone-clause-alone_brings_none g c = λ alone.
    none-brought _ _ _ None (still _ c.requires.belongs.alone c.args.pass.now.live.0 alone c.requires.ready.idle).quiet
    (returns-in-Gone-clause-cancelled g c).0 alone

pub unreachable-requires : goal.unreachable-requires
unreachable-requires g c =
    never-owing _ _ _ _ (sync-opening c.args.self.now c.cancel.ensures.belongs (λ x. refl))
    (rw c.in-GoneOwing.is at c.cancel.ensures.cancelled)

pub returns-in-Late-clause-cancelled : goal.returns-in-Late-clause-cancelled
returns-in-Late-clause-cancelled g c =
    too-late _ _ _ _ (late _ _ _ _ c.permit_by.result c.requires.ready c.requires.belongs.live.own
    c.cancel.ensures.belongs.live.legal (rw c.in-Late.is at c.cancel.ensures.cancelled)
    (c.permit_by.ensures ∙ ap (λ k. Some k) c.number-number.ensures))

pub returns-in-Late-clause-alone : goal.returns-in-Late-clause-alone
returns-in-Late-clause-alone g c = λ alone.
    let so = returns-in-Late-clause-cancelled g c in plain-late _ _ _ so.0 so.2 alone

pub returns-in-Late-clause-alone_brings_none : goal.returns-in-Late-clause-alone_brings_none
returns-in-Late-clause-alone_brings_none g c = λ alone.
    none-late _ _ _ (still _ c.requires.belongs.alone c.args.pass.now.live.0 alone c.requires.ready.idle).quiet
    (returns-in-Late-clause-cancelled g c).0 alone
