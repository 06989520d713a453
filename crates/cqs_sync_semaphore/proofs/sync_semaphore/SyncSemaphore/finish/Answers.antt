use Rattle.cqs_sync_semaphore.proofs.AloneSteps.{plain-end, still, turned-back}
use Rattle.cqs_sync_semaphore.proofs.Between.{ends-between}
use Rattle.cqs_sync_semaphore.proofs.HandledOut.{tells-out}
use Rattle.cqs_sync_semaphore.proofs.ReleaseSteps.{finishes}
use Rattle.cqs_sync_semaphore.proofs.ResumeSteps.{drawn-past, further-so, holds-if}
use Rattle.cqs_sync_semaphore.proofs.sync_semaphore.SyncSemaphore.finish.Goals as goal

pub released-requires : goal.released-requires
released-requires g c = record {
  holds = holds-if _ _ _ _ c.finish_sync-resumed.result c.finish_sync-resumed.ensures.resumed;
}

pub returns-clause-ends : goal.returns-clause-ends
returns-clause-ends g c =
    finishes _ _ _ _ _ c.released.result c.requires.further
    (c.finish_sync-resumed.result, c.released.ensures, c.finish_sync-resumed.ensures.resumed)
    c.requires.belongs.live.own c.finish_sync-resumed.ensures.belongs.live.legal

pub returns-clause-alone : goal.returns-clause-alone
returns-clause-alone g c = λ alone one.
    plain-end _ _ _ _ _ c.released.result (returns-clause-ends g c)
    (still _ c.finish_sync-resumed.ensures.belongs.alone c.finish_sync-resumed.new.pass.live.0)
    (tells-out _ _ _ _ _ c.released.result
    (c.finish_sync-resumed.result, c.released.ensures, c.finish_sync-resumed.ensures.resumed)
    (c.finish_sync-resumed.ensures.belongs.alone c.finish_sync-resumed.new.pass.live.0)) alone one

pub returns-clause-alone_turned : goal.returns-clause-alone_turned
returns-clause-alone_turned g c = λ alone none.
    turned-back _ _ _ _ _ c.released.result (returns-clause-ends g c)
    (still _ c.finish_sync-resumed.ensures.belongs.alone c.finish_sync-resumed.new.pass.live.0)
    (tells-out _ _ _ _ _ c.released.result
    (c.finish_sync-resumed.result, c.released.ensures, c.finish_sync-resumed.ensures.resumed)
    (c.finish_sync-resumed.ensures.belongs.alone c.finish_sync-resumed.new.pass.live.0)) alone none

pub returns-clause-further : goal.returns-clause-further
returns-clause-further g c = λ ample.
    further-so _ _ c.finish_sync-resumed.result _ c.released.ensures (c.finish_sync-resumed.ensures.further ample)

pub returns-clause-drawn_past : goal.returns-clause-drawn_past
returns-clause-drawn_past g c =
    drawn-past _ _ _ _ _ _ c.finish_sync-resumed.result c.released.result c.requires.owes.reached c.released.ensures
    c.finish_sync-resumed.ensures.resumed

pub returns-clause-between : goal.returns-clause-between
returns-clause-between g c = ends-between _ _ _ _ _ c.released.result _ (returns-clause-ends g c)
