use Rattle.cqs_sync_semaphore.proofs.ResumeSteps.{holds-if}
use Rattle.cqs_sync_semaphore.proofs.sync_semaphore.SyncSemaphore.send.Goals as goal

pub released-requires : goal.released-requires
released-requires g c = record {
  holds = holds-if _ _ _ _ c.resume_sync-resumed.result c.resume_sync-resumed.ensures.resumed;
}

pub returns-clause-ended : goal.returns-clause-ended
returns-clause-ended g c =
    (c.resume_sync-resumed.result, c.released.ensures, c.resume_sync-resumed.ensures.resumed)
