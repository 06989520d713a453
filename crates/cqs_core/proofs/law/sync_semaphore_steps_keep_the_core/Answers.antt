use Rattle.cqs_core.proofs.SemaphoreSteps.{step-sync-core}
use Rattle.cqs_core.proofs.law.sync_semaphore_steps_keep_the_core.Goals as goal

pub returns : goal.returns
returns c = step-sync-core
