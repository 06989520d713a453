use Rattle.cqs_semaphore_crew.proofs.Calls.{calls-kept}
use Rattle.cqs_semaphore_crew.proofs.Telling.{adds-then}
use Rattle.cqs_semaphore_crew.proofs.worker.acquire_once.Goals as goal

pub returns-after-loop-clause-adds : goal.returns-after-loop-clause-adds
returns-after-loop-clause-adds g c = adds-then 0 0 0 _ _ _ _ _ _ c.seek.ensures.adds c.give_back.ensures.adds

pub returns-after-loop-clause-calls : goal.returns-after-loop-clause-calls
returns-after-loop-clause-calls g c = calls-kept 1 0 _ _ _ c.seek.ensures.calls c.give_back.ensures.keeps
