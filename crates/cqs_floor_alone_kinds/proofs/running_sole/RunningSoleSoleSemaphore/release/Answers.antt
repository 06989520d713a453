use Rattle.cqs_floor_alone_kinds.specs.declared.running_sole.RunningSole.TheVariants.{Semaphore, Mutex}
use Rattle.cqs_floor_alone_kinds.specs.SoleQueue.{sole_mutex, sole_queue}
use Rattle.cqs_floor_alone_kinds.specs.SoleRunning.{sole_running}
use Rattle.cqs_floor_alone_kinds.proofs.Among.{releases-among}
use Rattle.cqs_floor_alone_kinds.proofs.RunningLemmas.{mutex-among, semaphore-among}
use Rattle.cqs_floor_alone_kinds.proofs.running_sole.RunningSoleSoleSemaphore.release.Goals as goal

pub returns-in-Semaphore : goal.returns-in-Semaphore
returns-in-Semaphore c =
    rw c.in-Semaphore.is
    (releases-among sole_queue sole_running Semaphore semaphore-among c.in-Semaphore.sole
    c.release.new.self c.release.result c.release.ensures)

pub returns-in-Mutex : goal.returns-in-Mutex
returns-in-Mutex c =
    rw c.in-Mutex.is
    (releases-among sole_mutex sole_running Mutex mutex-among c.in-Mutex.sole
    c.release-in-Mutex.new.self c.release-in-Mutex.result c.release-in-Mutex.ensures)
