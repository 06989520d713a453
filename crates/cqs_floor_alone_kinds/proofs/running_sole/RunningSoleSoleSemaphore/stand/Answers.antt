use Rattle.cqs_floor_alone_kinds.specs.declared.running_sole.RunningSole.TheVariants.{Semaphore, Mutex}
use Rattle.cqs_floor_alone_kinds.specs.SoleQueue.{sole_mutex, sole_queue}
use Rattle.cqs_floor_alone_kinds.specs.SoleRunning.{sole_running}
use Rattle.cqs_floor_alone_kinds.proofs.Among.{tells-among}
use Rattle.cqs_floor_alone_kinds.proofs.RunningLemmas.{mutex-among, semaphore-among}
use Rattle.cqs_floor_alone_kinds.proofs.running_sole.RunningSoleSoleSemaphore.stand.Goals as goal

pub returns-in-Semaphore : goal.returns-in-Semaphore
returns-in-Semaphore c =
    rw c.in-Semaphore.is
    (tells-among sole_queue sole_running Semaphore semaphore-among c.in-Semaphore.sole
    c.stand.new.self c.stand.result c.stand.ensures)

pub returns-in-Mutex : goal.returns-in-Mutex
returns-in-Mutex c =
    rw c.in-Mutex.is
    (tells-among sole_mutex sole_running Mutex mutex-among c.in-Mutex.sole
    c.stand-in-Mutex.new.self c.stand-in-Mutex.result c.stand-in-Mutex.ensures)
