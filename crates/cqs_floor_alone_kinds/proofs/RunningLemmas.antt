-- What a resource is on the running queue, a semaphore or a mutex, is a semaphore as a floor needs it.
use Rattle.std.proofs.Common.{ℕ, ◌<◌, Option, refl}
use Rattle.cqs_plan.specs.declared.plans.kind.Kind.{Kind}
use Rattle.cqs_plan.specs.Floor.{size_of}
use Rattle.cqs_plan.specs.LegalFloor.{IsOfSemaphore}
use Rattle.cqs_rule_laws.specs.declared.config.Place.{Place}
use Rattle.cqs_floor_alone_kinds.specs.declared.running_sole.RunningSole.{RunningSole}
use Rattle.cqs_floor_alone_kinds.specs.declared.running_sole.RunningSole.TheVariants.{Semaphore, Mutex}
use Rattle.cqs_floor_alone_kinds.specs.Soles.{IsLawful, object}
use Rattle.cqs_floor_alone_kinds.specs.SoleQueue.{sole_mutex, sole_queue}
use Rattle.cqs_floor_alone_kinds.specs.SoleRunning.{sole_running}
use Rattle.cqs_floor_alone_kinds.proofs.Among.{IsAmong}
use Rattle.cqs_floor_alone_kinds.proofs.MutexSole.{mutex-lawful}
use Rattle.cqs_floor_alone_kinds.proofs.QueueSole.{queue-lawful}

pub semaphore-among : IsAmong sole_queue sole_running Semaphore
semaphore-among = record {
  entries = λ x. refl;
  funds = λ x kind room waiting held funded. funded;
  funded = λ x kind room waiting held funded. funded;
  had = λ x w has. has;
  has = λ x w has. has;
}

pub mutex-among : IsAmong sole_mutex sole_running Mutex
mutex-among = record {
  entries = λ x. refl;
  funds = λ x kind room waiting held funded. funded;
  funded = λ x kind room waiting held funded. funded;
  had = λ x w has. has;
  has = λ x w has. has;
}

pub running-lawful : IsLawful sole_running
running-lawful = record { some = some; legal = legal; numbered = numbered }
  where
    some : (x : RunningSole) (kind : Option Kind) (room waiting held : ℕ)
        → sole_running.funded x kind room waiting held → 0 < size_of kind
    some (Semaphore x) kind room waiting held funded = queue-lawful.some x kind room waiting held funded
    some (Mutex x) kind room waiting held funded = mutex-lawful.some x kind room waiting held funded

    legal : (x : RunningSole) (kind : Option Kind) (room waiting held : ℕ)
        → sole_running.funded x kind room waiting held → IsOfSemaphore (size_of kind) (sole_running.entries x)
    legal (Semaphore x) kind room waiting held funded = queue-lawful.legal x kind room waiting held funded
    legal (Mutex x) kind room waiting held funded = mutex-lawful.legal x kind room waiting held funded

    numbered : (x : RunningSole) (wait : Place) (kind : Option Kind) (room waiting held : ℕ)
        → sole_running.funded x kind room waiting held
        → sole_running.has x wait → wait.index < (object sole_running kind x).next
    numbered (Semaphore x) wait kind room waiting held funded has =
        queue-lawful.numbered x wait kind room waiting held funded has
    numbered (Mutex x) wait kind room waiting held funded has =
        mutex-lawful.numbered x wait kind room waiting held funded has
