-- What a pass that makes rounds is at between two of them.
use Rattle.std.specs.Prelude.{ℕ}
use Rattle.cqs_barrier.specs.declared.answers.PartyWait.{PartyWait}
use Rattle.cqs_barrier.specs.declared.barrier.Barrier.{Barrier}
use Rattle.cqs_barrier.specs.declared.client.BarrierClient.{BarrierClient}
use Rattle.cqs_barrier.specs.Calls as barrier
use Rattle.cqs_barrier.specs.Waits.{wait_in}
use Rattle.cqs_barrier_object.specs.declared.entries.BarrierEntry.{BarrierEntry}
use Rattle.cqs_core.specs.declared.entries.Entry.{Entry}
use Rattle.cqs_latch.specs.declared.client.LatchClient.{LatchClient}
use Rattle.cqs_latch.specs.declared.latch.Latch.{Latch}
use Rattle.cqs_latch.specs.Calls as latch
use Rattle.cqs_latch_object.specs.declared.entries.LatchEntry.{LatchEntry}
use Rattle.cqs_mutex.specs.declared.mutex.Mutex.{Mutex}
use Rattle.cqs_mutex.specs.Mutexes as mutex
use Rattle.cqs_pool.specs.declared.client.PoolClient.{PoolClient}
use Rattle.cqs_pool.specs.Answers.{IsInHand}
use Rattle.cqs_pool.specs.Calls as pool
use Rattle.cqs_pool_object.specs.declared.entries.PoolEntry.{PoolEntry}
use Rattle.cqs_rule_laws.specs.declared.client.ClientWords.{Ghosts}
use Rattle.cqs_rule.specs.declared.queue.Pass.{Pass}
use Rattle.cqs_rule.specs.declared.queue.tokens.Wait.{Wait}
use Rattle.cqs_semaphore_client.specs.declared.semaphore.SemClient.{SemClient}
use Rattle.cqs_rule_laws.specs.declared.carries.Kept.{Kept}
use Rattle.cqs_rule.specs.Passes.{pass_view}
use Rattle.cqs_rule.specs.Waits.{HasWait}
use Rattle.cqs_rule_laws.specs.CallRule.{IsReady}
use Rattle.cqs_pool_values.specs.declared.opening.ValuePool.{ValuePool}
use Rattle.cqs_pool_values.specs.Pools.{Belongs}

module _ {T : Type 0} {g : Ghosts (SemClient (Kept T)) (Kept T) Entry} where
  -- it is one of the mutex, and owes nothing
  pub record IsIdleAtMutex (m : Mutex T) (p : Pass (SemClient (Kept T)) (Kept T) Entry g)
      : Type 0 where
    pub belongs : mutex.Belongs m p
    pub ready : IsReady (pass_view p).facts

module _ {T : Type 0} {g : Ghosts (PoolClient (Kept T)) (Kept T) PoolEntry} where
  -- it is one of the pool, and owes nothing
  pub record IsIdleAtPool (m : ValuePool T) (p : Pass (PoolClient (Kept T)) (Kept T) PoolEntry g)
      : Type 0 where
    pub belongs : Belongs m p
    pub ready : IsReady (pass_view p).facts

  -- it also has this element in hand
  pub record HasInHand (m : ValuePool T) (e : ℕ)
      (p : Pass (PoolClient (Kept T)) (Kept T) PoolEntry g) : Type 0 where
    pub idle : IsIdleAtPool m p
    pub has : IsInHand e (pass_view p).facts

module _ {T : Type 0} {g : Ghosts (LatchClient T) T LatchEntry} where
  -- it is one of the latch, and owes nothing
  pub record IsIdleAtLatch (l : Latch T) (p : Pass (LatchClient T) T LatchEntry g) : Type 0 where
    pub belongs : latch.IsMine l p
    pub ready : IsReady (pass_view p).facts

  -- it also has this wait
  pub record WaitsAtLatch (l : Latch T) (wait : Wait) (p : Pass (LatchClient T) T LatchEntry g)
      : Type 0 where
    pub idle : IsIdleAtLatch l p
    pub has : HasWait (pass_view p) wait

module _ {T : Type 0} {g : Ghosts (BarrierClient T) T BarrierEntry} where
  -- it is one of the barrier, and owes nothing
  pub record IsIdleAtBarrier (b : Barrier T) (p : Pass (BarrierClient T) T BarrierEntry g)
      : Type 0 where
    pub belongs : barrier.IsMine b p
    pub ready : IsReady (pass_view p).facts

  -- it also has this wait
  pub record WaitsAtBarrier (b : Barrier T) (wait : PartyWait)
      (p : Pass (BarrierClient T) T BarrierEntry g) : Type 0 where
    pub idle : IsIdleAtBarrier b p
    pub has : HasWait (pass_view p) (wait_in wait)
