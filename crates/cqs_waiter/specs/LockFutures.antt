-- When a future that locks may be polled, and what may come of it.
use Rattle.std.specs.Prelude.{Option, Result}
use Rattle.cqs_core.specs.declared.entries.Entry.{Entry}
use Rattle.cqs_rule_laws.specs.declared.client.ClientWords.{Ghosts}
use Rattle.cqs_rule_laws.specs.declared.config.AcquireError.{AcquireError}
use Rattle.cqs_rule.specs.declared.queue.Pass.{Pass}
use Rattle.cqs_semaphore_client.specs.declared.semaphore.SemClient.{SemClient}
use Rattle.cqs_rule_laws.specs.declared.carries.Kept.{Kept}
use Rattle.cqs_rule.specs.Passes.{pass_view}
use Rattle.cqs_rule.specs.Waits.{HasWait}
use Rattle.cqs_rule_laws.specs.CallRule.{IsReady}
use Rattle.cqs_mutex.specs.declared.answers.LockLeft.{LockLeft}
use Rattle.cqs_mutex.specs.declared.guard.Guard.{Guard}
use Rattle.cqs_mutex.specs.declared.guard.LockWait.{LockWait}
use Rattle.cqs_mutex.specs.declared.mutex.Mutex.{Mutex}
use Rattle.cqs_mutex.specs.Calls.{HasLeft, LeftHolds}
use Rattle.cqs_mutex.specs.Guards.{wait_in}
use Rattle.cqs_mutex.specs.Mutexes.{Belongs}
use Rattle.cqs_waiter.specs.declared.lock_future.LockFuture.{LockFuture}
use Rattle.cqs_waiter.specs.declared.lock_future.LockOutcome.{LockOutcome}
use Rattle.cqs_waiter.specs.Arrivals.{Pends}
use Rattle.cqs_waiter.specs.Futures.{CanPoll, Gives, LookPended}
use Rattle.cqs_waiter.specs.Locks.{LockArrives, lock_calls}

module _ {T : Type 0} {g : Ghosts (SemClient (Kept T)) (Kept T) Entry} where
  -- the pass is one of this mutex, between two calls
  abbrev pub IsOfMutex : Mutex T → Pass (SemClient (Kept T)) (Kept T) Entry g → Type 0
  IsOfMutex m p = Belongs m p × IsReady (pass_view p).facts

  -- of its pass: that it has a wait, what came of a lock or a wait, what a pending poll found, and
  -- a cancel
  abbrev pub WaitsForLock : Pass (SemClient (Kept T)) (Kept T) Entry g → LockWait → Type 0
  WaitsForLock p wait = HasWait (pass_view p) (wait_in wait)

  abbrev pub LocksMutex : Pass (SemClient (Kept T)) (Kept T) Entry g → Option LockWait
      → Result (Guard T) AcquireError → Pass (SemClient (Kept T)) (Kept T) Entry g → Type 0
  LocksMutex p wait got after = LockArrives (pass_view p) wait got (pass_view after)

  abbrev pub LockPends : Pass (SemClient (Kept T)) (Kept T) Entry g → Option LockWait → LockWait
      → Pass (SemClient (Kept T)) (Kept T) Entry g → Type 0
  LockPends p wait again after = Pends lock_calls (pass_view p) wait again (pass_view after)

  abbrev pub EndsLockWait : Pass (SemClient (Kept T)) (Kept T) Entry g → LockWait → LockLeft T
      → Pass (SemClient (Kept T)) (Kept T) Entry g → Type 0
  EndsLockWait p wait answer after =
      HasLeft (wait_in wait) (pass_view p) answer (pass_view after)
      × LeftHolds answer (pass_view after)

  -- it has a pass of the mutex, and its wait, if there is one; or it was ready before
  abbrev pub CanPollLock : LockFuture T g → Type 0
  CanPollLock f = CanPoll (IsOfMutex f.mutex.now) WaitsForLock f.pass f.wait

  -- what may come of it
  abbrev pub GivesLock : LockFuture T g → LockOutcome T g → Type 0
  GivesLock f out = Gives (IsOfMutex f.mutex.now) LocksMutex f.pass f.wait out.pass out.got

  -- what may come of it later comes of it now
  abbrev pub LeadsTo : LockFuture T g → LockFuture T g → Type 0
  LeadsTo f later = (out : LockOutcome T g) → GivesLock later out → GivesLock f out

  -- the look of a poll was pending
  abbrev pub LockPended : LockFuture T g → LockFuture T g → Type 0
  LockPended f later = LookPended LockPends f.pass f.wait later.pass later.wait
