-- How a mutex came to a caller who locked, and looked at its wait until it was served: what the
-- mutex's own calls gave, one after the other.
use Rattle.std.specs.Prelude.{Option, Result, Ok, Err}
use Rattle.cqs_core.specs.declared.entries.Entry.{Entry}
use Rattle.cqs_rule_laws.specs.declared.config.AcquireError.{AcquireError}
use Rattle.cqs_rule_laws.specs.declared.carries.Kept.{Kept}
use Rattle.cqs_rule_laws.specs.declared.view.View.{View}
use Rattle.cqs_mutex.specs.declared.answers.Locked.{Locked}
use Rattle.cqs_mutex.specs.declared.answers.Locked.TheVariants.{Now, Later}
use Rattle.cqs_mutex.specs.declared.answers.PolledLock.{PolledLock}
use Rattle.cqs_mutex.specs.declared.answers.PolledLock.TheVariants.{Granted, Pending}
use Rattle.cqs_mutex.specs.declared.guard.Guard.{Guard}
use Rattle.cqs_mutex.specs.declared.guard.LockWait.{LockWait}
use Rattle.cqs_mutex.specs.Calls.{HasLocked, HasPolled, LockedHolds, PolledHolds}
use Rattle.cqs_mutex.specs.Guards.{wait_in}
use Rattle.cqs_waiter.specs.Arrivals.{WaiterCalls, Arrives, BeginsAtOnce, BeginsToWait, BeginsRefused}

module _ {T : Type 0} where
  -- a lock, and a look at a wait, each with what the pass holds then or waits for
  abbrev pub Locks : View Entry (Kept T) → Result (Locked T) AcquireError → View Entry (Kept T)
      → Type 0
  Locks v answer w = HasLocked v answer w × LockedHolds answer w

  abbrev pub Looks : LockWait → View Entry (Kept T) → PolledLock T → View Entry (Kept T) → Type 0
  Looks wait v answer w = HasPolled (wait_in wait) v answer w × PolledHolds answer w

  abbrev pub lock_calls : WaiterCalls (View Entry (Kept T)) LockWait (Guard T)
  lock_calls = record {
    at_once = λ v guard w. Locks v (Ok (Now guard)) w;
    waits = λ v wait w. Locks v (Ok (Later wait)) w;
    refuses = λ v e w. Locks v (Err e) w;
    serves = λ wait v guard w. Looks wait v (Granted guard) w;
    pends = λ wait v again w. Looks wait v (Pending again) w;
  }

  -- what came of a lock, or of the wait that it had got before
  abbrev pub LockArrives : View Entry (Kept T) → Option LockWait → Result (Guard T) AcquireError
      → View Entry (Kept T) → Type 0
  LockArrives = Arrives lock_calls

  -- what a poll begins with: the wait of before, or what a lock got
  abbrev pub LockBegins : View Entry (Kept T) → Option LockWait → Result (Locked T) AcquireError
      → View Entry (Kept T) → Type 0
  LockBegins v wait (Ok (Now guard)) w = BeginsAtOnce lock_calls v wait guard w
  LockBegins v wait (Ok (Later got)) w = BeginsToWait lock_calls v wait got w
  LockBegins v wait (Err e) w = BeginsRefused lock_calls v wait e w
