-- A lock is what a poll begins with that has no wait yet.
use Rattle.std.proofs.Common.{None, Result, Ok, Err}
use Rattle.cqs_core.specs.declared.entries.Entry.{Entry}
use Rattle.cqs_rule_laws.specs.declared.config.AcquireError.{AcquireError}
use Rattle.cqs_rule_laws.specs.declared.carries.Kept.{Kept}
use Rattle.cqs_rule_laws.specs.declared.view.View.{View}
use Rattle.cqs_mutex.specs.declared.answers.Locked.{Locked}
use Rattle.cqs_mutex.specs.declared.answers.Locked.TheVariants.{Now, Later}
use Rattle.cqs_mutex.specs.Calls.{HasLocked, LockedHolds}
use Rattle.cqs_waiter.specs.Locks.{LockBegins}

module _ {T : Type 0} where
  pub lock_begins : (v w : View Entry (Kept T)) (answer : Result (Locked T) AcquireError) → HasLocked v answer w
      → LockedHolds answer w → LockBegins v None answer w
  lock_begins v w (Ok (Now guard)) locked holds = (locked, holds)
  lock_begins v w (Ok (Later wait)) locked holds = (locked, holds)
  lock_begins v w (Err e) locked holds = (locked, holds)
