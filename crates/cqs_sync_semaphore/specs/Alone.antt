-- A pass that is alone: each of its calls is the plain semaphore's call, as one thread makes it. It
-- comes to no broken number, and breaks none.
use Rattle.std.specs.Prelude.{ℕ, List, None}
use Rattle.cqs_core.specs.declared.entries.Entry.{Entry}
use Rattle.cqs_core.specs.QueueLine.{Waiting}
use Rattle.cqs_core.specs.QueueWaiters.{Waits}
use Rattle.cqs_rule_laws.specs.declared.view.View.{View}
use Rattle.cqs_semaphore.specs.declared.answers.Acquired.TheVariants as acquired
use Rattle.cqs_semaphore.specs.declared.answers.Released.TheVariants as released
use Rattle.cqs_semaphore.specs.declared.answers.CancelAnswer.TheVariants as answer
use Rattle.cqs_semaphore.specs.Alone as plain
use Rattle.cqs_semaphore.specs.Calls.{plain_after}
use Rattle.cqs_sync_semaphore.specs.Owed.{token_of}
use Rattle.cqs_sync_semaphore.specs.declared.answers.SyncAcquired.{SyncAcquired}
use Rattle.cqs_sync_semaphore.specs.declared.answers.SyncAcquired.TheVariants.{Now, Later, Broke as Broken}
use Rattle.cqs_sync_semaphore.specs.declared.answers.SyncLeft.{SyncLeft}
use Rattle.cqs_sync_semaphore.specs.declared.answers.SyncLeft.TheVariants.{Cancelled, TooLate}
use Rattle.cqs_sync_semaphore.specs.declared.answers.SyncReleased.{SyncReleased}
use Rattle.cqs_sync_semaphore.specs.declared.answers.SyncReleased.TheVariants.{Freed, Sent, Void, Broke, Handling, Under}

-- nobody waits in line under this number
abbrev pub IsOut : ℕ → List Waiting → Type 0
IsOut k line = (c : ℕ) → ¬ Waits k c line

module _ {T : Type 0} where
  abbrev pub IsPlainAcquire : View Entry T → SyncAcquired → Type 0
  IsPlainAcquire v (Now permit) = plain.IsPlainAcquire v (acquired.Now permit)
  IsPlainAcquire v (Later wait) = plain.IsPlainAcquire v (acquired.Later wait)
  IsPlainAcquire v (Broken k) = ⊥

  -- A release that hands the resumption back, whatever the cause, is the plain semaphore's with the
  -- `finish` that ends it: somebody waits in line, and just this permit is on its way. The caller
  -- that is told of as about to leave waits in line no more.
  abbrev pub IsPlainRelease : View Entry T → SyncReleased → View Entry T → Type 0
  IsPlainRelease v Freed w = plain.IsPlainRelease v released.Freed w
  IsPlainRelease v (Sent k) w = plain.IsPlainRelease v (released.Sent k) w
  IsPlainRelease v (Void k) w = ⊥
  IsPlainRelease v (Broke k permit) w = ⊥
  IsPlainRelease v (Handling k under) w =
      plain.IsPlainRelease v (released.Under (token_of under)) w × IsOut k (plain_after w).line
  IsPlainRelease v (Under under) w = plain.IsPlainRelease v (released.Under (token_of under)) w

  -- The end of a release, while just one permit is on its way, goes to the first of the line; or it
  -- is handed back again, and nothing has changed.
  abbrev pub IsPlainEnd : View Entry T → SyncReleased → View Entry T → Type 0
  IsPlainEnd v Freed w = ⊥
  IsPlainEnd v (Sent k) w = plain.IsPlainEnd v (released.Sent k) w
  IsPlainEnd v (Void k) w = ⊥
  IsPlainEnd v (Broke k permit) w = ⊥
  IsPlainEnd v (Handling k under) w =
      plain.IsPlainEnd v (released.Under (token_of under)) w × IsOut k (plain_after w).line
  IsPlainEnd v (Under under) w = plain.IsPlainEnd v (released.Under (token_of under)) w

  -- Where no permit is on its way any more, nobody is served by the end of a release, and nothing
  -- has changed.
  abbrev pub IsTurnedBack : View Entry T → SyncReleased → View Entry T → Type 0
  IsTurnedBack v Freed w = ⊥
  IsTurnedBack v (Sent k) w = ⊥
  IsTurnedBack v (Void k) w = plain.IsTurnedBack v (released.Void k) w
  IsTurnedBack v (Broke k permit) w = ⊥
  IsTurnedBack v (Handling k under) w =
      plain.IsTurnedBack v (released.Under (token_of under)) w × IsOut k (plain_after w).line
  IsTurnedBack v (Under under) w = plain.IsTurnedBack v (released.Under (token_of under)) w

  abbrev pub IsPlainCancel : ℕ → View Entry T → SyncLeft → Type 0
  IsPlainCancel k v Cancelled = plain.IsPlainCancel k v (answer.Cancelled None)
  IsPlainCancel k v (TooLate permit) = plain.IsPlainCancel k v (answer.TooLate permit)
