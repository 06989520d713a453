-- A pass that is alone: each of its calls is the plain semaphore's call, as one thread makes it.
use Rattle.std.specs.Prelude.{◌≡◌, ℕ, List, [], ◌∷◌, Some, None}
use Rattle.cqs_core.specs.declared.calls.Call.TheVariants as call
use Rattle.cqs_core.specs.declared.calls.Reply.TheVariants as reply
use Rattle.cqs_core.specs.declared.entries.Entry.{Entry}
use Rattle.cqs_core.specs.declared.entries.Entry.TheVariants as entry
use Rattle.cqs_core.specs.QueueLine.{Waiting}
use Rattle.cqs_core.specs.SoleCaller.{tells, sole_call}
use Rattle.cqs_rule_laws.specs.declared.view.View.{View}
use Rattle.cqs_rule.specs.Waits.{place_of}
use Rattle.cqs_semaphore.specs.declared.answers.Acquired.{Acquired}
use Rattle.cqs_semaphore.specs.declared.answers.Acquired.TheVariants.{Now, Later}
use Rattle.cqs_semaphore.specs.declared.answers.Tried.{Tried}
use Rattle.cqs_semaphore.specs.declared.answers.Tried.TheVariants.{Got, Busy, Contended}
use Rattle.cqs_semaphore.specs.declared.answers.Released.{Released}
use Rattle.cqs_semaphore.specs.declared.answers.Released.TheVariants.{Freed, Sent, Left, Void, Under}
use Rattle.cqs_semaphore.specs.declared.answers.Polled.{Polled}
use Rattle.cqs_semaphore.specs.declared.answers.Polled.TheVariants.{Granted, Pending}
use Rattle.cqs_semaphore.specs.declared.answers.CancelAnswer.{CancelAnswer}
use Rattle.cqs_semaphore.specs.declared.answers.CancelAnswer.TheVariants.{Cancelled, TooLate}
use Rattle.cqs_semaphore.specs.Calls.{plain_after}
use Rattle.cqs_semaphore.specs.Entries.{took_entries}
use Rattle.cqs_semaphore.specs.Permits.{number_of}

-- the first of the line
abbrev pub IsFirstOf : List Waiting → ℕ → Type 0
IsFirstOf [] k = ⊥
IsFirstOf (w ∷ line) k = w.wait ≡ k

-- somebody waits in line
abbrev pub HasLine : List Waiting → Type 0
HasLine [] = ⊥
HasLine (w ∷ line) = Unit {0}

-- a cancel hands no resumption back
abbrev pub HandsNone : CancelAnswer → Type 0
HandsNone (Cancelled None) = Unit {0}
HandsNone (Cancelled (Some under)) = ⊥
HandsNone (TooLate permit) = Unit {0}

module _ {T : Type 0} where
  abbrev pub IsPlainAcquire : View Entry T → Acquired → Type 0
  IsPlainAcquire v (Now permit) =
      (number_of permit ≡ None)
      × (sole_call (plain_after v) (call.Acquire v.number)
      ≡ tells (entry.TakeNow v.number ∷ []) reply.Now)
  IsPlainAcquire v (Later wait) =
      sole_call (plain_after v) (call.Acquire v.number)
      ≡ tells (took_entries v.number (Some (place_of wait).index))
      (reply.Later (place_of wait).index)

  abbrev pub IsPlainTry : View Entry T → Tried → Type 0
  IsPlainTry v (Got permit) =
      sole_call (plain_after v) (call.Try v.number) ≡ tells (entry.TryGot v.number ∷ []) reply.Got
  IsPlainTry v Busy =
      sole_call (plain_after v) (call.Try v.number) ≡ tells (entry.TryBusy v.number ∷ []) reply.Busy
  IsPlainTry v (Contended saw found) = ⊥

  -- A release that hands the resumption back is the plain semaphore's with the `finish` that ends
  -- it: somebody waits in line, and just this permit is on its way.
  abbrev pub IsPlainRelease : View Entry T → Released → View Entry T → Type 0
  IsPlainRelease v Freed w =
      sole_call (plain_after v) (call.Release v.number)
      ≡ tells (entry.GiveFreed v.number ∷ []) reply.Freed
  IsPlainRelease v (Sent k) w =
      sole_call (plain_after v) (call.Release v.number)
      ≡ tells (entry.GiveSent v.number ∷ entry.Deliver k ∷ []) (reply.Sent k)
  IsPlainRelease v (Left k) w = ⊥
  IsPlainRelease v (Void k) w = ⊥
  IsPlainRelease v (Under under) w = HasLine (plain_after v).line × ((plain_after w).way ≡ 1)

  -- The end of a release, while just one permit is on its way, goes to the first of the line; or it
  -- is handed back again, and nothing has changed.
  abbrev pub IsPlainEnd : View Entry T → Released → View Entry T → Type 0
  IsPlainEnd v Freed w = ⊥
  IsPlainEnd v (Sent k) w = IsFirstOf (plain_after v).line k
  IsPlainEnd v (Left k) w = ⊥
  IsPlainEnd v (Void k) w = ⊥
  IsPlainEnd v (Under under) w = plain_after w ≡ plain_after v

  -- Where no permit is on its way any more, nobody is served by the end of a release, and nothing
  -- has changed.
  abbrev pub IsTurnedBack : View Entry T → Released → View Entry T → Type 0
  IsTurnedBack v Freed w = ⊥
  IsTurnedBack v (Sent k) w = ⊥
  IsTurnedBack v (Left k) w = plain_after w ≡ plain_after v
  IsTurnedBack v (Void k) w = plain_after w ≡ plain_after v
  IsTurnedBack v (Under under) w = plain_after w ≡ plain_after v

  abbrev pub IsPlainPoll : ℕ → View Entry T → Polled → Type 0
  IsPlainPoll k v (Granted permit) =
      sole_call (plain_after v) (call.Poll v.number k)
      ≡ tells (entry.LookGranted v.number k ∷ []) reply.Granted
  IsPlainPoll k v (Pending wait) =
      sole_call (plain_after v) (call.Poll v.number k)
      ≡ tells (entry.LookPending v.number k ∷ []) reply.Pending

  abbrev pub IsPlainCancel : ℕ → View Entry T → CancelAnswer → Type 0
  IsPlainCancel k v (Cancelled under) =
      sole_call (plain_after v) (call.Cancel v.number k)
      ≡ tells (entry.Leave v.number k ∷ []) reply.Cancelled
  IsPlainCancel k v (TooLate permit) =
      sole_call (plain_after v) (call.Cancel v.number k)
      ≡ tells (entry.Late v.number k ∷ []) reply.TooLate

  -- no permit is on its way
  abbrev pub HasNoneOnWay : View Entry T → Type 0
  HasNoneOnWay v = (plain_after v).way ≡ 0
