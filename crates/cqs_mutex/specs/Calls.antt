-- The calls of a mutex: each is the semaphore's call of the same place, at which the pass was at a
-- view in between; and where the caller has the mutex then, or gives it back, its value moves.
use Rattle.std.specs.Prelude.{◌≡◌, ◌<◌, true, [], Option, Some, None, Result, Ok, Err, IfOk, IsErrOf, OnOk}
use Rattle.cqs_core.specs.declared.entries.Entry.{Entry}
use Rattle.cqs_rule_laws.specs.declared.config.AcquireError.{AcquireError}
use Rattle.cqs_rule_laws.specs.declared.config.AcquireError.TheVariants as refused
use Rattle.cqs_rule.specs.declared.queue.tokens.Under as token
use Rattle.cqs_rule.specs.declared.queue.tokens.Wait.{Wait}
use Rattle.cqs_rule_laws.specs.declared.carries.Kept.{Kept}
use Rattle.cqs_rule_laws.specs.declared.view.View.{View}
use Rattle.cqs_rule.specs.Claims.{Claimed}
use Rattle.cqs_rule.specs.Owed.{HasUnder}
use Rattle.cqs_rule.specs.Waits.{HasWait, place_of}
use Rattle.cqs_semaphore.specs.declared.answers.Acquired.{Acquired}
use Rattle.cqs_semaphore.specs.declared.answers.Acquired.TheVariants as acquired
use Rattle.cqs_semaphore.specs.declared.answers.Tried.{Tried}
use Rattle.cqs_semaphore.specs.declared.answers.Tried.TheVariants as tried
use Rattle.cqs_semaphore.specs.declared.answers.Polled.{Polled}
use Rattle.cqs_semaphore.specs.declared.answers.Polled.TheVariants as polled
use Rattle.cqs_semaphore.specs.declared.answers.CancelAnswer.{CancelAnswer}
use Rattle.cqs_semaphore.specs.declared.answers.CancelAnswer.TheVariants as cancelled
use Rattle.cqs_semaphore.specs.declared.answers.Released.{Released}
use Rattle.cqs_semaphore.specs.declared.answers.Released.TheVariants.{Freed, Sent, Left, Void, Under}
use Rattle.cqs_semaphore.specs.Alone.{IsPlainAcquire, IsPlainTry, IsPlainPoll, IsPlainCancel, IsPlainRelease, HandsNone}
use Rattle.cqs_semaphore.specs.Answers.{IsWorn, IsBelow, IsCrowded, Acquires, Tries, IsPolled, Releases}
use Rattle.cqs_rule_laws.specs.CallRule.{IsReady}
use Rattle.cqs_semaphore.specs.Calls.{CallRule}
use Rattle.cqs_semaphore.specs.Entries.{acquired_entries, acquired_further, tried_entries, polled_entries, gave_entries, resumed_further}
use Rattle.cqs_semaphore.specs.Steps.{HasCancelled}
use Rattle.cqs_mutex.specs.declared.answers.Locked.{Locked}
use Rattle.cqs_mutex.specs.declared.answers.Locked.TheVariants.{Now, Later}
use Rattle.cqs_mutex.specs.declared.answers.TriedLock.{TriedLock}
use Rattle.cqs_mutex.specs.declared.answers.TriedLock.TheVariants.{Got, Busy, Contended}
use Rattle.cqs_mutex.specs.declared.answers.PolledLock.{PolledLock}
use Rattle.cqs_mutex.specs.declared.answers.PolledLock.TheVariants.{Granted, Pending}
use Rattle.cqs_mutex.specs.declared.answers.LockLeft.{LockLeft}
use Rattle.cqs_mutex.specs.declared.answers.LockLeft.TheVariants.{Cancelled, TooLate}
use Rattle.cqs_mutex.specs.Guards.{value_of, permit_of, wait_in}
use Rattle.cqs_mutex.specs.Values.{TookValue, LaidValue}

module _ {T : Type 0} where
  -- the answers of the semaphore, where nothing is said of the value
  abbrev pub as_acquired : Locked T → Acquired
  as_acquired (Now guard) = acquired.Now (permit_of guard)
  as_acquired (Later wait) = acquired.Later (wait_in wait)

  abbrev pub as_answer : Result (Locked T) AcquireError → Result Acquired AcquireError
  as_answer (Ok locked) = Ok (as_acquired locked)
  as_answer (Err e) = Err e

  abbrev pub as_tried : TriedLock T → Tried
  as_tried (Got guard) = tried.Got (permit_of guard)
  as_tried Busy = tried.Busy
  as_tried (Contended saw found) = tried.Contended saw found

  abbrev pub as_polled : PolledLock T → Polled
  as_polled (Granted guard) = polled.Granted (permit_of guard)
  as_polled (Pending wait) = polled.Pending (wait_in wait)

  abbrev pub as_cancelled : LockLeft T → CancelAnswer
  as_cancelled (Cancelled under) = cancelled.Cancelled under
  as_cancelled (TooLate guard) = cancelled.TooLate (permit_of guard)

  -- with a guard the value left the slot, and else nothing was done
  abbrev pub LockedValue : Result (Locked T) AcquireError → View Entry (Kept T)
      → View Entry (Kept T) → Type 0
  LockedValue (Ok (Now guard)) v w = TookValue (value_of guard) v w
  LockedValue (Ok (Later wait)) v w = w ≡ v
  LockedValue (Err e) v w = w ≡ v

  abbrev pub TriedValue : TriedLock T → View Entry (Kept T) → View Entry (Kept T) → Type 0
  TriedValue (Got guard) v w = TookValue (value_of guard) v w
  TriedValue Busy v w = w ≡ v
  TriedValue (Contended saw found) v w = w ≡ v

  abbrev pub PolledValue : PolledLock T → View Entry (Kept T) → View Entry (Kept T) → Type 0
  PolledValue (Granted guard) v w = TookValue (value_of guard) v w
  PolledValue (Pending wait) v w = w ≡ v

  abbrev pub LeftValue : LockLeft T → View Entry (Kept T) → View Entry (Kept T) → Type 0
  LeftValue (Cancelled under) v w = w ≡ v
  LeftValue (TooLate guard) v w = TookValue (value_of guard) v w

  -- with a guard the pass holds the mutex, and with a wait it has that wait
  abbrev pub LockedHolds : Result (Locked T) AcquireError → View Entry (Kept T) → Type 0
  LockedHolds (Ok (Now guard)) w = 0 < w.facts.has.held
  LockedHolds (Ok (Later wait)) w = HasWait w (wait_in wait)
  LockedHolds (Err e) w = Unit {0}

  abbrev pub TriedHolds : TriedLock T → View Entry (Kept T) → Type 0
  TriedHolds (Got guard) w = 0 < w.facts.has.held
  TriedHolds Busy w = Unit {0}
  TriedHolds (Contended saw found) w = Unit {0}

  abbrev pub PolledHolds : PolledLock T → View Entry (Kept T) → Type 0
  PolledHolds (Granted guard) w = 0 < w.facts.has.held
  PolledHolds (Pending wait) w = HasWait w (wait_in wait)

  -- a resumption that the pass owes is this one, and the only one
  abbrev pub Owes : token.Under → View Entry (Kept T) → Type 0
  Owes under w = HasUnder w.facts under × (w.facts.has.further ≡ 0)

  -- and else it is ready for the next call
  abbrev pub OwesAtMost : Option token.Under → View Entry (Kept T) → Type 0
  OwesAtMost None w = IsReady w.facts
  OwesAtMost (Some under) w = Owes under w

  abbrev pub LeftHolds : LockLeft T → View Entry (Kept T) → Type 0
  LeftHolds (Cancelled under) w = OwesAtMost under w
  LeftHolds (TooLate guard) w = IsReady w.facts × (0 < w.facts.has.held)

  -- after an unlock, or the end of one
  abbrev pub UnlockLeaves : Released → View Entry (Kept T) → Type 0
  UnlockLeaves Freed w = IsReady w.facts
  UnlockLeaves (Sent k) w = IsReady w.facts
  UnlockLeaves (Left k) w = IsReady w.facts
  UnlockLeaves (Void k) w = IsReady w.facts
  UnlockLeaves (Under under) w = Owes under w

  -- a lock is an acquire, and the value
  pub record HasLocked (v : View Entry (Kept T)) (answer : Result (Locked T) AcquireError)
      (w : View Entry (Kept T)) : Type 0 where
    pub between : View Entry (Kept T)
    pub called : CallRule v (acquired_entries v.number (as_answer answer))
        (acquired_further (as_answer answer)) between
    pub worn : IsErrOf answer refused.Worn → IsWorn v between
    pub crowded : IsErrOf answer refused.Crowded → IsCrowded v between
    pub below : OnOk answer (IsBelow v between)
    pub acquired : IfOk answer (λ locked. Acquires v (as_acquired locked) between)
    pub alone : v.alone ≡ true → IfOk answer (λ locked. IsPlainAcquire v (as_acquired locked))
    pub value : LockedValue answer between w

  -- a try
  pub record HasTried (v : View Entry (Kept T)) (answer : TriedLock T) (w : View Entry (Kept T))
      : Type 0 where
    pub between : View Entry (Kept T)
    pub called : CallRule v (tried_entries v.number (as_tried answer)) [] between
    pub tries : Tries v (as_tried answer) between
    pub alone : v.alone ≡ true → IsPlainTry v (as_tried answer)
    pub value : TriedValue answer between w

  -- a look at a wait
  pub record HasPolled (wait : Wait) (v : View Entry (Kept T)) (answer : PolledLock T)
      (w : View Entry (Kept T)) : Type 0 where
    pub between : View Entry (Kept T)
    pub called : CallRule v (polled_entries v.number (place_of wait).index (as_polled answer)) []
        between
    pub polled : IsPolled wait v (as_polled answer) between
    pub alone : v.alone ≡ true → IsPlainPoll (place_of wait).index v (as_polled answer)
    pub value : PolledValue answer between w

  -- a cancel
  pub record HasLeft (wait : Wait) (v : View Entry (Kept T)) (answer : LockLeft T)
      (w : View Entry (Kept T)) : Type 0 where
    pub between : View Entry (Kept T)
    pub cancelled : HasCancelled (place_of wait).index v (as_cancelled answer) between
    pub alone : v.alone ≡ true → IsPlainCancel (place_of wait).index v (as_cancelled answer)
    pub hands_none : v.alone ≡ true → HandsNone (as_cancelled answer)
    pub value : LeftValue answer between w

  -- An unlock claims a slot where the pass has none spare, lays the value into the value slot, and
  -- is a release then.
  pub record HasUnlocked (value : T) (v : View Entry (Kept T)) (answer : Released)
      (w : View Entry (Kept T)) : Type 0 where
    pub claimed : View Entry (Kept T)
    pub claims : Claimed 1 v claimed
    pub between : View Entry (Kept T)
    pub laid : LaidValue value claimed between
    pub called : CallRule between (gave_entries between.number answer) (resumed_further answer) w
    pub releases : Releases between answer w
    pub alone : v.alone ≡ true → IsPlainRelease between answer w
