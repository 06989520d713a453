-- How a permit came to a caller who acquired, and looked at its wait until it was served: what the
-- semaphore's own calls gave, one after the other.
use Rattle.std.specs.Prelude.{◌≡◌, true, [], Option, Result, Ok, Err, IfOk, OnOk, IsErrOf}
use Rattle.cqs_core.specs.declared.entries.Entry.{Entry}
use Rattle.cqs_rule_laws.specs.declared.config.AcquireError.{AcquireError}
use Rattle.cqs_rule_laws.specs.declared.config.AcquireError.TheVariants as refused
use Rattle.cqs_rule.specs.declared.queue.tokens.Wait.{Wait}
use Rattle.cqs_rule_laws.specs.declared.view.View.{View}
use Rattle.cqs_rule.specs.Waits.{place_of}
use Rattle.cqs_semaphore.specs.declared.answers.Acquired.{Acquired}
use Rattle.cqs_semaphore.specs.declared.answers.Acquired.TheVariants.{Now, Later}
use Rattle.cqs_semaphore.specs.declared.answers.CancelAnswer.{CancelAnswer}
use Rattle.cqs_semaphore.specs.declared.answers.Permit.{Permit}
use Rattle.cqs_semaphore.specs.declared.answers.Polled.{Polled}
use Rattle.cqs_semaphore.specs.declared.answers.Polled.TheVariants.{Granted, Pending}
use Rattle.cqs_semaphore.specs.Alone.{HandsNone, IsPlainAcquire, IsPlainCancel, IsPlainPoll, HasNoneOnWay}
use Rattle.cqs_semaphore.specs.Answers.{Acquires, IsBelow, IsCrowded, IsPolled, IsWorn}
use Rattle.cqs_semaphore.specs.Calls.{CallRule}
use Rattle.cqs_semaphore.specs.Entries.{acquired_entries, acquired_further, polled_entries}
use Rattle.cqs_semaphore.specs.Steps.{HasCancelled}
use Rattle.cqs_waiter.specs.Arrivals.{WaiterCalls, Arrives, BeginsAtOnce, BeginsToWait, BeginsRefused}

module _ {T : Type 0} where
  -- an acquire
  pub record HasAcquired (v : View Entry T) (answer : Result Acquired AcquireError)
      (w : View Entry T) : Type 0 where
    pub called : CallRule v (acquired_entries v.number answer) (acquired_further answer) w
    pub worn : IsErrOf answer refused.Worn → IsWorn v w
    pub crowded : IsErrOf answer refused.Crowded → IsCrowded v w
    pub below : OnOk answer (IsBelow v w)
    pub acquired : IfOk answer (λ acquired. Acquires v acquired w)
    pub alone : v.alone ≡ true → IfOk answer (λ acquired. IsPlainAcquire v acquired)

  -- a look at a wait
  pub record HasPolled (wait : Wait) (v : View Entry T) (answer : Polled) (w : View Entry T)
      : Type 0 where
    pub called : CallRule v (polled_entries v.number (place_of wait).index answer) [] w
    pub polled : IsPolled wait v answer w
    pub alone : v.alone ≡ true → IsPlainPoll (place_of wait).index v answer

  -- a cancel
  pub record HasLeft (wait : Wait) (v : View Entry T) (answer : CancelAnswer) (w : View Entry T)
      : Type 0 where
    pub cancelled : HasCancelled (place_of wait).index v answer w
    pub alone : v.alone ≡ true → IsPlainCancel (place_of wait).index v answer
    pub hands_none : v.alone ≡ true → HandsNone answer
    pub brings_none : v.alone ≡ true → HasNoneOnWay w

  abbrev pub permit_calls : WaiterCalls (View Entry T) Wait Permit
  permit_calls = record {
    at_once = λ v permit w. HasAcquired v (Ok (Now permit)) w;
    waits = λ v wait w. HasAcquired v (Ok (Later wait)) w;
    refuses = λ v e w. HasAcquired v (Err e) w;
    serves = λ wait v permit w. HasPolled wait v (Granted permit) w;
    pends = λ wait v again w. HasPolled wait v (Pending again) w;
  }

  -- what came of an acquire, or of the wait that it had got before
  abbrev pub PermitArrives : View Entry T → Option Wait → Result Permit AcquireError
      → View Entry T → Type 0
  PermitArrives = Arrives permit_calls

  -- what a poll begins with: the wait of before, or what an acquire got
  abbrev pub PermitBegins : View Entry T → Option Wait → Result Acquired AcquireError
      → View Entry T → Type 0
  PermitBegins v wait (Ok (Now permit)) w = BeginsAtOnce permit_calls v wait permit w
  PermitBegins v wait (Ok (Later got)) w = BeginsToWait permit_calls v wait got w
  PermitBegins v wait (Err e) w = BeginsRefused permit_calls v wait e w
