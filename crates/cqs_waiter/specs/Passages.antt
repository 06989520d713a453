-- How a caller came through a latch: it was open; or the caller waited, and looked at its wait
-- until it was served. What the latch's own calls gave, one after the other.
use Rattle.std.specs.Prelude.{◌≡◌, true, [], None, Result, Ok, Err}
use Rattle.cqs_latch_object.specs.declared.entries.LatchEntry.{LatchEntry}
use Rattle.cqs_rule_laws.specs.declared.config.AcquireError.{AcquireError}
use Rattle.cqs_rule_laws.specs.declared.view.View.{View}
use Rattle.cqs_rule.specs.declared.queue.tokens.Wait.{Wait}
use Rattle.cqs_rule.specs.Waits.{place_of}
use Rattle.cqs_latch.specs.declared.answers.LatchPolled.{LatchPolled}
use Rattle.cqs_latch.specs.declared.answers.LatchPolled.TheVariants.{Through, Pending}
use Rattle.cqs_latch.specs.declared.answers.LatchWait.{LatchWait}
use Rattle.cqs_latch.specs.declared.answers.LatchWait.TheVariants.{Passed, Later}
use Rattle.cqs_latch.specs.Alone.{IsPlainPoll, IsPlainWait}
use Rattle.cqs_latch.specs.Answers.{HasWaited, IsPolled}
use Rattle.cqs_latch.specs.Calls.{CallRule, KeepsOtherWaits, KeepsWaits}
use Rattle.cqs_latch.specs.Entries.{polled_entries}
use Rattle.cqs_waiter.specs.Arrivals.{WaiterCalls, Arrives}

module _ {T : Type 0} where
  -- a wait of the latch
  pub record Waits (v : View LatchEntry T) (answer : Result LatchWait AcquireError)
      (w : View LatchEntry T) : Type 0 where
    pub waited : HasWaited v answer w
    pub keeps : KeepsWaits v w
    pub alone : v.alone ≡ true → IsPlainWait v answer

  -- a look at a wait
  pub record Looks (wait : Wait) (v : View LatchEntry T) (answer : LatchPolled)
      (w : View LatchEntry T) : Type 0 where
    pub called : CallRule v (polled_entries v.number (place_of wait).index answer) [] w
    pub polled : IsPolled wait v answer w
    pub keeps : KeepsOtherWaits (place_of wait).index v w
    pub alone : v.alone ≡ true → IsPlainPoll (place_of wait).index v answer

  abbrev pub latch_calls : WaiterCalls (View LatchEntry T) Wait (Unit {0})
  latch_calls = record {
    at_once = λ v through w. Waits v (Ok Passed) w;
    waits = λ v wait w. Waits v (Ok (Later wait)) w;
    refuses = λ v e w. Waits v (Err e) w;
    serves = λ wait v through w. Looks wait v Through w;
    pends = λ wait v again w. Looks wait v (Pending again) w;
  }

  -- what came of a wait at the latch
  abbrev pub PassesLatch : View LatchEntry T → Result (Unit {0}) AcquireError → View LatchEntry T
      → Type 0
  PassesLatch v answer w = Arrives latch_calls v None answer w
