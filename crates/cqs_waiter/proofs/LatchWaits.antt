-- Where a wait of a latch stands after a call of it.
use Rattle.std.proofs.Common.{Ok}
use Rattle.cqs_latch_object.specs.declared.entries.LatchEntry.{LatchEntry}
use Rattle.cqs_rule_laws.specs.declared.view.View.{View}
use Rattle.cqs_rule.specs.declared.queue.tokens.Wait.{Wait}
use Rattle.cqs_rule.specs.Waits.{HasWait}
use Rattle.cqs_latch.specs.declared.answers.LatchPolled.TheVariants.{Pending}
use Rattle.cqs_latch.specs.declared.answers.LatchWait.TheVariants.{Later}
use Rattle.cqs_waiter.specs.Passages.{Looks, Waits}

module _ {T : Type 0} where
  -- the pass has the wait that it got
  pub has_got : (v w : View LatchEntry T) (wait : Wait) → Waits v (Ok (Later wait)) w → HasWait w wait
  has_got v w wait h = h.waited.2.3

  -- and one whose look found nothing new
  pub has_still : (v w : View LatchEntry T) (wait again : Wait) → Looks wait v (Pending again) w → HasWait w again
  has_still v w wait again h = h.polled.1
