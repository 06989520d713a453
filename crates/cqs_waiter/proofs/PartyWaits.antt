-- What a pass is at after a call of a barrier.
use Rattle.std.proofs.Common.{Ok, Err, refl}
use Rattle.cqs_barrier_object.specs.declared.entries.BarrierEntry.{BarrierEntry}
use Rattle.cqs_rule_laws.specs.declared.config.AcquireError.{AcquireError}
use Rattle.cqs_rule_laws.specs.declared.config.AcquireError.TheVariants.{Worn, Crowded}
use Rattle.cqs_rule_laws.specs.declared.view.View.{View}
use Rattle.cqs_rule_laws.specs.CallRule.{IsReady}
use Rattle.cqs_rule.specs.Waits.{HasWait}
use Rattle.cqs_barrier.specs.declared.answers.Owing.{Owing}
use Rattle.cqs_barrier.specs.declared.answers.PartyWait.{PartyWait}
use Rattle.cqs_barrier.specs.declared.answers.Arrived.TheVariants.{Last, LastOwing, Later}
use Rattle.cqs_barrier.specs.declared.answers.PartyPolled.TheVariants.{Pending}
use Rattle.cqs_barrier.specs.Resuming.{HasOwing}
use Rattle.cqs_barrier.specs.Waits.{wait_in}
use Rattle.cqs_waiter.specs.Meetings.{HasArrived, HasPolled}

module _ {T : Type 0} where
  -- one that goes through at once is ready, or owes what it hands back
  pub ready_last : (v w : View BarrierEntry T) → HasArrived v (Ok Last) w → IsReady w.facts
  ready_last v w h = h.arrived.1.ready

  pub owes_last : (v w : View BarrierEntry T) (owing : Owing) → HasArrived v (Ok (LastOwing owing)) w
      → HasOwing w.facts owing
  owes_last v w owing h = h.arrived.2

  -- one that waits is ready, and has its wait
  pub ready_later : (v w : View BarrierEntry T) (wait : PartyWait) → HasArrived v (Ok (Later wait)) w → IsReady w.facts
  ready_later v w wait h = h.arrived.2.ready

  pub has_got : (v w : View BarrierEntry T) (wait : PartyWait) → HasArrived v (Ok (Later wait)) w
      → HasWait w (wait_in wait)
  has_got v w wait h = h.arrived.1

  -- one that is refused is at what it was
  pub ready_refused : (v w : View BarrierEntry T) (e : AcquireError) → HasArrived v (Err e) w → IsReady w.facts
  ready_refused v w Worn h = (h.worn refl).rests.ready
  ready_refused v w Crowded h = (h.crowded refl).rests.ready

  -- a look that found nothing new leaves its wait
  pub has_still : (v w : View BarrierEntry T) (wait again : PartyWait) → HasPolled wait v (Pending again) w
      → HasWait w (wait_in again)
  has_still v w wait again h = h.polled.1
