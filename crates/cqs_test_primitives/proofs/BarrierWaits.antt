-- A wait that its pass goes on having, while it arrives for another party or leaves another wait.
use Rattle.std.proofs.Common.{◌≢◌, inl, inr, ℕ, ◌∷◌, [], sym, subst}
use Rattle.cqs_barrier_object.specs.declared.entries.BarrierEntry.{BarrierEntry}
use Rattle.cqs_rule.specs.declared.queue.tokens.Wait.{Wait}
use Rattle.cqs_rule_laws.specs.declared.view.View.{View}
use Rattle.cqs_rule_laws.specs.Lists.{Has}
use Rattle.cqs_rule.specs.Waits.{place_of, HasWait}
use Rattle.cqs_rule_laws.proofs.Lists.{has_left, without_has}
use Rattle.cqs_rule_laws.proofs.Places.{goes-same}
use Rattle.cqs_rule.proofs.Places.{has-wait-on}
use Rattle.cqs_barrier.specs.declared.answers.Arrived.TheVariants.{Last, Later}
use Rattle.cqs_barrier.specs.declared.answers.PartyLeft.TheVariants.{TooLate}
use Rattle.cqs_barrier.specs.declared.answers.PartyWait.{PartyWait}
use Rattle.cqs_barrier.specs.Arriving.{Arrives}
use Rattle.cqs_barrier.specs.Leaving.{HasLeft}
use Rattle.cqs_barrier.specs.Waits.{wait_in}

module _ {T : Type 0} where
  pub later-kept : (v w : View BarrierEntry T) (other : PartyWait) (wait : Wait) → Arrives v (Later other) w
      → HasWait v wait → HasWait w wait
  later-kept v w other wait came has =
      has-wait-on v w wait (goes-same v w came.0.called.called.same)
      (subst (Has (place_of wait).index) (sym came.2.waits_are)
      (has_left (place_of wait).index v.facts.waits ((place_of (wait_in other)).index ∷ []) has.open_yet)) has

  pub last-kept : (v w : View BarrierEntry T) (wait : Wait) → Arrives v Last w → HasWait v wait → HasWait w wait
  last-kept v w wait (inl last, rests) has =
      has-wait-on v w wait (goes-same v w last.1.called.called.same)
      (subst (Has (place_of wait).index) (sym rests.waits_are) has.open_yet) has
  last-kept v w wait (inr early, rests) has =
      has-wait-on v w wait (goes-same v w early.1.called.called.same)
      (subst (Has (place_of wait).index) (sym rests.waits_are) has.open_yet) has

  pub late-kept : (k : ℕ) (v w : View BarrierEntry T) (wait : Wait) → HasLeft k v TooLate w
      → (place_of wait).index ≢ k → HasWait v wait → HasWait w wait
  late-kept k v w wait (inl stayed) other has =
      has-wait-on v w wait (goes-same v w stayed.0.called.same)
      (subst (Has (place_of wait).index) (sym stayed.1.waits_are)
      (without_has (place_of wait).index k v.facts.waits other has.open_yet)) has
  late-kept k v w wait (inr late) other has =
      has-wait-on v w wait (goes-same v w late.0.called.same)
      (subst (Has (place_of wait).index) (sym late.1.waits_are)
      (without_has (place_of wait).index k v.facts.waits other has.open_yet)) has
