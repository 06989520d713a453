-- What each step of a barrier on its remaining number tells the pass that makes it.
use Rattle.std.specs.Prelude.{◌≡◌, ℕ, Bool, List, ◌++◌}
use Rattle.cqs_barrier_object.specs.declared.entries.BarrierEntry.{BarrierEntry}
use Rattle.cqs_barrier_object.specs.BarrierEntries.{object_after}
use Rattle.cqs_rule_laws.specs.declared.view.View.{View}
use Rattle.cqs_rule_laws.specs.Events.{Event, moment, facts_moved}
use Rattle.cqs_rule_laws.specs.Layout.{client_place}
use Rattle.cqs_rule_laws.specs.Saw.{Saw}
use Rattle.cqs_barrier.specs.Barrier.{barrier_object}
use Rattle.cqs_barrier.specs.Word.{parties_in, remaining_in}

module _ {T : Type 0} where
  -- What a step on the word saw and did: it is the only step, and the number that it found was that
  -- of the plain barrier at its place, after all that the pass has seen before its own entries.
  pub record OnWord (event : Event BarrierEntry) (made : ℕ
      → Bool) (v : View BarrierEntry T) (n : ℕ) (w : View BarrierEntry T) : Type 0 where
    pub saw : Saw barrier_object v
        (facts_moved event (client_place 0) (moment v.opening v.number v.facts made n))
        (event.entries (moment v.opening v.number v.facts made n)) w
    pub before : List BarrierEntry
    pub seen : w.seen ≡ before ++ event.entries (moment v.opening v.number v.facts made n)
    pub remaining : remaining_in n ≡ (object_after w.opening.size before).remaining
    pub parties : parties_in n ≡ w.opening.size
