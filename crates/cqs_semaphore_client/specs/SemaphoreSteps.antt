-- What each step of a semaphore on its state tells the pass that makes it.
use Rattle.std.specs.Prelude.{◌≡◌, ℕ, Bool, List, [], ◌++◌}
use Rattle.cqs_core.specs.declared.entries.Entry.{Entry}
use Rattle.cqs_core.specs.SemaphoreEntries.{object_after}
use Rattle.cqs_core.specs.SemaphoreShown.{state_of}
use Rattle.cqs_rule_laws.specs.declared.view.View.{View}
use Rattle.cqs_rule_laws.specs.Events.{Event, moment, facts_moved}
use Rattle.cqs_rule_laws.specs.Facts.{facts_counted}
use Rattle.cqs_rule_laws.specs.Layout.{client_place}
use Rattle.cqs_rule_laws.specs.Saw.{Saw}
use Rattle.cqs_words.specs.State.{count_in, StateFits}
use Rattle.cqs_semaphore_client.specs.Semaphore.{semaphore_object}

module _ {T : Type 0} where
  -- What a step on the state saw and did: it is the only step, it found the word n, which stands
  -- for a count, and the state of the plain semaphore was that at its place, after all that the
  -- pass has seen before its own entries.
  pub record OnState (event : Event Entry) (made : ℕ
      → Bool) (v : View Entry T) (n : ℕ) (w : View Entry T) : Type 0 where
    pub saw : Saw semaphore_object v
        (facts_moved event (client_place 0) (moment v.opening v.number v.facts made n))
        (event.entries (moment v.opening v.number v.facts made n)) w
    pub before : List Entry
    pub seen : w.seen ≡ before ++ event.entries (moment v.opening v.number v.facts made n)
    pub state : count_in n ≡ state_of (object_after w.opening.size before)
    pub fits : StateFits (record { value = count_in n })

  -- The suspend counter was found as n, and no event was shown: it is the next number of the plain
  -- semaphore after all that the pass has seen.
  pub record NextIs (v : View Entry T) (n : ℕ) (w : View Entry T) : Type 0 where
    pub saw : Saw semaphore_object v (facts_counted v.limit n v.facts) [] w
    pub next : (object_after w.opening.size w.seen).next ≡ n
