-- What each step of a latch on its words tells the pass that makes it.
use Rattle.std.specs.Prelude.{◌≡◌, ℕ, false, List, [], ◌++◌, pos, negsuc, ◌≤ℤ◌}
use Rattle.cqs_latch_object.specs.declared.entries.LatchEntry.{LatchEntry}
use Rattle.cqs_latch_object.specs.LatchObject.{Latch, due}
use Rattle.cqs_latch_object.specs.LatchEntries.{object_after}
use Rattle.cqs_latch_object.specs.LatchShown.{left_of}
use Rattle.cqs_latch.specs.Latch.{is_simple, latch_object}
use Rattle.cqs_rule_laws.specs.declared.view.View.{View}
use Rattle.cqs_rule_laws.specs.Events.{Event, Moment, moment, facts_moved, in_any_case}
use Rattle.cqs_rule_laws.specs.Facts.{facts_counted}
use Rattle.cqs_rule_laws.specs.Layout.{client_place}
use Rattle.cqs_rule_laws.specs.Saw.{Saw}
use Rattle.cqs_words.specs.State.{count_in}
use Rattle.cqs_words.specs.Waiters.{waiters_in, is_done}

-- The count that the number stands for is the plain latch's, where that is above 0; it lies from
-- -32 up to what the latch opened with.
pub record ReadsCount (size n : ℕ) (o : Latch) : Type 0 where
  pub left : left_of (count_in n) ≡ o.count
  pub high : negsuc 31 ≤ℤ count_in n
  pub low : count_in n ≤ℤ pos size

-- the done bit tells whether the plain latch is open; before, the waiters are all who are due
pub record ReadsWaiters (size n : ℕ) (o : Latch) : Type 0 where
  pub open_is : is_done n ≡ o.opened
  pub counted : is_done n ≡ false → waiters_in n ≡ due o

module _ {T : Type 0} where
  -- where a pass of this view finds the word to be n
  abbrev pub at_word : View LatchEntry T → ℕ → Moment
  at_word v n = moment v.opening v.number v.facts in_any_case n

  -- the plain latch after a history
  abbrev pub latch_after : View LatchEntry T → List LatchEntry → Latch
  latch_after v history = object_after (is_simple v.opening.mode) v.opening.size history

  -- What a step on the word i saw and did: it is the only step, it found n, and this held of it and
  -- of the plain latch at its place, after all that the pass has seen before its own entries.
  pub record OnWord (i : ℕ) (event : Event LatchEntry) (Reads : ℕ → ℕ → Latch → Type 0)
      (v : View LatchEntry T) (n : ℕ) (w : View LatchEntry T) : Type 0 where
    pub saw : Saw latch_object v (facts_moved event (client_place i) (at_word v n))
        (event.entries (at_word v n)) w
    pub before : List LatchEntry
    pub seen : w.seen ≡ before ++ event.entries (at_word v n)
    pub reads : Reads w.opening.size n (latch_after w before)

  -- the suspend counter was found as n, and no event was shown: it is the next number of the plain
  -- latch after all that the pass has seen
  pub record NextIs (v : View LatchEntry T) (n : ℕ) (w : View LatchEntry T) : Type 0 where
    pub saw : Saw latch_object v (facts_counted v.limit n v.facts) [] w
    pub next : (latch_after w w.seen).waiters.next ≡ n
