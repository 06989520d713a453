-- What a count down and the end of its resumptions answer, and why.
use Rattle.std.specs.Prelude.{◌≡◌, ◌⊎◌, ℕ, ◌+◌, ◌%◌, ◌^◌, ◌<◌, List, [], ◌∷◌, length, None, pos, Result, Ok, Err}
use Rattle.cqs_core.specs.declared.doings.Doing.TheVariants as doing
use Rattle.cqs_latch_object.specs.declared.entries.LatchEntry.{LatchEntry}
use Rattle.cqs_latch_object.specs.declared.entries.LatchEntry.TheVariants as entry
use Rattle.cqs_rule_laws.specs.declared.view.Facts.{Facts}
use Rattle.cqs_rule_laws.specs.declared.view.Sighting.TheVariants.{Word}
use Rattle.cqs_rule_laws.specs.declared.view.View.{View}
use Rattle.cqs_rule_laws.specs.Layout.{client_place}
use Rattle.cqs_words.specs.State.{count_in}
use Rattle.cqs_words.specs.Waiters.{waiters_in}
use Rattle.cqs_latch.specs.declared.answers.Owed.{Owed}
use Rattle.cqs_latch.specs.declared.answers.Down.{Down}
use Rattle.cqs_latch.specs.declared.answers.Down.TheVariants.{Left, Last, LastOwing, Already}
use Rattle.cqs_latch.specs.Answers.{WasAbove, WasUsed}
use Rattle.cqs_rule_laws.specs.CallRule.{IsReady}
use Rattle.cqs_latch.specs.Calls.{CallRule, CallRuleEnding, Rests}
use Rattle.cqs_rule.specs.Claims.{WantsSlot, WasCrowded}
use Rattle.cqs_rule.specs.Owed.{under_ticket}
use Rattle.cqs_latch.specs.Causes.{WordWas, facts_turned}
use Rattle.cqs_latch.specs.Entries.{counted_entries}
use Rattle.cqs_latch.specs.Owed.{HasOwed, owed_under, owed_further, owed_reached}
use Rattle.cqs_latch.specs.LatchTold.{ReadsCount, ReadsWaiters}
use Rattle.cqs_latch.specs.Waking.{Ending, woken_entries, Woke, IsHandedFor, NextHanded, OnEnded, OnHanded}

-- the pass is between two calls, unless it owes what was handed back
abbrev pub IsReadyAfter : Down → Facts → Type 0
IsReadyAfter Already facts = IsReady facts
IsReadyAfter (Left left) facts = IsReady facts
IsReadyAfter Last facts = IsReady facts
IsReadyAfter (LastOwing owed) facts = HasOwed facts owed

-- no resumption was handed back
abbrev pub OwesNothing : Down → Type 0
OwesNothing Already = Unit {0}
OwesNothing (Left left) = Unit {0}
OwesNothing Last = Unit {0}
OwesNothing (LastOwing owed) = ⊥

module _ {T : Type 0} where
  -- what was handed back, if anything, was so for want of a slot
  abbrev pub OwesForSlot : View LatchEntry T → Down → View LatchEntry T → Type 0
  OwesForSlot v Already w = Unit {0}
  OwesForSlot v (Left left) w = Unit {0}
  OwesForSlot v Last w = Unit {0}
  OwesForSlot v (LastOwing owed) w = WantsSlot (owed_under owed) v w

  -- A count down was refused as crowded: the count was loaded above 0, and then there was no slot
  -- for a spare one. The count was loaded once more to turn back, and the call has no entry.
  pub record IsRefused (v w : View LatchEntry T) : Type 0 where
    pub called : CallRule v [] [] w
    pub above : WasAbove v w
    pub count : ℕ
    pub back : ℕ
    pub crowded : WasCrowded 1
        (facts_turned (Word (client_place 0) count ∷ Word (client_place 0) back ∷ []) v.facts) v w
    pub rests : Rests v.facts.waits w

  -- One was taken from the count, which was found as this.
  pub record WasCounted (v : View LatchEntry T) (left : ℕ) (own : List LatchEntry)
      (w : View LatchEntry T) : Type 0 where
    pub word : ℕ
    pub before : List LatchEntry
    pub left_is : count_in word ≡ pos (left + 1)
    pub found : WordWas 0 ReadsCount v word before own w

  -- The done bit was set, and the waiters found: the pass owes a resumption of payload 0 for each.
  -- So many fit 32 bits, since they are fewer than the numbers that may be drawn and the passes.
  pub record WasOpened (v : View LatchEntry T) (many : ℕ) (own : List LatchEntry)
      (w : View LatchEntry T) : Type 0 where
    pub word : ℕ
    pub before : List LatchEntry
    pub many_is : many ≡ waiters_in word % 2 ^ 32
    pub found : WordWas 1 ReadsWaiters v word before own w

  -- The count was used up by this call, and the latch opened.
  pub record Opens (v : View LatchEntry T) (many : ℕ) (x : View LatchEntry T) : Type 0 where
    pub called : CallRule v (entry.DownLast v.number ∷ entry.Open v.number ∷ []) [] x
    pub last : WasCounted v 0 (entry.DownLast v.number ∷ []) x
    pub opened : WasOpened v many (entry.Open v.number ∷ []) x
    pub idle : x.facts.doing ≡ doing.Idle
    pub owes : x.facts.has.further ≡ many
    pub payload : x.facts.has.payload ≡ 0
    pub waits : x.facts.waits ≡ v.facts.waits
    pub passed : x.facts.passed ≡ v.facts.passed

  -- one of the resumptions was handed back, for this cause: the pass owes it, with those after it
  pub record HandsBack (owed : Owed) (v w : View LatchEntry T) : Type 0 where
    pub why : IsHandedFor (owed_under owed) v w
    pub owes : HasOwed w.facts owed
    pub waits_are : w.facts.waits ≡ v.facts.waits

  -- The count was loaded as used up, or found so by the subtraction; or so many are left; or it was
  -- used up by this call, and the latch opened: a resumption was begun for each waiter that was
  -- counted there, one after the other, and each ended so, or one was handed back.
  abbrev pub Counts : View LatchEntry T → Down → List Ending → View LatchEntry T → Type 0
  Counts v Already ends w =
      (ends ≡ []) × WasUsed v (entry.DownAlready v.number ∷ []) w × Rests v.facts.waits w
  Counts v (Left left) ends w =
      (ends ≡ []) × (0 < left) × WasCounted v left (entry.DownLeft v.number left ∷ []) w
      × Rests v.facts.waits w
  Counts v Last ends w =
      (x : View LatchEntry T) × Opens v (length ends) x × Woke ends x w × Rests v.facts.waits w
  Counts v (LastOwing owed) ends w =
      (x : View LatchEntry T) × (u : View LatchEntry T)
      × Opens v (length ends + 1 + owed_further owed) x × Woke ends x u
      × NextHanded (owed_under owed) u w × HandsBack owed v w

  -- A count down: its entries, and why. Its waits stay as they were.
  abbrev pub HasCounted : View LatchEntry T → Down → View LatchEntry T → Type 0
  HasCounted v answer w =
      (ends : List Ending)
      × CallRuleEnding v (counted_entries v.number answer) (woken_entries ends) [] w
      × Counts v answer ends w

  -- All that were owed ended: the one that was handed back, which went on from its ticket, and
  -- those after it. Or that one was handed back again; or it ended, and one after it was handed
  -- back. Then the number that was drawn last has grown, unless there was no slot.
  abbrev pub Finishes : Owed → View LatchEntry T → Result (Unit {0}) Owed → List Ending
      → View LatchEntry T → Type 0
  Finishes owed v (Ok done) ends w =
      (e : Ending) × (rest : List Ending) × (u : View LatchEntry T) × (ends ≡ e ∷ rest)
      × (length rest ≡ owed_further owed) × OnEnded (owed_under owed) e v u × Woke rest u w
      × Rests v.facts.waits w
  Finishes owed v (Err again) ends w =
      HandsBack again v w
      × (under_ticket (owed_under again) ≡ None → owed_reached owed < owed_reached again)
      × (((ends ≡ []) × (owed_further again ≡ owed_further owed)
      × OnHanded (owed_under owed) (owed_under again) v w)
      ⊎ ((e : Ending) × (rest : List Ending) × (u : View LatchEntry T) × (x : View LatchEntry T)
      × (ends ≡ e ∷ rest) × (length rest + 1 + owed_further again ≡ owed_further owed)
      × OnEnded (owed_under owed) e v u × Woke rest u x × NextHanded (owed_under again) x w))

  abbrev pub HasFinished : Owed → View LatchEntry T → Result (Unit {0}) Owed → View LatchEntry T
      → Type 0
  HasFinished owed v answer w =
      (ends : List Ending) × CallRuleEnding v [] (woken_entries ends) [] w
      × Finishes owed v answer ends w
