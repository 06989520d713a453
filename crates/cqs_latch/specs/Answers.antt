-- What each call answers, and why.
use Rattle.std.specs.Prelude.{◌≡◌, ◌⊎◌, ℕ, ◌<◌, ◌≤◌, true, false, List, [], ◌∷◌, ◌++◌, Option, Some, None, Result, Ok, Err, pos, ◌<ℤ◌, ◌≤ℤ◌}
use Rattle.cqs_core.specs.declared.cells.CoreState.TheVariants as state
use Rattle.cqs_latch_object.specs.declared.entries.LatchEntry.{LatchEntry}
use Rattle.cqs_latch_object.specs.declared.entries.LatchEntry.TheVariants as entry
use Rattle.cqs_rule_laws.specs.declared.config.AcquireError.{AcquireError}
use Rattle.cqs_rule_laws.specs.declared.config.AcquireError.TheVariants as error
use Rattle.cqs_rule.specs.declared.queue.tokens.Wait.{Wait}
use Rattle.cqs_rule_laws.specs.declared.view.Sighting.TheVariants.{Word}
use Rattle.cqs_rule_laws.specs.declared.view.View.{View}
use Rattle.cqs_rule_laws.specs.Layout.{suspends_place, client_place}
use Rattle.cqs_rule_laws.specs.Lists.{without}
use Rattle.cqs_rule.specs.Claims.{WasCrowded}
use Rattle.cqs_rule.specs.Waits.{place_of, HasWait}
use Rattle.cqs_words.specs.State.{count_in}
use Rattle.cqs_words.specs.Waiters.{is_done}
use Rattle.cqs_latch.specs.declared.answers.LatchWait.{LatchWait}
use Rattle.cqs_latch.specs.declared.answers.LatchWait.TheVariants.{Passed, Later}
use Rattle.cqs_latch.specs.declared.answers.LatchPolled.{LatchPolled}
use Rattle.cqs_latch.specs.declared.answers.LatchPolled.TheVariants.{Through, Pending}
use Rattle.cqs_latch.specs.Calls.{CallRule, Rests}
use Rattle.cqs_latch.specs.Causes.{WordWas, NextWas, CellWas, facts_turned}
use Rattle.cqs_latch.specs.Entries.{waited_entries, waited_further}
use Rattle.cqs_latch.specs.LatchTold.{ReadsCount, ReadsWaiters}

module _ {T : Type 0} where
  -- The count was loaded as at most 0, or as above it.
  pub record WasUsed (v : View LatchEntry T) (own : List LatchEntry) (w : View LatchEntry T)
      : Type 0 where
    pub word : ℕ
    pub before : List LatchEntry
    pub used : count_in word ≤ℤ pos 0
    pub found : WordWas 0 ReadsCount v word before own w

  pub record WasAbove (v w : View LatchEntry T) : Type 0 where
    pub word : ℕ
    pub before : List LatchEntry
    pub above : pos 0 <ℤ count_in word
    pub found : WordWas 0 ReadsCount v word before [] w

  -- Then the suspend counter was loaded at the limit or above: so many numbers had been drawn.
  pub record WasWorn (v w : View LatchEntry T) : Type 0 where
    pub loaded : ℕ
    pub before : List LatchEntry
    pub worn : v.limit ≤ loaded
    pub found : NextWas v loaded before w

  -- Or it was loaded below the limit, and then there was no slot for one of two spare ones. The
  -- count was loaded before, and once more to turn back.
  pub record IsCrowded (v w : View LatchEntry T) : Type 0 where
    pub loaded : ℕ
    pub before : List LatchEntry
    pub below : loaded < v.limit
    pub found : NextWas v loaded before w
    pub count : ℕ
    pub back : ℕ
    pub crowded : WasCrowded 2 (record
        (facts_turned
        (Word (client_place 0) count ∷ Word suspends_place loaded ∷ Word (client_place 0) back ∷ [])
        v.facts) { may_draw = true }) v w

  -- One was added to the waiters, and the done bit found set, or not.
  pub record WasOpen (v w : View LatchEntry T) : Type 0 where
    pub word : ℕ
    pub before : List LatchEntry
    pub done : is_done word ≡ true
    pub found : WordWas 1 ReadsWaiters v word before (entry.Passed v.number ∷ []) w

  pub record WasShut (v w : View LatchEntry T) : Type 0 where
    pub word : ℕ
    pub before : List LatchEntry
    pub shut : is_done word ≡ false
    pub found : WordWas 1 ReadsWaiters v word before (entry.AwaitDoor v.number ∷ []) w

  -- Passed: the count was used up; or it was above 0, and the done bit was set by then; or the
  -- resume of the number that was drawn was first, and had left its value in the cell.
  abbrev pub Passes : View LatchEntry T → Option ℕ → View LatchEntry T → Type 0
  Passes v None w =
      (WasUsed v (entry.Passed v.number ∷ []) w ⊎ (WasAbove v w × WasOpen v w))
      × Rests v.facts.waits w
  Passes v (Some k) w =
      WasAbove v w × WasShut v w × CellWas state.Value k (entry.Deliver k ∷ []) w
      × Rests v.facts.waits w

  -- or the cell of the number was empty, and the caller waits there; or as many numbers were drawn
  -- as the limit allows, or there was no slot for a segment, and nothing was changed
  abbrev pub Waits : View LatchEntry T → Option ℕ → Result LatchWait AcquireError
      → View LatchEntry T → Type 0
  Waits v drew (Ok Passed) w = Passes v drew w
  Waits v drew (Ok (Later wait)) w =
      WasAbove v w × WasShut v w × CellWas state.Empty (place_of wait).index [] w × HasWait w wait
      × Rests (v.facts.waits ++ (place_of wait).index ∷ []) w
  Waits v drew (Err error.Worn) w = WasAbove v w × WasWorn v w × Rests v.facts.waits w
  Waits v drew (Err error.Crowded) w = WasAbove v w × IsCrowded v w × Rests v.facts.waits w

  -- A wait: its entries, and why.
  abbrev pub HasWaited : View LatchEntry T → Result LatchWait AcquireError → View LatchEntry T
      → Type 0
  HasWaited v answer w =
      (drew : Option ℕ)
      × CallRule v (waited_entries v.number drew answer) (waited_further drew answer) w
      × Waits v drew answer w

  -- A look at a wait found its cell with its waiter, or found it served.
  abbrev pub IsPolled : Wait → View LatchEntry T → LatchPolled → View LatchEntry T → Type 0
  IsPolled wait v Through w =
      CellWas state.Resumed (place_of wait).index
      (entry.LookGranted v.number (place_of wait).index ∷ []) w
      × Rests (without (place_of wait).index v.facts.waits) w
  IsPolled wait v (Pending again) w =
      (place_of again ≡ place_of wait) × HasWait w again
      × CellWas state.Waiter (place_of wait).index
      (entry.LookPending v.number (place_of wait).index ∷ []) w
      × Rests v.facts.waits w
