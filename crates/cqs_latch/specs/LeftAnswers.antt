-- What a cancel answers, and why.
use Rattle.std.specs.Prelude.{◌≡◌, ◌⊎◌, ℕ, Bool, true, false, List, [], ◌∷◌}
use Rattle.cqs_core.specs.declared.cells.CoreState.TheVariants as state
use Rattle.cqs_latch_object.specs.declared.entries.LatchEntry.{LatchEntry}
use Rattle.cqs_latch_object.specs.declared.entries.LatchEntry.TheVariants as entry
use Rattle.cqs_rule_laws.specs.declared.config.CancelMode.{CancelMode}
use Rattle.cqs_rule_laws.specs.declared.config.CancelMode.TheVariants.{Smart, Simple}
use Rattle.cqs_rule_laws.specs.declared.view.Facts.{Facts}
use Rattle.cqs_rule_laws.specs.declared.view.View.{View}
use Rattle.cqs_rule_laws.specs.Lists.{without}
use Rattle.cqs_words.specs.Waiters.{is_done}
use Rattle.cqs_latch.specs.declared.answers.LatchLeft.{LatchLeft}
use Rattle.cqs_latch.specs.declared.answers.LatchLeft.TheVariants.{Gone, GoneOwing, TooLate}
use Rattle.cqs_rule_laws.specs.CallRule.{IsReady}
use Rattle.cqs_latch.specs.Calls.{CallRuleEnding, Rests}
use Rattle.cqs_latch.specs.Causes.{WordWas, CellWas, CellWasOnce}
use Rattle.cqs_latch.specs.Entries.{left_entries}
use Rattle.cqs_latch.specs.Owed.{HasOwed, owed_under, owed_further}
use Rattle.cqs_latch.specs.LatchTold.{ReadsWaiters}
use Rattle.cqs_latch.specs.Waking.{Ending, IsHandedFor, woken_entries, EndsSo}

-- the pass is between two calls, unless it owes what was handed back
abbrev pub IsReadyLeft : LatchLeft → Facts → Type 0
IsReadyLeft Gone facts = IsReady facts
IsReadyLeft (GoneOwing owed) facts = HasOwed facts owed
IsReadyLeft TooLate facts = IsReady facts

module _ {T : Type 0} where
  -- One was taken from the waiters, and the done bit found set, or not: the canceller of the wait k
  -- was refused, or has left the line.
  pub record WasAsked (done : Bool) (k : ℕ) (v w : View LatchEntry T) : Type 0 where
    pub word : ℕ
    pub before : List LatchEntry
    pub done_is : is_done word ≡ done
    pub found : WordWas 1 ReadsWaiters v word before (entry.Leave v.number k ∷ []) w

  -- How it went in smart mode. Nothing was left to be passed on: the waiter left the line, and no
  -- resumption had come to its cell; or it was refused, and one that had come ended there. Or it
  -- left the line, a resumption had left its value to it, and that went on and ended so.
  abbrev pub WentSo : ℕ → View LatchEntry T → List Ending → View LatchEntry T → Type 0
  WentSo k v [] w =
      (WasAsked false k v w × CellWas state.Cancelling k [] w)
      ⊎ (WasAsked true k v w × (CellWas state.Cancelling k [] w ⊎ CellWas state.Delegated k [] w))
  WentSo k v (e ∷ []) w =
      WasAsked false k v w × CellWasOnce state.Delegated k v w × EndsSo e w
  WentSo k v (e ∷ (e' ∷ es)) w = ⊥

  -- The cell was found resumed; or with its waiter, who went. In simple mode the cell is a hole
  -- from that exchange on.
  abbrev pub LeftSo : CancelMode → ℕ → View LatchEntry T → LatchLeft → List Ending
      → View LatchEntry T → Type 0
  LeftSo mode k v TooLate ends w =
      (ends ≡ []) × CellWas state.Resumed k (entry.Late v.number k ∷ []) w
      × Rests (without k v.facts.waits) w
  LeftSo Smart k v Gone ends w =
      CellWasOnce state.Waiter k v w × WentSo k v ends w × Rests (without k v.facts.waits) w
  LeftSo Simple k v Gone ends w =
      (ends ≡ []) × CellWas state.Waiter k (entry.Leave v.number k ∷ []) w
      × Rests (without k v.facts.waits) w
  LeftSo Smart k v (GoneOwing owed) ends w =
      (ends ≡ []) × CellWasOnce state.Waiter k v w × WasAsked false k v w
      × CellWasOnce state.Delegated k v w × IsHandedFor (owed_under owed) v w
      × HasOwed w.facts owed × (owed_further owed ≡ 0)
      × (w.facts.waits ≡ without k v.facts.waits)
  LeftSo Simple k v (GoneOwing owed) ends w = ⊥

  -- A cancel of the wait k: its entries, and why.
  abbrev pub HasLeft : CancelMode → ℕ → View LatchEntry T → LatchLeft → View LatchEntry T → Type 0
  HasLeft mode k v answer w =
      (ends : List Ending)
      × CallRuleEnding v (left_entries v.number k answer) (woken_entries ends) [] w
      × LeftSo mode k v answer ends w
