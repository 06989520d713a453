-- What a suspend answers: exactly the state in which its cell was found, at the last of its steps.
use Rattle.std.specs.Prelude.{◌≡◌, ℕ, ◌≤◌, List, ◌++◌, length}
use Rattle.cqs_core.specs.QueueSteps.{QueueStep, row_of, CellRow, StepRow, at_counter, at_cell, payload_told, draws, enters, installs, takes}
use Rattle.cqs_rule_laws.specs.declared.client.ClientWords.{Ghosts}
use Rattle.cqs_rule.specs.declared.queue.Pass.{Pass}
use Rattle.cqs_rule_laws.specs.declared.view.Facts.{Facts}
use Rattle.cqs_rule_laws.specs.declared.view.Glimpse.{Glimpse}
use Rattle.cqs_rule_laws.specs.declared.view.Sighting.{Sighting}
use Rattle.cqs_rule_laws.specs.declared.view.Spare.{Spare}
use Rattle.cqs_rule_laws.specs.declared.view.View.{View}
use Rattle.cqs_rule_laws.specs.Called.{Called}
use Rattle.cqs_rule_laws.specs.Exchanges.{FoundCell, HasCell}
use Rattle.cqs_rule_laws.specs.Facts.{facts_after, facts_worked}
use Rattle.cqs_rule_laws.specs.Hidden.{Gains}
use Rattle.cqs_rule_laws.specs.Object.{Object, Primitive}
use Rattle.cqs_rule.specs.Passes.{pass_view}
use Rattle.cqs_rule_laws.specs.Saw.{WasFound}
use Rattle.cqs_rule_laws.specs.Settling.{settles_row}
use Rattle.cqs_rule.specs.Counting.{counted_after}
use Rattle.cqs_rule.specs.Waits.{place_of, HasWait}
use Rattle.cqs_find.specs.Finds.{IsSearch, facts_searched}
use Rattle.cqs_suspend.specs.declared.suspending.Suspended.{Suspended}
use Rattle.cqs_suspend.specs.declared.suspending.Suspended.TheVariants.{Waits, Took}

-- a pass at these facts that drew the number k to suspend at, from the door or as it was idle
abbrev pub facts_drawn : Gains → ℕ → Facts → Facts
facts_drawn gains k f = facts_after gains (row_of draws) k k f.has.payload f

-- the cell of the number k, as a step of this row finds it, with this payload
abbrev pub cell_found : CellRow → ℕ → ℕ → Glimpse
cell_found row k payload = record { number = k; state = row.finds; payload = payload }

-- the payload that such a step tells, of a pass at these facts
abbrev pub told_by : CellRow → ℕ → Facts → ℕ
told_by row payload f = payload_told row.gain payload f.has.payload

module _ {E S : Type 0} (object : Object E) (k : ℕ) (v : View E S) where
  -- the entries of the step that drew the number k, and of the step of this row that is made at its
  -- cell
  abbrev pub draw_entries : QueueStep → List E
  draw_entries drawing = object.entries drawing v.number k v.facts.has.payload

  abbrev pub end_entries : QueueStep → CellRow → ℕ → List E
  end_entries s row payload = object.entries s v.number k (told_by row payload v.facts)

module _ {C E S : Type 0} (object : Object E) (primitive : C → Primitive E S) where
  -- The number k was drawn by this step, and the call's last step, of this row, was made at its
  -- cell: the cell was found in the state that the row wants, with this payload, at the end of all
  -- that the pass has seen before the step's entries. The call's entries are those of the two
  -- steps, in order, and the pass is where they lead. In between it found these, by its search for
  -- the cell and by so many tries in vain. If the last step settled the cell, that is counted, and
  -- by that at most one head was found.
  pub record Ended (drawing s : QueueStep) (row : CellRow) (tries k payload : ℕ) (v w : View E S)
      : Type 0 where
    pub called : Called object v
        (draw_entries object k v drawing ++ end_entries object k v s row payload)
        (end_entries object k v s row payload) w
    pub word : ℕ
    pub cell : FoundCell word (cell_found row k payload)
    pub was : WasFound primitive (HasCell (cell_found row k payload))
        (end_entries object k v s row payload) w
    pub found : List Sighting
    pub heads : List (ℕ × ℕ)
    pub few : length found ≤ tries
    pub spares : List Spare
    pub search : IsSearch k v heads spares
    pub counted_heads : List (ℕ × ℕ)
    pub few_counted : length counted_heads ≤ 1
    pub facts_are : w.facts
        ≡ counted_after (settles_row row) counted_heads (facts_worked object.gains row k word
        (told_by row payload v.facts)
        (facts_searched found heads spares (facts_drawn object.gains k v.facts)))

  abbrev pub EndedBy : QueueStep → QueueStep → StepRow → ℕ → ℕ → ℕ → View E S → View E S → Type 0
  EndedBy drawing s (at_counter row) tries k payload v w = ⊥
  EndedBy drawing s (at_cell row) tries k payload v w = Ended drawing s row tries k payload v w

  -- the call of a pass at the door ended with this step; and that of an idle one
  abbrev pub EndsBy : QueueStep → ℕ → ℕ → ℕ → View E S → View E S → Type 0
  EndsBy s tries k payload v w = EndedBy draws s (row_of s) tries k payload v w

  abbrev pub EntersBy : QueueStep → ℕ → ℕ → ℕ → View E S → View E S → Type 0
  EntersBy s tries k payload v w = EndedBy enters s (row_of s) tries k payload v w

module _ {C S E : Type 0} {g : Ghosts C S E} where
  -- An empty cell got its waiter, by the only exchange. Or the value was taken that the resume of
  -- the number left: the first exchange found that the cell wasn't empty, and a second one may have
  -- found another payload than it wanted.
  abbrev pub Suspends : Pass C S E g → Suspended → Pass C S E g → Type 0
  Suspends p (Waits wait) p' =
      EndsBy g.object g.primitive installs 0 (place_of wait).index 0 (pass_view p) (pass_view p')
      × HasWait (pass_view p') wait
  Suspends p (Took payload k) p' =
      EndsBy g.object g.primitive takes 2 k payload (pass_view p) (pass_view p')

  -- the same of a pass that drew its number as it was idle
  abbrev pub HasEntered : Pass C S E g → Suspended → Pass C S E g → Type 0
  HasEntered p (Waits wait) p' =
      EntersBy g.object g.primitive installs 0 (place_of wait).index 0 (pass_view p) (pass_view p')
      × HasWait (pass_view p') wait
  HasEntered p (Took payload k) p' =
      EntersBy g.object g.primitive takes 2 k payload (pass_view p) (pass_view p')
