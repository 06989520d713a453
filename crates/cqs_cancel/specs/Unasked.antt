-- What a cancel answers whose client isn't asked: exactly what its owner found in the cell of the
-- wait.
use Rattle.std.specs.Prelude.{◌≡◌, ℕ, ◌≤◌, List, ◌++◌, length, Option, Some, None}
use Rattle.cqs_core.specs.QueueSteps.{QueueStep, row_of, CellRow, StepRow, at_counter, at_cell, payload_told, leaves_line, settles, settles_owing}
use Rattle.cqs_rule_laws.specs.declared.client.ClientWords.{Ghosts}
use Rattle.cqs_rule.specs.declared.queue.Pass.{Pass}
use Rattle.cqs_rule_laws.specs.declared.view.Facts.{Facts}
use Rattle.cqs_rule_laws.specs.declared.view.Sighting.{Sighting}
use Rattle.cqs_rule_laws.specs.declared.view.View.{View}
use Rattle.cqs_rule_laws.specs.Called.{Called}
use Rattle.cqs_rule_laws.specs.Exchanges.{FoundCell, HasCell}
use Rattle.cqs_rule_laws.specs.Facts.{facts_after, facts_worked}
use Rattle.cqs_rule_laws.specs.Hidden.{Gains}
use Rattle.cqs_rule_laws.specs.Object.{Object, Primitive}
use Rattle.cqs_rule_laws.specs.Settling.{settles_row}
use Rattle.cqs_rule.specs.Counting.{counted_after}
use Rattle.cqs_rule.specs.Owed.{OwesWith}
use Rattle.cqs_rule.specs.Passes.{pass_view}
use Rattle.cqs_rule_laws.specs.Saw.{WasFound, WasSo}
use Rattle.cqs_cancel.specs.declared.cancelling.Left.{Left}
use Rattle.cqs_cancel.specs.declared.cancelling.Left.TheVariants.{Gone, GoneOwing, Late}
use Rattle.cqs_cancel.specs.Cancels.{facts_tried, waiting_glimpse, CameLate}

-- a pass at these facts that has left the wait k, whose cell's word this was
abbrev pub facts_left : Gains → ℕ → ℕ → Facts → Facts
facts_left gains k word f = facts_after gains (row_of leaves_line) k word f.has.payload f

-- what a settled cell comes to: nothing was left there, or the pass owes what was
abbrev pub left_of : Option ℕ → Left
left_of None = Gone
left_of (Some payload) = GoneOwing payload

module _ {C E S : Type 0} (object : Object E) (primitive : C → Primitive E S) where
  -- The cell of the wait k was found with its waiter by the first exchange, which left the line.
  -- Then it was settled by a step of this row: it was found in the state that the row wants, with
  -- this payload, at the end of all that the pass has seen before the step's entries. At most one
  -- exchange between missed. The entries are those of the two steps, in order, and the pass is
  -- where they lead. A cell that the last step settled is counted, and by that at most one head was
  -- found.
  pub record Closed (s : QueueStep) (row : CellRow) (k payload : ℕ) (v w : View E S) : Type 0 where
    pub word : ℕ
    pub waiter : FoundCell word (waiting_glimpse k)
    pub was_waiting : WasSo primitive (HasCell (waiting_glimpse k)) w
    pub tried : List Sighting
    pub few : length tried ≤ 1
    pub found : ℕ
    pub cell : FoundCell found (record { number = k; state = row.finds; payload = payload })
    pub told : ℕ
    pub told_is : told ≡ payload_told row.gain payload v.facts.has.payload
    pub called : Called object v
        (object.entries leaves_line v.number k v.facts.has.payload
        ++ object.entries s v.number k told)
        (object.entries s v.number k told) w
    pub was : WasFound primitive
        (HasCell (record { number = k; state = row.finds; payload = payload }))
        (object.entries s v.number k told) w
    pub heads : List (ℕ × ℕ)
    pub few_heads : length heads ≤ 1
    pub facts_are : w.facts ≡ counted_after (settles_row row) heads
        (facts_worked object.gains row k found told
        (facts_tried tried (facts_left object.gains k word v.facts)))

  abbrev pub ClosedBy : StepRow → QueueStep → ℕ → ℕ → View E S → View E S → Type 0
  ClosedBy (at_counter row) s k payload v w = ⊥
  ClosedBy (at_cell row) s k payload v w = Closed s row k payload v w

  abbrev pub Closes : QueueStep → ℕ → ℕ → View E S → View E S → Type 0
  Closes s k payload v w = ClosedBy (row_of s) s k payload v w

  -- The waiter left the line; or it did, and the pass owes what a resume had left to it; or it was
  -- found served.
  abbrev pub CancelsUnasked : ℕ → View E S → Left → View E S → Type 0
  CancelsUnasked k v Gone w = Closes settles k 0 v w
  CancelsUnasked k v (GoneOwing payload) w =
      Closes settles_owing k payload v w × OwesWith w.facts payload None
  CancelsUnasked k v (Late payload) w = CameLate object primitive k payload v w

module _ {C S E : Type 0} {g : Ghosts C S E} where
  -- the wait of the number k was cancelled
  abbrev pub HasCancelledUnasked : ℕ → Pass C S E g → Left → Pass C S E g → Type 0
  HasCancelledUnasked k p left p' =
      CancelsUnasked g.object g.primitive k (pass_view p) left (pass_view p')
