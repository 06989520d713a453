-- What a cancel answers: exactly what its owner found in the cell of the wait, and what its client
-- answered.
use Rattle.std.specs.Prelude.{◌≡◌, ◌⊎◌, ℕ, ◌≤◌, Bool, true, false, List, [], ◌∷◌, ◌++◌, length, None}
use Rattle.cqs_core.specs.declared.cells.CoreState.TheVariants as state
use Rattle.cqs_core.specs.declared.doings.Doing.TheVariants as doing
use Rattle.cqs_core.specs.QueueSteps.{QueueStep, row_of, CellRow, StepRow, at_counter, at_cell, payload_told, starts_leaving, settles, settles_owing, refuses, refuses_value, looks, late}
use Rattle.cqs_rule_laws.specs.declared.client.ClientWords.{Ghosts}
use Rattle.cqs_rule.specs.declared.queue.Pass.{Pass}
use Rattle.cqs_rule_laws.specs.declared.view.Facts.{Facts}
use Rattle.cqs_rule_laws.specs.declared.view.Glimpse.{Glimpse}
use Rattle.cqs_rule_laws.specs.declared.view.Sighting.{Sighting}
use Rattle.cqs_rule_laws.specs.declared.view.Sighting.TheVariants.{Cell}
use Rattle.cqs_rule_laws.specs.declared.view.View.{View}
use Rattle.cqs_rule.specs.Callbacks.{Asking, by_step, as_it_begins, by_itself}
use Rattle.cqs_rule_laws.specs.Called.{Called}
use Rattle.cqs_rule_laws.specs.Events.{Event, Moment, moment, in_any_case, facts_moved, HasWord}
use Rattle.cqs_rule_laws.specs.Exchanges.{FoundCell, HasCell}
use Rattle.cqs_rule_laws.specs.Facts.{facts_after, facts_worked}
use Rattle.cqs_rule_laws.specs.Hidden.{Gains}
use Rattle.cqs_rule_laws.specs.Layout.{client_place}
use Rattle.cqs_rule_laws.specs.Lists.{IsPrefix}
use Rattle.cqs_rule_laws.specs.Object.{Object, Primitive}
use Rattle.cqs_rule_laws.specs.Settling.{settles_row}
use Rattle.cqs_rule.specs.Counting.{counted_after}
use Rattle.cqs_rule.specs.Owed.{OwesWith}
use Rattle.cqs_rule.specs.Passes.{pass_view}
use Rattle.cqs_rule_laws.specs.Saw.{WasFound, WasSo}
use Rattle.cqs_cancel.specs.declared.cancelling.Left.{Left}
use Rattle.cqs_cancel.specs.declared.cancelling.Left.TheVariants.{Gone, GoneOwing, Late}

-- a pass at these facts that began to leave the wait k, whose cell's word this was
abbrev pub facts_leaving : Gains → ℕ → ℕ → Facts → Facts
facts_leaving gains k word f = facts_after gains (row_of starts_leaving) k word f.has.payload f

-- a pass at these facts that found these besides
abbrev pub facts_tried : List Sighting → Facts → Facts
facts_tried tried f = record f { found = f.found ++ tried }

-- the cell of the number k, with its waiter, and after it was served with this payload
abbrev pub waiting_glimpse : ℕ → Glimpse
waiting_glimpse k = record { number = k; state = state.Waiter; payload = 0 }

abbrev pub served_glimpse : ℕ → ℕ → Glimpse
served_glimpse k payload = record { number = k; state = state.Resumed; payload = payload }

-- where a pass at these facts asks, and finds the client's word to be this
abbrev pub asks_at : {E S : Type 0} → View E S → Facts → ℕ → Moment
asks_at v facts n = moment v.opening v.number facts in_any_case n

module _ {C E S : Type 0} (object : Object E) (primitive : C → Primitive E S) where
  -- A pass was leaving the wait k, and at these facts, after these entries. Its client was asked,
  -- by a step of this event on this word, and answered so by what it found there, after all that
  -- the pass had seen before the call; the entries of the event come next. Then the cell was
  -- settled by a step of this row: it was found in the state that the row wants, with this payload,
  -- at the end of all that the pass has seen before the step's entries. At most one exchange before
  -- it missed. The entries are those of the steps, in order, and the pass is where they lead. A
  -- cell that the last step settled is counted, and by that at most one head was found.
  pub record Settled (first : List E) (facts : Facts) (word : ℕ) (event : Event E) (s : QueueStep)
      (row : CellRow)
      (answer : Bool) (k payload : ℕ) (v w : View E S) : Type 0 where
    pub asked : ℕ
    pub decided : event.doing (asks_at v facts asked) ≡ doing.Decided k answer
    pub asked_was : WasSo primitive (HasWord word asked) w
    pub asked_since : IsPrefix v.seen asked_was.before
    pub asked_next : IsPrefix (asked_was.before ++ event.entries (asks_at v facts asked)) w.seen
    pub tried : List Sighting
    pub few : length tried ≤ 1
    pub found : ℕ
    pub cell : FoundCell found (record { number = k; state = row.finds; payload = payload })
    pub told : ℕ
    pub told_is : told ≡ payload_told row.gain payload (event.payload (asks_at v facts asked))
    pub called : Called object v
        (first ++ (event.entries (asks_at v facts asked) ++ object.entries s v.number k told))
        (object.entries s v.number k told) w
    pub was : WasFound primitive
        (HasCell (record { number = k; state = row.finds; payload = payload }))
        (object.entries s v.number k told) w
    pub heads : List (ℕ × ℕ)
    pub few_heads : length heads ≤ 1
    pub facts_are : w.facts ≡ counted_after (settles_row row) heads
        (facts_worked object.gains row k found told
        (facts_tried tried (facts_moved event (client_place word) (asks_at v facts asked))))

  abbrev pub SettledBy : StepRow → List E → Facts → ℕ → Event E → QueueStep → Bool → ℕ → ℕ
      → View E S → View E S
      → Type 0
  SettledBy (at_counter row) first facts word event s answer k payload v w = ⊥
  SettledBy (at_cell row) first facts word event s answer k payload v w =
      Settled first facts word event s row answer k payload v w

  abbrev pub Settles : List E → Facts → ℕ → Event E → QueueStep → Bool → ℕ → ℕ → View E S → View E S
      → Type 0
  Settles first facts word event s answer k payload v w =
      SettledBy (row_of s) first facts word event s answer k payload v w

  -- How the leaving of the wait k ended. The waiter left the line, or was refused, and what a
  -- resume had left to it ended there; or it left the line, and the pass owes what a resume had
  -- left to it.
  abbrev pub Leaves : List E → Facts → Asking E → ℕ → View E S → Left → View E S → Type 0
  Leaves first facts (by_step word event) k v Gone w =
      Settles first facts word event settles true k 0 v w
      ⊎ (Settles first facts word event refuses false k 0 v w
      ⊎ ((payload : ℕ) × Settles first facts word event refuses_value false k payload v w))
  Leaves first facts (by_step word event) k v (GoneOwing payload) w =
      Settles first facts word event settles_owing true k payload v w
      × OwesWith w.facts payload None
  Leaves first facts (by_step word event) k v (Late payload) w = ⊥
  Leaves first facts as_it_begins k v left w = ⊥
  Leaves first facts by_itself k v left w = ⊥

  -- The cell was found with its waiter, by the first exchange.
  pub record Began (asking : Asking E) (k : ℕ) (v : View E S) (left : Left) (w : View E S)
      : Type 0 where
    pub word : ℕ
    pub cell : FoundCell word (waiting_glimpse k)
    pub was : WasSo primitive (HasCell (waiting_glimpse k)) w
    pub ends : Leaves (object.entries starts_leaving v.number k v.facts.has.payload)
        (facts_leaving object.gains k word v.facts) asking k v left w

  -- It was found served, by the only exchange, and so again by a load, and its cell is counted. The
  -- pass has what it waited for.
  pub record CameLate (k payload : ℕ) (v w : View E S) : Type 0 where
    pub word : ℕ
    pub cell : FoundCell word (served_glimpse k payload)
    pub called : Called object v (object.entries (looks late) v.number k payload)
        (object.entries (looks late) v.number k payload) w
    pub was : WasFound primitive (HasCell (served_glimpse k payload))
        (object.entries (looks late) v.number k payload) w
    pub heads : List (ℕ × ℕ)
    pub few_heads : length heads ≤ 1
    pub facts_are : w.facts ≡ counted_after true heads
        (facts_after object.gains (row_of (looks late)) k word payload
        (facts_tried (Cell k word ∷ []) v.facts))

  abbrev pub Cancels : Asking E → ℕ → View E S → Left → View E S → Type 0
  Cancels asking k v Gone w = Began asking k v Gone w
  Cancels asking k v (GoneOwing payload) w = Began asking k v (GoneOwing payload) w
  Cancels asking k v (Late payload) w = CameLate k payload v w

module _ {C S E : Type 0} {g : Ghosts C S E} where
  -- the wait of the number k was cancelled
  abbrev pub HasCancelled : Asking E → ℕ → Pass C S E g → Left → Pass C S E g → Type 0
  HasCancelled asking k p left p' =
      Cancels g.object g.primitive asking k (pass_view p) left (pass_view p')

  -- what the owner of the wait k began was ended
  abbrev pub HasLeft : Asking E → ℕ → Pass C S E g → Left → Pass C S E g → Type 0
  HasLeft asking k p left p' =
      Leaves g.object g.primitive [] (pass_view p).facts asking k (pass_view p) left (pass_view p')
