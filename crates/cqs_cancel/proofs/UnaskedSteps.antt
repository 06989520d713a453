-- A cancel whose client isn't asked is its steps: the exchange by which its waiter leaves the line, and the one by
-- which the cell is settled.
use Rattle.std.proofs.Common.{◌≡◌, ℕ, ◌≤◌, true, List, [], ◌++◌, Option, Some, None, sym, refl, ap, ◌∙◌, subst, arith}
use Rattle.std.proofs.lemmas.List.{append-nil}
use Rattle.cqs_core.specs.QueueSteps.{QueueStep, row_of, CellRow, StepRow, at_counter, at_cell, payload_told, leaves_line, settles, settles_owing}
use Rattle.cqs_words.specs.declared.cell.CellState.{CellState}
use Rattle.cqs_rule_laws.specs.declared.client.ClientWords.{Ghosts}
use Rattle.cqs_rule_laws.specs.declared.config.Place.{Place}
use Rattle.cqs_rule.specs.declared.queue.Pass.{Pass}
use Rattle.cqs_rule_laws.specs.declared.view.Facts.{Facts}
use Rattle.cqs_rule_laws.specs.declared.view.Glimpse.{Glimpse}
use Rattle.cqs_rule_laws.specs.declared.view.Has.{Has}
use Rattle.cqs_rule_laws.specs.declared.view.View.{View}
use Rattle.cqs_rule_laws.specs.Exchanges.{HasCell}
use Rattle.cqs_rule_laws.specs.Facts.{facts_worked}
use Rattle.cqs_rule_laws.specs.Object.{Object, Primitive}
use Rattle.cqs_rule_laws.specs.Settling.{settles_row}
use Rattle.cqs_rule.specs.Counting.{counted_after}
use Rattle.cqs_rule.specs.Owed.{OwesWith}
use Rattle.cqs_rule.specs.Passes.{pass_view}
use Rattle.cqs_rule_laws.specs.Placed.{KnowsPlace}
use Rattle.cqs_rule_laws.specs.Saw.{Saw, WasFound}
use Rattle.cqs_rule_laws.proofs.Calls.{called-by, called-then}
use Rattle.cqs_rule.proofs.Places.{knows-saw, knows-at}
use Rattle.cqs_cell.specs.Transitions.{facts_since, Made, MadeBy, HasMade, HasMissed, HasSettled}
use Rattle.cqs_cancel.specs.declared.cancelling.Left.{Left}
use Rattle.cqs_cancel.specs.declared.cancelling.Left.TheVariants.{Gone, GoneOwing}
use Rattle.cqs_cancel.specs.Cancels.{facts_tried, waiting_glimpse}
use Rattle.cqs_cancel.specs.Unasked.{facts_left, Closed, ClosedBy, Closes, left_of, HasCancelledUnasked}
use Rattle.cqs_cancel.proofs.Steps.{no-more, found-then, saw-more}

module _ {C E S : Type 0} (object : Object E) (primitive : C → Primitive E S) where
  -- the waiter left the line, and a step settled the cell
  closed : (s : QueueStep) (row : CellRow) (tries k payload : ℕ) (v u w : View E S) → tries ≤ 1
      → MadeBy object primitive leaves_line (row_of leaves_line) 0 k 0 v u
      → Made object primitive s row tries k payload u w → Closed object primitive s row k payload v w
  closed s row tries k payload v u w low l m =
      let none : l.found ≡ [] = no-more l.found l.few in
      let before_is : l.before ≡ facts_since v.facts.found l.last v.facts =
      l.before_is ∙ ((λ i. facts_since (v.facts.found ++ none i) l.last v.facts)
      ∙ (λ i. facts_since (append-nil v.facts.found i) l.last v.facts)) in
      let first : List E = object.entries leaves_line v.number k v.facts.has.payload in
      let left : Facts = facts_left object.gains k l.word v.facts in
      let saw : Saw object v left first u =
      subst (λ (f : Facts). Saw object v (facts_left object.gains k l.word f) first u) before_is l.saw in
      let is : u.facts ≡ left = saw.facts_are in
      let has : u.facts.has ≡ v.facts.has = ap (λ (f : Facts). f.has) is in
      let number : u.number ≡ v.number = saw.same.number in
      let told : ℕ = payload_told row.gain payload v.facts.has.payload in
      let told_same : payload_told row.gain payload u.facts.has.payload ≡ told =
      ap (λ (h : Has). payload_told row.gain payload h.payload) has in
      let entries_are : object.entries s u.number k (payload_told row.gain payload u.facts.has.payload)
      ≡ object.entries s v.number k told = λ i. object.entries s (number i) k (told_same i) in
      let glimpse : Glimpse = record { number = k; state = row.finds; payload = payload } in
      let now : Facts = counted_after (settles_row row) m.heads
      (facts_worked object.gains row k m.word (payload_told row.gain payload u.facts.has.payload) m.before) in
      let few = m.few in
      record {
        word = l.word;
        waiter = l.cell;
        was_waiting = found-then object primitive (HasCell (waiting_glimpse k)) first u w l.was
            (saw-more object primitive u w _ _ m.saw) m.saw.same.opening;
        tried = m.found;
        few = omega arith;
        found = m.word;
        cell = m.cell;
        told = told;
        told_is = refl;
        called = called-then object v u w _ first first (object.entries s v.number k told)
            (called-by object v u left first saw)
            (subst (λ (es : List E). Saw object u now es w) entries_are m.saw);
        was = subst (λ (es : List E). WasFound primitive (HasCell glimpse) es w) entries_are m.was;
        heads = m.heads;
        few_heads = m.few_heads;
        facts_are = m.saw.facts_are ∙ ap (counted_after (settles_row row) m.heads)
            ((λ i. facts_worked object.gains row k m.word (told_same i) (m.before_is i))
            ∙ (λ i. facts_worked object.gains row k m.word told (facts_tried m.found (is i))));
      }

  pub closes-by : (s : QueueStep) (tries k payload : ℕ) (v u w : View E S) → tries ≤ 1
      → MadeBy object primitive leaves_line (row_of leaves_line) 0 k 0 v u
      → MadeBy object primitive s (row_of s) tries k payload u w → Closes object primitive s k payload v w
  closes-by s tries k payload v u w low l m = by (row_of s) m
    where
      by : (row : StepRow) → MadeBy object primitive s row tries k payload u w
          → ClosedBy object primitive row s k payload v w
      by (at_counter row) m = absurd m
      by (at_cell row) m = closed s row tries k payload v u w low l m

  owes-on : (k payload : ℕ) (v w : View E S) → Closes object primitive settles_owing k payload v w
      → OwesWith w.facts payload None
  owes-on k payload v w t = record {
    doing = ap (λ (f : Facts). f.doing) t.facts_are;
    owed = ap (λ (f : Facts). f.has.payload) t.facts_are ∙ t.told_is;
  }

module _ {C S E : Type 0} {g : Ghosts C S E} where
  -- the cell was settled, and no resume had left anything there; or one had
  gone-unasked : (k : ℕ) (p q r : Pass C S E g) → HasMade leaves_line k 0 p q → HasSettled true k None q r
      → HasCancelledUnasked k p Gone r
  gone-unasked k p q r l m =
      closes-by g.object g.primitive settles 0 k 0 (pass_view p) (pass_view q) (pass_view r) (omega arith) l m

  gone-owing-unasked : (k payload : ℕ) (p q r : Pass C S E g) → HasMade leaves_line k 0 p q
      → HasSettled true k (Some payload) q r → HasCancelledUnasked k p (GoneOwing payload) r
  gone-owing-unasked k payload p q r l m =
      let t = closes-by g.object g.primitive settles_owing 1 k payload (pass_view p) (pass_view q) (pass_view r)
      (omega arith) l m in
      (t, owes-on g.object g.primitive k payload (pass_view p) (pass_view r) t)

  pub closes-left : (k : ℕ) (found : Option ℕ) (left : Left) (p q r : Pass C S E g) → HasMade leaves_line k 0 p q
      → HasSettled true k found q r → left ≡ left_of found → HasCancelledUnasked k p left r
  closes-left k None left p q r l m is = subst (λ z. HasCancelledUnasked k p z r) (sym is) (gone-unasked k p q r l m)
  closes-left k (Some payload) left p q r l m is =
      subst (λ z. HasCancelledUnasked k p z r) (sym is) (gone-owing-unasked k payload p q r l m)

  -- what the pass knew of places it knows after the first exchange, whatever that found
  pub left-place : (k : ℕ) (p q : Pass C S E g) (at on : Place) → HasMade leaves_line k 0 p q → on ≡ at
      → KnowsPlace (pass_view p) at → KnowsPlace (pass_view q) on
  left-place k p q at on m same knows = knows-at (pass_view q) (pass_view q) at on refl same
      (knows-saw g.object (pass_view p) (pass_view q) _ _ at m.saw knows)

  pub found-place : (k : ℕ) (found : CellState) (p q : Pass C S E g) (at on : Place)
      → HasMissed leaves_line k found p q → on ≡ at → KnowsPlace (pass_view p) at → KnowsPlace (pass_view q) on
  found-place k found p q at on m same knows = knows-at (pass_view q) (pass_view q) at on refl same
      (knows-saw g.object (pass_view p) (pass_view q) _ _ at m.saw knows)

-- how a call ends
pub ruleset unasked_ends = (closes-left)
