-- A step at a cell that was made, whether by an exchange or by a load.
use Rattle.std.proofs.Common.{◌≡◌, ℕ, ◌+◌, ◌≤◌, List, [], ◌∷◌, ◌++◌, length, Option, Some, sym, refl, ap, ◌∙◌, subst, append_assoc, length-append, arith}
use Rattle.std.proofs.lemmas.List.{append-nil}
use Rattle.cqs_core.specs.QueueSteps.{QueueStep, row_of, CellRow, StepRow, at_counter, at_cell, payload_told}
use Rattle.cqs_words.specs.declared.cell.CellState.{CellState}
use Rattle.cqs_words.specs.declared.cell.CellWord.{CellWord}
use Rattle.cqs_rule_laws.specs.declared.view.Facts.{Facts}
use Rattle.cqs_rule_laws.specs.declared.view.Glimpse.{Glimpse}
use Rattle.cqs_rule_laws.specs.declared.view.Sighting.{Sighting}
use Rattle.cqs_rule_laws.specs.declared.view.View.{View}
use Rattle.cqs_rule_laws.specs.Causes.{cell_of}
use Rattle.cqs_rule_laws.specs.Exchanges.{FoundCell, HasCell}
use Rattle.cqs_rule_laws.specs.Facts.{facts_after, facts_worked}
use Rattle.cqs_rule_laws.specs.Kinds.{change_by}
use Rattle.cqs_rule_laws.specs.Loads.{LoadStep, event_of, facts_looked, look_entries, told_at}
use Rattle.cqs_rule_laws.specs.Object.{Object, Primitive}
use Rattle.cqs_rule_laws.specs.Saw.{Saw, WasFound}
use Rattle.cqs_rule_laws.specs.Settling.{settles_row}
use Rattle.cqs_rule.specs.Counting.{counted_after}
use Rattle.cqs_cell.specs.Looks.{LooksAt, settles_event}
use Rattle.cqs_rule_laws.proofs.Calls.{saw-then}
use Rattle.cqs_cell.specs.Transitions.{cells_seen, facts_since, Made, MadeBy, MissedAfter}

-- each word is one sighting
cells-many : (k : ℕ) (words : List ℕ) → length (cells_seen k words) ≡ length words
cells-many k [] = refl
cells-many k (word ∷ words) = let more = cells-many k words in omega arith

module _ {C E S : Type 0} (object : Object E) (primitive : C → Primitive E S) where
  -- A step of this row was made at the cell of the number k, which had this payload, after at most so many exchanges
  -- that weren't. It is what is told of an exchange that was made, but for what a pass that is alone knows of it.
  pub record Worked (s : QueueStep) (row : CellRow) (tried k payload : ℕ) (u w : View E S) : Type 0 where
    pub word : ℕ
    pub cell : FoundCell word (cell_of k row.finds payload)
    pub before : Facts
    pub found : List Sighting
    pub few : length found ≤ tried
    pub last : Option Glimpse
    pub before_is : before ≡ facts_since (u.facts.found ++ found) last u.facts
    pub heads : List (ℕ × ℕ)
    pub few_heads : length heads ≤ 1
    pub saw : Saw object u (counted_after (settles_row row) heads
        (facts_worked object.gains row k word (payload_told row.gain payload u.facts.has.payload) before))
        (object.entries s u.number k (payload_told row.gain payload u.facts.has.payload)) w
    pub was : WasFound primitive (HasCell (cell_of k row.finds payload))
        (object.entries s u.number k (payload_told row.gain payload u.facts.has.payload)) w

  abbrev pub WorkedBy : QueueStep → StepRow → ℕ → ℕ → ℕ → View E S → View E S → Type 0
  WorkedBy s (at_counter row) tried k payload u w = ⊥
  WorkedBy s (at_cell row) tried k payload u w = Worked s row tried k payload u w

  -- an exchange
  worked-made : (s : QueueStep) (row : CellRow) (tried k payload : ℕ) (u w : View E S)
      → Made object primitive s row tried k payload u w → Worked s row tried k payload u w
  worked-made s row tried k payload u w m = record {
    word = m.word;
    cell = m.cell;
    before = m.before;
    found = m.found;
    few = m.few;
    last = m.last;
    before_is = m.before_is;
    heads = m.heads;
    few_heads = m.few_heads;
    saw = m.saw;
    was = m.was;
  }

  pub worked-by : (s : QueueStep) (tried k payload : ℕ) (u w : View E S)
      → MadeBy object primitive s (row_of s) tried k payload u w → WorkedBy s (row_of s) tried k payload u w
  worked-by s tried k payload u w m = by (row_of s) m
    where
      by : (row : StepRow) → MadeBy object primitive s row tried k payload u w → WorkedBy s row tried k payload u w
      by (at_counter row) m = m
      by (at_cell row) m = worked-made s row tried k payload u w m

  -- a load that is an event
  pub worked-looked : (load : LoadStep) (s : QueueStep) (row : CellRow) (k : ℕ) (cell : CellWord) (u w : View E S)
      → row_of s ≡ at_cell row → (l : LooksAt object primitive load k u cell w)
      → l.looked.glimpse.state ≡ row.finds → event_of load row.finds ≡ Some s
      → Worked s row 0 k l.looked.glimpse.payload u w
  worked-looked load s row k cell u w is l finds shows =
      let g : Glimpse = l.looked.glimpse in
      let event : event_of load g.state ≡ Some s = ap (event_of load) finds ∙ shows in
      let told = payload_told row.gain g.payload u.facts.has.payload in
      let here : g ≡ cell_of k row.finds g.payload = λ i. cell_of (l.looked.number i) (finds i) g.payload in
      let heads = l.looked.heads in
      let facts : counted_after (settles_event (event_of load g.state)) heads
      (facts_looked object.gains (event_of load g.state) l.word g u.facts)
      ≡ counted_after (settles_row row) heads (facts_worked object.gains row k l.word told u.facts) =
      ap (λ (z : Option QueueStep). counted_after (settles_event z) heads
      (facts_looked object.gains z l.word g u.facts)) event
      ∙ (ap (λ (z : StepRow). counted_after (change_by z).settles heads
      (facts_after object.gains z g.number l.word (told_at z g.payload u.facts) u.facts)) is
      ∙ ap (λ z. counted_after (settles_row row) heads (facts_worked object.gains row z l.word told u.facts))
      l.looked.number) in
      let entries : look_entries object primitive (event_of load g.state) u.number g u.facts
      ≡ object.entries s u.number k told =
      ap (λ (z : Option QueueStep). look_entries object primitive z u.number g u.facts) event
      ∙ (ap (λ (z : StepRow). object.entries s u.number g.number (told_at z g.payload u.facts)) is
      ∙ ap (λ z. object.entries s u.number z told) l.looked.number) in
      record {
        word = l.word;
        cell = subst (FoundCell l.word) here l.looked.cell;
        before = u.facts;
        found = [];
        few = omega arith;
        last = u.facts.last;
        before_is = λ i. record u.facts { found = sym (append-nil u.facts.found) i };
        heads = heads;
        few_heads = l.looked.few_heads;
        saw = subst (λ (z : Facts × List E). Saw object u z.0 z.1 w) (λ i. (facts i, entries i)) l.looked.saw;
        was = subst (λ (z : Glimpse × List E). WasFound primitive (HasCell z.0) z.1 w)
            (λ i. (here i, entries i)) l.looked.was;
      }

  -- the same after exchanges that weren't made
  pub worked-after : (row' row : CellRow) (s : QueueStep) (tried more k payload : ℕ) (state : CellState)
      (v u w : View E S)
      → MissedAfter object primitive row' tried k v state u → Worked s row more k payload u w
      → Worked s row (tried + 1 + more) k payload v w
  worked-after row' row s tried more k payload state v u w m d =
      let seen : List Sighting = cells_seen k (m.words ++ m.word ∷ []) in
      let u_is : u.facts ≡ facts_since (v.facts.found ++ seen) (Some m.glimpse) v.facts = m.saw.facts_are in
      let told : u.facts.has.payload ≡ v.facts.has.payload = ap (λ (f : Facts). f.has.payload) u_is in
      let entries_are : object.entries s u.number k (payload_told row.gain payload u.facts.has.payload)
      ≡ object.entries s v.number k (payload_told row.gain payload v.facts.has.payload) =
      λ i. object.entries s (m.saw.same.number i) k (payload_told row.gain payload (told i)) in
      let one = cells-many k (m.words ++ m.word ∷ []) in
      let two : length (m.words ++ m.word ∷ []) ≡ length m.words + 1 = length-append m.words (m.word ∷ []) in
      let both : length (seen ++ d.found) ≡ length seen + length d.found = length-append seen d.found in
      let few = m.few in
      let few_more = d.few in
      record {
        word = d.word;
        cell = d.cell;
        before = d.before;
        found = seen ++ d.found;
        few = omega arith;
        last = d.last;
        before_is = d.before_is
            ∙ ((λ i. facts_since ((u_is i).found ++ d.found) d.last (u_is i))
            ∙ (λ i. facts_since (append_assoc v.facts.found seen d.found i) d.last v.facts));
        heads = d.heads;
        few_heads = d.few_heads;
        saw = saw-then object v u w _ _ _ m.saw
            (subst (λ (z : ℕ × List E). Saw object u (counted_after (settles_row row) d.heads
            (facts_worked object.gains row k d.word (payload_told row.gain payload z.0) d.before)) z.1 w)
            (λ i. (told i, entries_are i)) d.saw);
        was = subst (λ z. WasFound primitive (HasCell (cell_of k row.finds payload)) z w) entries_are d.was;
      }
