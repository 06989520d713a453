-- One number of a resume: its cell is looked for, and tried until a step is made there.
use Rattle.std.proofs.Common.{true, ◌≡◌, ◌≢◌, ℕ, suc, ◌+◌, ◌-◌, ◌<◌, ◌≤◌, List, [], ◌∷◌, ◌++◌, length, Option, Some, None, min, sym, refl, ap, ◌∙◌, subst, inl, ⊎_elim, append_assoc, length-append, arith}
use Rattle.std.proofs.lemmas.List.{append-nil}
use Rattle.cqs_core.specs.declared.cells.CoreState.{CoreState}
use Rattle.cqs_core.specs.declared.cells.CoreState.TheVariants as state
use Rattle.cqs_core.specs.declared.doings.Doing.{Doing}
use Rattle.cqs_core.specs.declared.doings.Doing.TheVariants as doing
use Rattle.cqs_core.specs.QueueCells.{rank, IsBare}
use Rattle.cqs_core.specs.QueueSound.{IsUnended}
use Rattle.cqs_core.specs.QueueStages as stage
use Rattle.cqs_core.specs.QueueStages.{MayFind}
use Rattle.cqs_core.specs.QueueSteps.{QueueStep, row_of, CellRow, StepRow, at_counter, at_cell, nothing, payload_told, serves, leaves, delegates, passes_over, ends_refused, in_sync, leaves_watched}
use Rattle.cqs_words.specs.declared.cell.CellState.{CellState}
use Rattle.cqs_words.specs.declared.cell.CellState.TheVariants as shown
use Rattle.cqs_words.specs.declared.cell.CellWord.{CellWord}
use Rattle.cqs_rule_laws.specs.declared.config.Place.{Place}
use Rattle.cqs_rule_laws.specs.declared.view.Facts.{Facts}
use Rattle.cqs_rule_laws.specs.declared.view.Glimpse.{Glimpse}
use Rattle.cqs_rule_laws.specs.declared.view.Sighting.{Sighting}
use Rattle.cqs_rule_laws.specs.declared.view.Sighting.TheVariants.{Cell}
use Rattle.cqs_rule_laws.specs.declared.view.Spare.{Spare}
use Rattle.cqs_rule_laws.specs.declared.view.View.{View}
use Rattle.cqs_rule.specs.Callbacks.{EndedRefused}
use Rattle.cqs_rule_laws.specs.Exchanges.{FoundCell, HasCell, SinceLast, IsFoundSince}
use Rattle.cqs_rule_laws.specs.Facts.{facts_worked, facts_missed, looked_then}
use Rattle.cqs_rule_laws.specs.Hidden.{Gains}
use Rattle.cqs_rule_laws.specs.Loads.{meets}
use Rattle.cqs_rule_laws.specs.Object.{Object, Primitive}
use Rattle.cqs_rule_laws.specs.PassedOver.{PassedOver}
use Rattle.cqs_rule_laws.specs.Placed.{KnowsPlace}
use Rattle.cqs_rule_laws.specs.Ruled.{shown_state}
use Rattle.cqs_rule_laws.specs.Saw.{Saw, WasFound}
use Rattle.cqs_rule_laws.specs.SegmentSteps.{LeftBy}
use Rattle.cqs_rule_laws.proofs.Calls.{saw-then}
use Rattle.cqs_rule_laws.proofs.CellSteps.{shown-injective}
use Rattle.cqs_rule.proofs.Places.{knows-saw}
use Rattle.cqs_rule.specs.Counting.{counted_after}
use Rattle.cqs_cell.specs.Looks.{LooksAt}
use Rattle.cqs_cell.specs.Transitions.{facts_since, MadeBy, Missed}
use Rattle.cqs_cell.proofs.Worked as cells
use Rattle.cqs_find.specs.Finds.{facts_searched, IsSearch, Searched}
use Rattle.cqs_find.proofs.Searches.{saw-left}
use Rattle.cqs_rule_laws.specs.Settling.{duties_then, settles_row}
use Rattle.cqs_rule_laws.specs.Kinds.{change_by}
use Rattle.cqs_resume.specs.Counting.{duties_by, looked_by, settles_at}
use Rattle.cqs_resume.specs.Meets.{facts_met, cell_of, Met}

-- a pass at these facts that found these words and heads besides, and another glimpse, and has these slots spare
abbrev pub facts_on_way : List Sighting → List (ℕ × ℕ) → List Spare → Option Glimpse → Facts → Facts
facts_on_way found heads spares last f = record (facts_searched found heads spares f) { last = last }

-- A step of this row at the cell of the number k finds it in this state, and leaves the pass at this, with these
-- numbers passed over besides.
pub record IsEnd (gains : Gains) (row : CellRow) (state : CoreState) (at : Doing) (over : List ℕ) (k : ℕ) : Type 0 where
  pub finds : row.finds ≡ state
  pub told : row.gain ≡ nothing
  pub facts : (n payload : ℕ) (f : Facts) → facts_worked gains row k n payload f
      ≡ record f {
        doing = at;
        last = None;
        looked = looked_then row.works_at row.goes_to f.looked;
        passed = f.passed ++ over;
        duties = duties_then (settles_row row) k f.duties;
        found = f.found ++ Cell k n ∷ [];
      }

-- the exchanges of a resume end it, and so does a refused cell
pub idles : (f : Facts) (duties : List ℕ) (k n : ℕ)
    → record f { doing = doing.Idle; last = None; passed = f.passed; duties = duties; found = f.found ++ Cell k n ∷ [] }
    ≡ record f {
      doing = doing.Idle;
      last = None;
      passed = f.passed ++ [];
      duties = duties;
      found = f.found ++ Cell k n
          ∷ [];
    }
idles f duties k n =
    λ i. record f {
      doing = doing.Idle;
      last = None;
      passed = sym (append-nil f.passed) i;
      duties = duties;
      found = f.found ++ Cell k n ∷ [];
    }

abbrev pub IsEndBy : Gains → StepRow → CoreState → Doing → List ℕ → ℕ → Type 0
IsEndBy gains (at_counter row) state at over k = ⊥
IsEndBy gains (at_cell row) state at over k = IsEnd gains row state at over k

pub end-serves : (gains : Gains) (k : ℕ) → IsEndBy gains (row_of serves) state.Waiter doing.Idle [] k
end-serves gains k = record { finds = refl; told = refl; facts = λ n payload f. idles f f.duties k n }

pub end-leaves : (gains : Gains) (k : ℕ) → IsEndBy gains (row_of leaves) state.Empty doing.Idle [] k
end-leaves gains k = record { finds = refl; told = refl; facts = λ n payload f. idles f f.duties k n }

pub end-delegates : (gains : Gains) (k : ℕ) → IsEndBy gains (row_of delegates) state.Cancelling doing.Idle [] k
end-delegates gains k = record { finds = refl; told = refl; facts = λ n payload f. idles f f.duties k n }

pub end-refused : (gains : Gains) (k : ℕ) → IsEndBy gains (row_of ends_refused) state.Refused doing.Idle [] k
end-refused gains k = record {
  finds = refl;
  told = refl;
  facts = λ n payload f. idles f (duties_then true k f.duties) k n;
}

pub end-watched : (gains : Gains) (k : ℕ)
    → IsEndBy gains (row_of (in_sync leaves_watched)) state.Empty (doing.Watching k) [] k
end-watched gains k = record {
  finds = refl;
  told = refl;
  facts = λ n payload f. λ i. record f {
    doing = doing.Watching k;
    last = None;
    looked = 0;
    passed = sym (append-nil f.passed) i;
    found = f.found ++ Cell k n ∷ [];
  };
}

pub end-over : (gains : Gains) (k : ℕ) → IsEndBy gains (row_of passes_over) state.Cancelled doing.Owes (k ∷ []) k
end-over gains k = record { finds = refl; told = refl; facts = λ n payload f. refl }

-- after an exchange that missed, the pass knows what the cell is at least
abbrev pub turns_left : Option Glimpse → ℕ
turns_left None = 5
turns_left (Some g) = 4 - rank g.state

-- no cell goes on from a settled one
rank-high : (x : CoreState) → rank x ≤ 4
rank-high state.Empty = omega arith
rank-high state.Waiter = omega arith
rank-high state.Value = omega arith
rank-high state.Taken = omega arith
rank-high state.Broken = omega arith
rank-high state.Resumed = omega arith
rank-high state.Cancelling = omega arith
rank-high state.Delegated = omega arith
rank-high state.Cancelled = omega arith
rank-high state.Refused = omega arith

settled-top : (x : CoreState) → IsUnended x → shown_state x ≢ shown.Empty → shown_state x ≢ shown.Waiter
    → shown_state x ≢ shown.Cancelling → rank x ≡ 4
settled-top state.Empty may empty waiter cancelling = absurd (empty refl)
settled-top state.Waiter may empty waiter cancelling = absurd (waiter refl)
settled-top state.Cancelling may empty waiter cancelling = absurd (cancelling refl)
settled-top state.Cancelled may empty waiter cancelling = refl
settled-top state.Refused may empty waiter cancelling = refl
settled-top state.Value may empty waiter cancelling = absurd may
settled-top state.Taken may empty waiter cancelling = absurd may
settled-top state.Broken may empty waiter cancelling = absurd may
settled-top state.Resumed may empty waiter cancelling = absurd may
settled-top state.Delegated may empty waiter cancelling = absurd may

none-other : (x : CoreState) → IsUnended x → rank x ≡ 4 → shown_state x ≢ shown.Cancelled
    → shown_state x ≢ shown.Refused → ⊥
none-other state.Empty may top cancelled refused = omega arith
none-other state.Waiter may top cancelled refused = omega arith
none-other state.Cancelling may top cancelled refused = omega arith
none-other state.Cancelled may top cancelled refused = cancelled refl
none-other state.Refused may top cancelled refused = refused refl
none-other state.Value may top cancelled refused = may
none-other state.Taken may top cancelled refused = may
none-other state.Broken may top cancelled refused = may
none-other state.Resumed may top cancelled refused = may
none-other state.Delegated may top cancelled refused = may

module _ {C E S : Type 0} (object : Object E) (primitive : C → Primitive E S) where
  -- The pass is on its way to the step that will be made at the cell of the number n: it looked for the cell, and so
  -- many exchanges missed.
  pub record OnWay (tries n : ℕ) (v u : View E S) : Type 0 where
    pub found : List Sighting
    pub heads : List (ℕ × ℕ)
    pub last : Option Glimpse
    pub few : length found ≤ tries
    pub spares : List Spare
    pub search : IsSearch n v heads spares
    pub saw : Saw object v (facts_on_way found heads spares last v.facts) [] u

  pub way-searched : (n : ℕ) (v u : View E S) → Searched object n v u → OnWay 0 n v u
  way-searched n v u s = record {
    found = [];
    heads = s.heads;
    last = v.facts.last;
    few = omega arith;
    spares = s.spares;
    search = s.search;
    saw = s.saw;
  }

  way-missed : (row : CellRow) (tries n k : ℕ) (state : CellState) (v u w : View E S) → OnWay tries n v u
      → Missed object primitive row k u state w → OnWay (suc tries) n v w
  way-missed row tries n k state v u w way m =
      let here : List Sighting = Cell m.glimpse.number m.word ∷ [] in
      let f : Facts = v.facts in
      let is : facts_missed m.word m.glimpse u.facts ≡ facts_on_way (way.found ++ here) way.heads way.spares
      (Some m.glimpse) f =
      ap (facts_missed m.word m.glimpse) way.saw.facts_are
      ∙ (λ i. record (facts_on_way way.found way.heads way.spares (Some m.glimpse) f) {
        found =
            append_assoc f.found way.found here i;
      }) in
      let few = way.few in
      let more : length (way.found ++ here) ≡ length way.found + 1 = length-append way.found here in
      record {
        found = way.found ++ here;
        heads = way.heads;
        last = Some m.glimpse;
        few = omega (arith, more, few);
        spares = way.spares;
        search = way.search;
        saw = subst (λ (z : Facts). Saw object v z [] w) is (saw-then object v u w _ _ [] way.saw m.saw);
      }

  way-more : (tries more n : ℕ) (v u : View E S) → tries ≤ more → OnWay tries n v u → OnWay more n v u
  way-more tries more n v u low way = record {
    found = way.found;
    heads = way.heads;
    last = way.last;
    few = let few = way.few in omega arith;
    spares = way.spares;
    search = way.search;
    saw = way.saw;
  }

  -- The last of the exchanges found the cell of the number k in this state; n is that number, as it was looked for.
  pub record Tried (k n : ℕ) (state : CellState) (v u : View E S) : Type 0 where
    pub word : ℕ
    pub glimpse : Glimpse
    pub cell : FoundCell word glimpse
    pub was : WasFound primitive (HasCell glimpse) [] u
    pub last : u.facts.last ≡ Some glimpse
    pub number : glimpse.number ≡ k
    pub state_is : shown_state glimpse.state ≡ state
    pub may : IsUnended glimpse.state
    pub way : OnWay (min (rank glimpse.state + 1) 4) n v u
    pub earlier : List Sighting
    pub found_is : way.found ≡ earlier ++ Cell glimpse.number word ∷ []

  -- an exchange that missed leaves the pass at what it was at
  pub record Stays (u w : View E S) : Type 0 where
    pub doing : w.facts.doing ≡ u.facts.doing
    pub payload : w.facts.has.payload ≡ u.facts.has.payload
    pub place : (at : Place) → KnowsPlace u at → KnowsPlace w at

  pub stays-missed : (row : CellRow) (k : ℕ) (state : CellState) (u w : View E S)
      → Missed object primitive row k u state w → Stays u w
  stays-missed row k state u w m = record {
    doing = ap (λ (f : Facts). f.doing) m.saw.facts_are;
    payload = ap (λ (f : Facts). f.has.payload) m.saw.facts_are;
    place = λ at knows. knows-saw object u w _ _ at m.saw knows;
  }

  pub stays-searched : (n : ℕ) (v u : View E S) → Searched object n v u → Stays v u
  stays-searched n v u s = record {
    doing = ap (λ (f : Facts). f.doing) s.saw.facts_are;
    payload = ap (λ (f : Facts). f.has.payload) s.saw.facts_are;
    place = λ at knows. knows-saw object v u _ _ at s.saw knows;
  }

  -- the first exchange missed
  pub tried-first : (row : CellRow) (k n : ℕ) (state : CellState) (v u w : View E S) → row.works_at ≡ stage.ticket
      → Searched object n v u → Missed object primitive row k u state w → Tried k n state v w
  unfolding way-more way-missed way-searched
  tried-first row k n state v u w at s m = record {
    word = m.word;
    glimpse = m.glimpse;
    cell = m.cell;
    was = m.was;
    last = ap (λ (f : Facts). f.last) m.saw.facts_are;
    number = m.number;
    state_is = m.state_is;
    may = subst (λ z. MayFind u.opening.sync z m.glimpse.state) at m.may;
    way = way-more 1 (min (rank m.glimpse.state + 1) 4) n v w (omega arith)
        (way-missed row 0 n k state v u w (way-searched n v u s) m);
    earlier = [];
    found_is = refl;
  }

  -- What an exchange finds that wants the state which was found last, and misses: the cell has gone on.
  gone-on : (row : CellRow) (k n : ℕ) (state next : CellState) (v u w : View E S) → (t : Tried k n state v u)
      → (m : Missed object primitive row k u next w) → t.glimpse.state ≡ row.finds → IsBare row.finds
      → rank t.glimpse.state < rank m.glimpse.state
  gone-on row k n state next v u w t m finds bare =
      let since : IsFoundSince m.glimpse t.glimpse = subst (SinceLast m.glimpse) t.last m.since in
      ⊎_elim
      (λ (same : (m.glimpse.state ≡ t.glimpse.state) × (m.glimpse.payload ≡ t.glimpse.payload)). absurd
      (m.other bare (same.0 ∙ finds)))
      (λ (more : rank t.glimpse.state < rank m.glimpse.state). more)
      (since.since (m.number ∙ sym t.number))

  -- a further exchange missed, that wanted what was found last
  pub tried-next : (row : CellRow) (k n : ℕ) (state next : CellState) (v u w : View E S) → row.works_at ≡ stage.ticket
      → IsBare row.finds → rank row.finds ≤ 2 → (t : Tried k n state v u) → t.glimpse.state ≡ row.finds
      → Missed object primitive row k u next w → Tried k n next v w
  unfolding way-more way-missed
  tried-next row k n state next v u w at bare low t finds m =
      let more = gone-on row k n state next v u w t m finds bare in
      let is : rank t.glimpse.state ≡ rank row.finds = ap rank finds in record {
        word = m.word;
        glimpse = m.glimpse;
        cell = m.cell;
        was = m.was;
        last = ap (λ (f : Facts). f.last) m.saw.facts_are;
        number = m.number;
        state_is = m.state_is;
        may = subst (λ z. MayFind u.opening.sync z m.glimpse.state) at m.may;
        way = way-more (suc (min (rank t.glimpse.state + 1) 4)) (min (rank m.glimpse.state + 1) 4) n v w (omega arith)
            (way-missed row (min (rank t.glimpse.state + 1) 4) n k next v u w t.way m);
        earlier = t.way.found;
        found_is = refl;
      }

  pub fewer-turns : (row : CellRow) (k n : ℕ) (state next : CellState) (v u w : View E S) → IsBare row.finds
      → rank row.finds ≤ 2
      → (t : Tried k n state v u) → t.glimpse.state ≡ row.finds → Missed object primitive row k u next w
      → turns_left w.facts.last < turns_left u.facts.last
  fewer-turns row k n state next v u w bare low t finds m =
      let more = gone-on row k n state next v u w t m finds bare in
      let is : rank t.glimpse.state ≡ rank row.finds = ap rank finds in
      let before : turns_left u.facts.last ≡ 4 - rank t.glimpse.state = ap turns_left t.last in
      let after : turns_left w.facts.last ≡ 4 - rank m.glimpse.state =
      ap (λ (f : Facts). turns_left f.last) m.saw.facts_are in
      omega arith

  -- A step of this row was made at the cell of the number k, as the next step.
  pub record Worked (s : QueueStep) (row : CellRow) (k : ℕ) (u w : View E S) : Type 0 where
    pub word : ℕ
    pub left : ℕ
    pub cell : FoundCell word (cell_of k row.finds left)
    pub counted : List (ℕ × ℕ)
    pub few_counted : length counted ≤ 1
    pub saw : Saw object u (counted_after (settles_row row) counted (facts_worked object.gains row k word
        (payload_told row.gain left u.facts.has.payload) u.facts))
        (object.entries s u.number k (payload_told row.gain left u.facts.has.payload)) w
    pub was : WasFound primitive (HasCell (cell_of k row.finds left))
        (object.entries s u.number k (payload_told row.gain left u.facts.has.payload)) w

  abbrev pub WorkedAs : QueueStep → StepRow → ℕ → View E S → View E S → Type 0
  WorkedAs s (at_counter row) k u w = ⊥
  WorkedAs s (at_cell row) k u w = Worked s row k u w

  abbrev pub WorkedBy : QueueStep → ℕ → View E S → View E S → Type 0
  WorkedBy s k u w = WorkedAs s (row_of s) k u w

  -- by an exchange that was made at once, or by a load
  pub worked-now : (s : QueueStep) (row : CellRow) (k left : ℕ) (u w : View E S)
      → cells.Worked object primitive s row 0 k left u w → Worked s row k u w
  worked-now s row k left u w m =
      let told = payload_told row.gain left u.facts.has.payload in
      let none : m.found ≡ [] = no-more m.found m.few in
      let is : facts_worked object.gains row k m.word told m.before
      ≡ facts_worked object.gains row k m.word told u.facts =
      ap (facts_worked object.gains row k m.word told) m.before_is
      ∙ (λ i. facts_worked object.gains row k m.word told
      (facts_since ((ap (λ (l : List Sighting). u.facts.found ++ l) none ∙ append-nil u.facts.found) i) m.last u.facts))
      in
      record {
        word = m.word;
        left = left;
        cell = m.cell;
        counted = m.heads;
        few_counted = m.few_heads;
        saw = subst (λ (z : Facts). Saw object u z (object.entries s u.number k told) w)
            (ap (counted_after (settles_row row) m.heads) is) m.saw;
        was = m.was;
      }
    where
      no-more : {A : Type 0} (l : List A) → length l ≤ 0 → l ≡ []
      no-more [] e = refl
      no-more (x ∷ xs) e = absurd (omega arith)

  pub worked-by : (s : QueueStep) (k left : ℕ) (u w : View E S) → MadeBy object primitive s (row_of s) 0 k left u w
      → WorkedBy s k u w
  worked-by s k left u w m = by (row_of s) (cells.worked-by object primitive s 0 k left u w m)
    where
      by : (row : StepRow) → cells.WorkedBy object primitive s row 0 k left u w → WorkedAs s row k u w
      by (at_counter row) m = absurd m
      by (at_cell row) m = worked-now s row k left u w m

  -- a load of a cell that is settled
  pub worked-over : (k : ℕ) (cell : CellWord) (u w : View E S) → (l : LooksAt object primitive meets k u cell w)
      → cell.state ≡ shown.Cancelled → WorkedBy passes_over k u w
  worked-over k cell u w l is =
      worked-now passes_over _ k _ u w (cells.worked-looked object primitive meets passes_over _ k cell u w refl l
      (shown-injective l.looked.glimpse.state state.Cancelled (l.shows.state ∙ is)) refl)

  pub worked-refused : (k : ℕ) (cell : CellWord) (u w : View E S) → (l : LooksAt object primitive meets k u cell w)
      → cell.state ≡ shown.Refused → WorkedBy ends_refused k u w
  worked-refused k cell u w l is =
      worked-now ends_refused _ k _ u w (cells.worked-looked object primitive meets ends_refused _ k cell u w refl l
      (shown-injective l.looked.glimpse.state state.Refused (l.shows.state ∙ is)) refl)

  -- a look at a cell that was found settled finds it settled
  pub looks-settled : (k n : ℕ) (state : CellState) (cell : CellWord) (v u w : View E S) → Tried k n state v u
      → (state ≡ shown.Empty → ⊥) → (state ≡ shown.Waiter → ⊥) → (state ≡ shown.Cancelling → ⊥)
      → LooksAt object primitive meets k u cell w
      → (cell.state ≡ shown.Cancelled → ⊥) → (cell.state ≡ shown.Refused → ⊥) → ⊥
  looks-settled k n state cell v u w t empty waiter cancelling l cancelled refused =
      let g : Glimpse = l.looked.glimpse in
      let since : IsFoundSince g t.glimpse = subst (SinceLast g) t.last l.looked.since in
      let top : rank t.glimpse.state ≡ 4 =
      settled-top t.glimpse.state t.may (λ e. empty (sym t.state_is ∙ e)) (λ e. waiter (sym t.state_is ∙ e))
      (λ e. cancelling (sym t.state_is ∙ e)) in
      let high = rank-high g.state in
      let same : g.state ≡ t.glimpse.state = ⊎_elim
      (λ (same : (g.state ≡ t.glimpse.state) × (g.payload ≡ t.glimpse.payload)). same.0)
      (λ (more : rank t.glimpse.state < rank g.state). absurd (omega arith))
      (since.since (l.looked.number ∙ sym t.number)) in
      let is : rank g.state ≡ 4 = ap rank same ∙ top in
      none-other g.state l.looked.may is (λ e. cancelled (sym l.shows.state ∙ e)) (λ e. refused (sym l.shows.state ∙ e))

  -- the step was made, and the number is met
  met-of : (s : QueueStep) (row : CellRow) (state : CoreState) (at : Doing) (over : List ℕ) (tries k payload : ℕ)
      (v u w : View E S) → row_of s ≡ at_cell row
      → IsEnd object.gains row state at over k → tries ≤ 4 → v.facts.has.payload ≡ payload → OnWay tries k v u
      → Worked s row k u w
      → Met object primitive s state at over payload k v w
  met-of s row state at over tries k payload v u w is ends low owed way d =
      let f : Facts = v.facts in
      let u_is : u.facts ≡ facts_on_way way.found way.heads way.spares way.last f = way.saw.facts_are in
      let here : List Sighting = Cell k d.word ∷ [] in
      let told : payload_told row.gain d.left u.facts.has.payload ≡ payload =
      (λ i. payload_told (ends.told i) d.left (u_is i).has.payload) ∙ owed in
      let entries : object.entries s u.number k (payload_told row.gain d.left u.facts.has.payload)
      ≡ object.entries s v.number k payload =
      λ i. object.entries s (way.saw.same.number i) k (told i) in
      let facts : counted_after (settles_row row) d.counted
      (facts_worked object.gains row k d.word (payload_told row.gain d.left u.facts.has.payload) u.facts)
      ≡ counted_after (settles_at s) d.counted (facts_met s k at over (way.found ++ here) way.heads way.spares f) =
      ap (counted_after (settles_row row) d.counted)
      (ends.facts d.word (payload_told row.gain d.left u.facts.has.payload) u.facts
      ∙ ((λ i. record (u_is i) {
        doing = at;
        last = None;
        looked = looked_then row.works_at row.goes_to (u_is i).looked;
        passed = (u_is i).passed ++ over;
        duties = duties_then (settles_row row) k (u_is i).duties;
        found = (u_is i).found ++ here;
      })
      ∙ (λ i. record (facts_met s k at over (way.found ++ here) way.heads way.spares f) {
        looked = looked_by (sym is i) f.looked;
        duties = duties_by (sym is i) k f.duties;
        found = append_assoc f.found way.found here i;
      })))
      ∙ ap (λ (z : StepRow). counted_after (change_by z).settles d.counted
      (facts_met s k at over (way.found ++ here) way.heads way.spares f)) (sym is) in
      let few = way.few in
      record {
        tried = way.found;
        heads = way.heads;
        few = omega arith;
        spares = way.spares;
        search = way.search;
        word = d.word;
        left = d.left;
        cell = subst (λ z. FoundCell d.word (cell_of k z d.left)) ends.finds d.cell;
        counted = d.counted;
        few_counted = d.few_counted;
        saw = subst (λ (z : Facts × List E). Saw object v z.0 z.1 w) (λ i. (facts i, entries i))
            (saw-then object v u w _ _ _ way.saw d.saw);
        was = subst (λ (z : CoreState × List E). WasFound primitive (HasCell (cell_of k z.0 d.left)) z.1 w)
            (λ i. (ends.finds i, entries i)) d.was;
      }

  pub met-by : (s : QueueStep) (state : CoreState) (at : Doing) (over : ℕ
      → List ℕ) (tries j k payload : ℕ) (v u w : View E S) → j ≡ k
      → IsEndBy object.gains (row_of s) state at (over j) j → tries ≤ 4 → v.facts.has.payload ≡ payload
      → OnWay tries k v u
      → WorkedBy s j u w → Met object primitive s state at (over k) payload k v w
  met-by s state at over tries j k payload v u w same ends low owed way d =
      subst (λ z. Met object primitive s state at (over z) payload z v w) same (by (row_of s) refl ends d)
    where
      by : (row : StepRow) → row_of s ≡ row → IsEndBy object.gains row state at (over j) j → WorkedAs s row j u w
          → Met object primitive s state at (over j) payload j v w
      by (at_counter row) is ends d = absurd d
      by (at_cell row) is ends d = met-of s row state at (over j) tries j payload v u w is ends low owed
          (subst (λ z. OnWay tries z v u) (sym same) way) d

  -- the client is told of the resumption that ended where its waiter was refused
  pub ended-refused : (payload k : ℕ) (v w : View E S) → v.facts.has.payload ≡ payload
      → Met object primitive ends_refused state.Refused doing.Idle [] payload k v w → EndedRefused w.facts payload
  ended-refused payload k v w owed m =
      let f : Facts = v.facts in
      let here : List Sighting = Cell k m.word ∷ [] in
      record {
        idle = ap (λ (z : Facts). z.doing) m.saw.facts_are;
        number = k;
        word = m.word;
        before = f.found ++ m.tried;
        last = ap (λ (z : Facts). z.found) m.saw.facts_are ∙ sym (append_assoc f.found m.tried here);
        cell = inl (m.left, m.cell, ap (λ (z : Facts). z.has.payload) m.saw.facts_are ∙ owed);
      }

  -- a load that finds no head leaves the pass on its way
  pub way-stayed : (tries n : ℕ) (v u w : View E S) → OnWay tries n v u
      → LeftBy [] u.facts.spare_slots u.facts.duties u w → OnWay tries n v w
  way-stayed tries n v u w way left =
      let s = saw-left object u w [] u.facts.spare_slots left in
      let f : Facts = v.facts in record {
        found = way.found;
        heads = way.heads;
        last = way.last;
        few = way.few;
        spares = way.spares;
        search = way.search;
        saw = subst (λ (z : Facts). Saw object v z [] w)
            (ap (λ (z : Facts). facts_searched [] [] z.spare_slots z) way.saw.facts_are
            ∙ (λ i. record (facts_on_way way.found way.heads way.spares way.last f) {
              heads = append-nil (f.heads ++ way.heads) i;
              found = append-nil (f.found ++ way.found) i;
            }))
            (saw-then object v u w _ _ [] way.saw s);
      }

  -- the load by which a number is passed over whose segment was taken out
  pub worked-gone : (k : ℕ) (n : ℕ) (u w : View E S) → PassedOver object primitive k u n w → WorkedBy passes_over k u w
  worked-gone k n u w over = record {
    word = n;
    left = over.payload;
    cell = over.cell;
    counted = [];
    few_counted = omega arith;
    saw = over.saw;
    was = over.was;
  }
