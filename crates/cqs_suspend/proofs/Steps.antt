-- A suspend is its steps: a number is drawn, its cell is looked for, and an exchange there is made, perhaps after some
-- that missed.
use Rattle.std.proofs.Common.{◌≡◌, ◌≢◌, ◌⊎◌, ℕ, suc, ◌+◌, ◌<◌, ◌≤◌, false, List, [], ◌∷◌, ◌++◌, length, Option, Some, None, sym, refl, ap, ◌∙◌, subst, ⊎_elim, inl, inr, append_assoc, length-append, arith}
use Rattle.cqs_core.specs.declared.cells.CoreState.{CoreState}
use Rattle.cqs_core.specs.declared.cells.CoreState.TheVariants as state
use Rattle.cqs_core.specs.QueueCells.{rank}
use Rattle.cqs_core.specs.QueueSound.{IsUntaken}
use Rattle.cqs_core.specs.QueueStages.{MayMeet}
use Rattle.cqs_core.specs.QueueSteps.{QueueStep, row_of, CellRow, StepRow, at_counter, at_cell, payload_told, installs, takes}
use Rattle.cqs_words.specs.declared.cell.CellState.{CellState}
use Rattle.cqs_words.specs.declared.cell.CellState.TheVariants as shown
use Rattle.cqs_rule_laws.specs.declared.view.Facts.{Facts}
use Rattle.cqs_rule_laws.specs.declared.view.Glimpse.{Glimpse}
use Rattle.cqs_rule_laws.specs.declared.view.Opening.{Opening}
use Rattle.cqs_rule_laws.specs.declared.view.Sighting.{Sighting}
use Rattle.cqs_rule_laws.specs.declared.view.Sighting.TheVariants.{Cell}
use Rattle.cqs_rule_laws.specs.declared.view.Spare.{Spare}
use Rattle.cqs_rule_laws.specs.declared.view.View.{View}
use Rattle.cqs_rule_laws.specs.Exchanges.{HasCell, SinceLast, IsFoundSince}
use Rattle.cqs_rule_laws.specs.Facts.{facts_worked, facts_missed}
use Rattle.cqs_rule_laws.specs.Lists.{Has}
use Rattle.cqs_rule_laws.specs.Object.{Object, Primitive}
use Rattle.cqs_rule_laws.specs.Ruled.{shown_state}
use Rattle.cqs_rule_laws.specs.Saw.{Saw, WasFound}
use Rattle.cqs_rule_laws.proofs.Calls.{called-by, called-then, saw-then}
use Rattle.cqs_rule_laws.proofs.Lists.{has_right}
use Rattle.cqs_rule_laws.specs.Settling.{settles_row}
use Rattle.cqs_rule_laws.specs.declared.client.ClientWords.{Ghosts}
use Rattle.cqs_rule.specs.declared.queue.Pass.{Pass}
use Rattle.cqs_rule.specs.declared.queue.Queue.{Queue}
use Rattle.cqs_rule.specs.Claims.{CanExtend}
use Rattle.cqs_rule.specs.Passes.{pass_view}
use Rattle.cqs_rule.specs.Counting.{counted_after}
use Rattle.cqs_cell.specs.Transitions.{facts_since, MadeBy, Missed, MissedBy}
use Rattle.cqs_cell.proofs.Worked.{Worked, WorkedBy, worked-by}
use Rattle.cqs_find.specs.Finds.{facts_searched, IsSearch, Searched}
use Rattle.cqs_find.proofs.Numbers.{homes-grow}
use Rattle.cqs_suspend.specs.Suspends.{facts_drawn, cell_found, told_by, draw_entries, end_entries, Ended, EndedBy}

-- a pass at these facts that found these words and heads besides, and another glimpse, and has these slots spare
abbrev pub facts_on_way : List Sighting → List (ℕ × ℕ) → List Spare → Option Glimpse → Facts → Facts
facts_on_way found heads spares last f = record (facts_searched found heads spares f) { last = last }

module _ {C E S : Type 0} (object : Object E) (primitive : C → Primitive E S) (drawing : QueueStep) where
  -- The pass has drawn the number k, and is on its way to the exchange that will be made: so many missed.
  pub record OnWay (tries k : ℕ) (v u : View E S) : Type 0 where
    pub drawn : View E S
    pub drew : Saw object v (facts_drawn object.gains k v.facts) (draw_entries object k v drawing) drawn
    pub found : List Sighting
    pub heads : List (ℕ × ℕ)
    pub last : Option Glimpse
    pub few : length found ≤ tries
    pub spares : List Spare
    pub search : IsSearch k v heads spares
    pub saw : Saw object drawn (facts_on_way found heads spares last (facts_drawn object.gains k v.facts)) [] u

  pub way-searched : (k : ℕ) (v t u : View E S)
      → Saw object v (facts_drawn object.gains k v.facts) (draw_entries object k v drawing) t
      → Searched object k t u → OnWay 0 k v u
  way-searched k v t u d s = record {
    drawn = t;
    drew = d;
    found = [];
    heads = s.heads;
    last = None;
    few = omega arith;
    spares = s.spares;
    search = record {
      far = s.search.far;
      is_far = λ is. let less = homes-grow v t d.same.segments in let few = s.search.is_far is in omega arith;
      few = s.search.few;
      kept = λ is. s.search.kept is ∙ ap (λ (f : Facts). f.spare_slots) d.facts_are;
    };
    saw = subst (λ (f : Facts). Saw object t (facts_searched [] s.heads s.spares f) [] u) d.facts_are s.saw;
  }

  -- an exchange missed
  way-missed : (row : CellRow) (tries k : ℕ) (state : CellState) (v u w : View E S) → OnWay tries k v u
      → Missed object primitive row k u state w → OnWay (suc tries) k v w
  way-missed row tries k state v u w way m =
      let here : List Sighting = Cell m.glimpse.number m.word ∷ [] in
      let f : Facts = facts_drawn object.gains k v.facts in
      let last : Option Glimpse = Some m.glimpse in
      let is : facts_missed m.word m.glimpse u.facts ≡ facts_on_way (way.found ++ here) way.heads way.spares last f =
      ap (facts_missed m.word m.glimpse) way.saw.facts_are
      ∙ (λ i. record (facts_on_way way.found way.heads way.spares last f) {
        found = append_assoc f.found way.found here i;
      }) in
      let few = way.few in
      let more : length (way.found ++ here) ≡ length way.found + 1 = length-append way.found here in
      record {
        drawn = way.drawn;
        drew = way.drew;
        found = way.found ++ here;
        heads = way.heads;
        last = last;
        few = omega (arith, more, few);
        spares = way.spares;
        search = way.search;
        saw = subst (λ (z : Facts). Saw object way.drawn z [] w) is
            (saw-then object way.drawn u w _ _ [] way.saw m.saw);
      }

  pub way-missed-by : (s : QueueStep) (tries k j : ℕ) (state : CellState) (v u w : View E S) → OnWay tries k v u → j ≡ k
      → MissedBy object primitive (row_of s) j u state w → OnWay (suc tries) k v w
  way-missed-by s tries k j state v u w way is m = by (row_of s) m
    where
      by : (row : StepRow) → MissedBy object primitive row j u state w → OnWay (suc tries) k v w
      by (at_counter row) m = absurd m
      by (at_cell row) m =
          way-missed row tries k state v u w way (subst (λ z. Missed object primitive row z u state w) is m)

  -- the step that was made
  ended : (s : QueueStep) (row : CellRow) (tries more k payload : ℕ) (v u w : View E S) → OnWay tries k v u
      → Worked object primitive s row more k payload u w
      → Ended object primitive drawing s row (tries + more) k payload v w
  ended s row tries more k payload v u w way m =
      let f : Facts = facts_drawn object.gains k v.facts in
      let t : View E S = way.drawn in
      let way_is : u.facts ≡ facts_on_way way.found way.heads way.spares way.last f = way.saw.facts_are in
      let told : u.facts.has.payload ≡ v.facts.has.payload = ap (λ (f : Facts). f.has.payload) way_is in
      let number : u.number ≡ v.number = way.saw.same.number ∙ way.drew.same.number in
      let first : List E = draw_entries object k v drawing in
      let entries_are : end_entries object k u s row payload ≡ end_entries object k v s row payload =
      λ i. object.entries s (number i) k (payload_told row.gain payload (told i)) in
      let saw : Saw object t w.facts (end_entries object k v s row payload) w =
      subst (λ (es : List E). Saw object t w.facts es w) entries_are
      (subst (λ (z : Facts). Saw object t z (end_entries object k u s row payload) w) (sym m.saw.facts_are)
      (saw-then object t u w _ _ _ way.saw m.saw)) in
      let few = way.few in
      let few_more = m.few in
      let both : length (way.found ++ m.found) ≡ length way.found + length m.found = length-append way.found m.found in
      record {
        called = called-then object v t w _ first first _ (called-by object v t _ first way.drew) saw;
        word = m.word;
        cell = m.cell;
        was = subst (λ (es : List E). WasFound primitive (HasCell (cell_found row k payload)) es w) entries_are m.was;
        found = way.found ++ m.found;
        heads = way.heads;
        few = omega (arith, both, few, few_more);
        spares = way.spares;
        search = way.search;
        counted_heads = m.heads;
        few_counted = m.few_heads;
        facts_are = m.saw.facts_are ∙ ap (counted_after (settles_row row) m.heads)
            ((λ i. facts_worked object.gains row k m.word (payload_told row.gain payload (told i)) (m.before_is i))
            ∙ ((λ i. facts_worked object.gains row k m.word (told_by row payload v.facts)
            (facts_since ((way_is i).found ++ m.found) m.last (way_is i)))
            ∙ (λ i. facts_worked object.gains row k m.word (told_by row payload v.facts)
            (record (facts_searched way.found way.heads way.spares f) {
              found = append_assoc f.found way.found m.found i;
            }))));
      }

  pub ends-with : (s : QueueStep) (tries more k j payload : ℕ) (v u w : View E S) → OnWay tries k v u → j ≡ k
      → WorkedBy object primitive s (row_of s) more j payload u w
      → EndedBy object primitive drawing s (row_of s) (tries + more) k payload v w
  ends-with s tries more k j payload v u w way is m = by (row_of s) m
    where
      by : (row : StepRow) → WorkedBy object primitive s row more j payload u w
          → EndedBy object primitive drawing s row (tries + more) k payload v w
      by (at_counter row) m = absurd m
      by (at_cell row) m =
          ended s row tries more k payload v u w way
          (subst (λ z. Worked object primitive s row more z payload u w) is m)

  -- the same of an exchange
  pub ends-by : (s : QueueStep) (tries more k j payload : ℕ) (v u w : View E S) → OnWay tries k v u → j ≡ k
      → MadeBy object primitive s (row_of s) more j payload u w
      → EndedBy object primitive drawing s (row_of s) (tries + more) k payload v w
  ends-by s tries more k j payload v u w way is m =
      ends-with s tries more k j payload v u w way is (worked-by object primitive s more j payload u w m)

  -- the same with more tries allowed
  pub ends-more : (s : QueueStep) (tries more k payload : ℕ) (v w : View E S) → tries ≤ more
      → EndedBy object primitive drawing s (row_of s) tries k payload v w
      → EndedBy object primitive drawing s (row_of s) more k payload v w
  ends-more s tries more k payload v w low e = by (row_of s) e
    where
      by : (row : StepRow) → EndedBy object primitive drawing s row tries k payload v w
          → EndedBy object primitive drawing s row more k payload v w
      by (at_counter row) e = e
      by (at_cell row) e = record {
        called = e.called;
        word = e.word;
        cell = e.cell;
        was = e.was;
        found = e.found;
        heads = e.heads;
        few = let few = e.few in omega arith;
        spares = e.spares;
        search = e.search;
        counted_heads = e.counted_heads;
        few_counted = e.few_counted;
        facts_are = e.facts_are;
      }

  -- the same told of another view and another number, which are the same
  pub ends-at : (s : QueueStep) (tries k j payload : ℕ) (v w x : View E S) → j ≡ k → x ≡ w
      → EndedBy object primitive drawing s (row_of s) tries k payload v w
      → EndedBy object primitive drawing s (row_of s) tries j payload v x
  ends-at s tries k j payload v w x is same e =
      subst (λ (z : ℕ × View E S). EndedBy object primitive drawing s (row_of s) tries z.0 payload v z.1)
      (λ i. (sym is i, sym same i)) e

  -- the wait that was installed is one of the pass's
  pub waits-here : (tries k payload : ℕ) (v w : View E S)
      → EndedBy object primitive drawing installs (row_of installs) tries k payload v w
      → Has k w.facts.waits
  waits-here tries k payload v w e =
      subst (Has k) (sym (ap (λ (f : Facts). f.waits) e.facts_are)) (has_right k v.facts.waits (k ∷ []) (inl refl))

-- a cell whose suspend is still to come is empty, or has a value
untaken-two : (s : CoreState) → IsUntaken s → (s ≡ state.Empty) ⊎ (s ≡ state.Value)
untaken-two state.Empty is = inl refl
untaken-two state.Value is = inr refl
untaken-two state.Waiter is = absurd is
untaken-two state.Taken is = absurd is
untaken-two state.Broken is = absurd is
untaken-two state.Resumed is = absurd is
untaken-two state.Cancelling is = absurd is
untaken-two state.Delegated is = absurd is
untaken-two state.Cancelled is = absurd is
untaken-two state.Refused is = absurd is

-- once it isn't empty, it has the value
stays-value : (first then : CoreState) → IsUntaken first → first ≢ state.Empty → IsUntaken then
    → (then ≡ first) ⊎ (rank first < rank then) → then ≡ state.Value
stays-value first then may filled may' since = by (untaken-two first may) (untaken-two then may') since
  where
    by : (first ≡ state.Empty) ⊎ (first ≡ state.Value) → (then ≡ state.Empty) ⊎ (then ≡ state.Value)
        → (then ≡ first) ⊎ (rank first < rank then) → then ≡ state.Value
    by (inl empty) now since = absurd (filled empty)
    by (inr value) (inr now) since = now
    by (inr value) (inl empty) (inl same) = same ∙ value
    by (inr value) (inl empty) (inr more) =
        let one : rank first ≡ 1 = ap rank value in
        let none : rank then ≡ 0 = ap rank empty in absurd (omega arith)

-- In a queue that isn't synchronous, a suspend whose first exchange misses the empty cell takes the value.
pub never-misses : {C E S : Type 0} (object : Object E) (primitive : C → Primitive E S) (k : ℕ) (found last : CellState)
    (v u w : View E S) → v.opening.sync ≡ false → MissedBy object primitive (row_of installs) k v found u
    → MissedBy object primitive (row_of takes) k u last w → last ≢ shown.Value → ⊥
never-misses object primitive k found last v u w plain m n other =
    let plain' : u.opening.sync ≡ false = ap (λ (o : Opening). o.sync) m.saw.same.opening ∙ plain in
    let first : IsUntaken m.glimpse.state = subst (λ b. MayMeet b m.glimpse.state) plain m.may in
    let then : IsUntaken n.glimpse.state = subst (λ b. MayMeet b n.glimpse.state) plain' n.may in
    let since : IsFoundSince n.glimpse m.glimpse =
    subst (SinceLast n.glimpse) (ap (λ (f : Facts). f.last) m.saw.facts_are) n.since in
    let gone : (n.glimpse.state ≡ m.glimpse.state) ⊎ (rank m.glimpse.state < rank n.glimpse.state) =
    ⊎_elim (λ same. inl same.0) (λ more. inr more) (since.since (n.number ∙ sym m.number)) in
    other (sym n.state_is ∙ ap shown_state (stays-value m.glimpse.state n.glimpse.state first (m.other tt) then gone))

-- what a pass can make it can make still, as it has the slots that it had
pub still-extends : {C S E : Type 0} {g : Ghosts C S E} (q : Queue C S E) (p next : Pass C S E g) → CanExtend q p
    → (pass_view next).facts.spare_slots ≡ (pass_view p).facts.spare_slots → CanExtend q next
still-extends q p next can same = ⊎_elim (λ ample. inl ample)
    (λ some. inr (let long = ap length same in omega arith)) can
