-- A resume watches its value: looks that found it there, and the step that ended it.
use Rattle.std.proofs.Common.{◌≡◌, ◌≢◌, ℕ, ◌+◌, ◌<◌, ◌≤◌, List, [], ◌∷◌, ◌++◌, length, refl, sym, ap, ◌∙◌, subst, ⊎_elim, append_assoc, length-append, arith}
use Rattle.std.proofs.lemmas.List.{append-nil}
use Rattle.cqs_core.specs.declared.cells.CoreState.{CoreState}
use Rattle.cqs_core.specs.declared.cells.CoreState.TheVariants as state
use Rattle.cqs_core.specs.declared.doings.Doing.TheVariants as doing
use Rattle.cqs_core.specs.QueueCells.{rank}
use Rattle.cqs_core.specs.QueueStages.{IsWatched}
use Rattle.cqs_core.specs.QueueSteps.{QueueStep, CellRow, row_of, payload_told, in_sync, sees_value, sees_taken, breaks}
use Rattle.cqs_words.specs.declared.cell.CellState.{CellState}
use Rattle.cqs_words.specs.declared.cell.CellState.TheVariants as shown
use Rattle.cqs_words.specs.declared.cell.CellWord.{CellWord}
use Rattle.cqs_rule_laws.specs.declared.config.Place.{Place}
use Rattle.cqs_rule_laws.specs.declared.view.Facts.{Facts}
use Rattle.cqs_rule_laws.specs.declared.view.Sighting.TheVariants.{Cell}
use Rattle.cqs_rule_laws.specs.declared.view.View.{View}
use Rattle.cqs_rule_laws.specs.Called.{Called}
use Rattle.cqs_rule_laws.specs.Causes.{cell_of}
use Rattle.cqs_rule_laws.specs.Exchanges.{HasCell, SinceLast, IsFoundSince}
use Rattle.cqs_rule_laws.specs.Facts.{facts_after, facts_worked}
use Rattle.cqs_rule_laws.specs.Loads.{sees}
use Rattle.cqs_rule_laws.specs.Object.{Object, Primitive}
use Rattle.cqs_rule_laws.specs.Placed.{KnowsPlace}
use Rattle.cqs_rule_laws.specs.Ruled.{shown_state}
use Rattle.cqs_rule_laws.specs.Saw.{WasFound}
use Rattle.cqs_rule_laws.specs.Settling.{settles_row}
use Rattle.cqs_rule_laws.proofs.Calls.{called-none, called-then}
use Rattle.cqs_rule_laws.proofs.CellSteps.{shown-injective}
use Rattle.cqs_rule_laws.proofs.Settled.{rank-most}
use Rattle.cqs_rule.proofs.Places.{knows-saw}
use Rattle.cqs_rule.specs.Counting.{counted_after}
use Rattle.cqs_cell.specs.Looks.{LooksAt}
use Rattle.cqs_cell.specs.Transitions.{cells_seen, facts_since, MadeBy, MissedAfterBy}
use Rattle.cqs_cell.proofs.Worked.{Worked, worked-after, worked-by, worked-looked}
use Rattle.cqs_resume.specs.Watching.{AreThere, facts_watching, HasBroken, IsThere, last_entries, SawTaken, seen_entries, Watched}
use Rattle.cqs_resume.proofs.Leaping.{so-on, was-so}
use Rattle.cqs_resume.proofs.OneNumber as one
use Rattle.cqs_resume.proofs.OneNumber.{worked-now}

-- a value that wasn't taken is there
value-there : (x : CoreState) → IsWatched x → shown_state x ≢ shown.Taken → x ≡ state.Value
value-there state.Value is other = refl
value-there state.Taken is other = absurd (other refl)
value-there state.Empty is other = absurd is
value-there state.Waiter is other = absurd is
value-there state.Broken is other = absurd is
value-there state.Resumed is other = absurd is
value-there state.Cancelling is other = absurd is
value-there state.Delegated is other = absurd is
value-there state.Cancelled is other = absurd is
value-there state.Refused is other = absurd is

-- one look more
cells-more : (k : ℕ) (words : List ℕ) (word : ℕ)
    → cells_seen k (words ++ word ∷ []) ≡ cells_seen k words ++ Cell k word ∷ []
cells-more k [] word = refl
cells-more k (first ∷ words) word = ap (λ l. Cell k first ∷ l) (cells-more k words word)

entries-more : {E : Type 0} (object : Object E) (p k payload : ℕ) (words : List ℕ) (word : ℕ)
    → seen_entries object p k payload (words ++ word ∷ [])
    ≡ seen_entries object p k payload words ++ object.entries (in_sync sees_value) p k payload
entries-more object p k payload [] word = append-nil (object.entries (in_sync sees_value) p k payload)
entries-more object p k payload (first ∷ words) word =
    let one = object.entries (in_sync sees_value) p k payload in
    ap (λ l. one ++ l) (entries-more object p k payload words word)
    ∙ sym (append_assoc one (seen_entries object p k payload words) one)

module _ {C E S : Type 0} (primitive : C → Primitive E S) where
  -- what looks found holds for what the pass has seen later
  there-on : (k : ℕ) (words : List ℕ) (more : List E) (u w : View E S) → AreThere primitive k u words
      → w.seen ≡ u.seen ++ more → w.opening ≡ u.opening → AreThere primitive k w words
  there-on k [] more u w there seen opening = tt
  there-on k (word ∷ words) more u w there seen opening = (
    record {
      payload = there.0.payload;
      cell = there.0.cell;
      was = so-on primitive _ more u w there.0.was seen opening;
    },
    there-on k words more u w there.1 seen opening,
  )

  there-more : (k : ℕ) (words : List ℕ) (word : ℕ) (w : View E S) → AreThere primitive k w words
      → IsThere primitive k w word → AreThere primitive k w (words ++ word ∷ [])
  there-more k [] word w there is = (is, tt)
  there-more k (first ∷ words) word w there is = (there.0, there-more k words word w there.1 is)

-- a pass that was at these facts, and found the value there by these words; it is at the others now
abbrev facts_seen : ℕ → List ℕ → Facts → Facts → Facts
facts_seen k words now f = record f {
  doing = now.doing;
  last = now.last;
  looked = f.looked + length words;
  found = f.found ++ cells_seen k words;
}

module _ {C E S : Type 0} (object : Object E) (primitive : C → Primitive E S) where
  -- So many looks found the value in the cell of the number k.
  pub record Seen (k many : ℕ) (v u : View E S) : Type 0 where
    pub words : List ℕ
    pub many_are : length words ≡ many
    pub there : AreThere primitive k u words
    pub last : List E
    pub called : Called object v (seen_entries object v.number k v.facts.has.payload words) last u
    pub facts_are : u.facts ≡ facts_seen k words u.facts v.facts

  pub seen-none : (k : ℕ) (v : View E S) → Seen k 0 v v
  seen-none k v =
      let same : v.facts.looked ≡ v.facts.looked + 0 = omega arith in
      record {
        words = [];
        many_are = refl;
        there = tt;
        last = [];
        called = called-none object v;
        facts_are = λ i. record v.facts { looked = same i; found = sym (append-nil v.facts.found) i };
      }

  -- the pass is at what it was at, but for what it found
  pub seen-has : (k many : ℕ) (v u : View E S) → Seen k many v u → u.facts.has ≡ v.facts.has
  seen-has k many v u s = ap (λ (f : Facts). f.has) s.facts_are

  pub seen-looked : (k many : ℕ) (v u : View E S) → Seen k many v u → v.facts.looked ≡ 0 → u.facts.looked ≡ many
  seen-looked k many v u s fresh =
      let is = ap (λ (f : Facts). f.looked) s.facts_are in let many_are = s.many_are in omega arith

  -- one more
  seen-more : (k many : ℕ) (v u w : View E S) → Seen k many v u
      → one.WorkedBy object primitive (in_sync sees_value) k u w
      → Seen k (many + 1) v w
  seen-more k many v u w s d =
      let f : Facts = v.facts in
      let words = s.words in
      let entries : object.entries (in_sync sees_value) u.number k u.facts.has.payload
      ≡ object.entries (in_sync sees_value) v.number k f.has.payload =
      λ i. object.entries (in_sync sees_value) (s.called.same.number i) k (seen-has k many v u s i).payload in
      let then = called-then object v u w _ _ s.last _ s.called d.saw in
      let more : List E = d.saw.between ++ object.entries (in_sync sees_value) u.number k u.facts.has.payload in
      let long : length (words ++ d.word ∷ []) ≡ length words + 1 = length-append words (d.word ∷ []) in
      let many_are = s.many_are in
      let looked : (f.looked + length words) + 1 ≡ f.looked + length (words ++ d.word ∷ []) = omega arith in
      record {
        words = words ++ d.word ∷ [];
        many_are = omega arith;
        there = there-more primitive k words d.word w
            (there-on primitive k words more u w s.there
            (d.saw.seen ∙ append_assoc u.seen d.saw.between _) d.saw.same.opening)
            (record {
              payload = d.left;
              cell = d.cell;
              was = was-so primitive _ _ [] w w d.was (sym (append-nil w.seen)) refl;
            });
        last = object.entries (in_sync sees_value) u.number k u.facts.has.payload;
        called = subst (λ es. Called object v es (object.entries (in_sync sees_value) u.number k u.facts.has.payload) w)
            (ap (λ es. seen_entries object v.number k f.has.payload words ++ es) entries
            ∙ sym (entries-more object v.number k f.has.payload words d.word)) then;
        facts_are = d.saw.facts_are
            ∙ ((λ i. facts_after object.gains (row_of (in_sync sees_value)) k d.word (s.facts_are i).has.payload
            (s.facts_are i))
            ∙ (λ i. record f {
              doing = sym (ap (λ (z : Facts). z.doing) d.saw.facts_are) i;
              last = sym (ap (λ (z : Facts). z.last) d.saw.facts_are) i;
              looked = looked i;
              found = (append_assoc f.found (cells_seen k words) (Cell k d.word ∷ [])
                  ∙ ap (λ l. f.found ++ l) (sym (cells-more k words d.word))) i;
            }));
      }

  pub seen-value : (k many : ℕ) (cell : CellWord) (v u w : View E S) → Seen k many v u
      → LooksAt object primitive sees k u cell w → cell.state ≢ shown.Taken → Seen k (many + 1) v w
  seen-value k many cell v u w s l other =
      let is = value-there l.looked.glimpse.state l.looked.may (λ taken. other (sym l.shows.state ∙ taken)) in
      seen-more k many v u w s
      (worked-now object primitive (in_sync sees_value) _ k _ u w
      (worked-looked object primitive sees (in_sync sees_value) _ k cell u w refl l is refl))

  -- and leaves the pass watching, at a place that it knew
  pub value-stays : (k : ℕ) (cell : CellWord) (u w : View E S) → LooksAt object primitive sees k u cell w
      → cell.state ≢ shown.Taken
      → (w.facts.doing ≡ doing.Watching k) × ((at : Place) → KnowsPlace u at → KnowsPlace w at)
  value-stays k cell u w l other =
      let is = value-there l.looked.glimpse.state l.looked.may (λ taken. other (sym l.shows.state ∙ taken)) in
      let d = worked-now object primitive (in_sync sees_value) _ k _ u w
      (worked-looked object primitive sees (in_sync sees_value) _ k cell u w refl l is refl) in (
        ap (λ (f : Facts). f.doing) d.saw.facts_are,
        λ at knows. knows-saw object u w _ _ at d.saw knows,
      )

  -- the step that ended it
  watched-by : (s : QueueStep) (row : CellRow) (k many tried payload : ℕ) (v u w : View E S) → Seen k many v u
      → many ≤ v.opening.looks → tried ≤ 2 → Worked object primitive s row tried k payload u w
      → (t : Watched object primitive s row k v w) × (length t.words ≡ many)
  watched-by s row k many tried payload v u w seen low few d =
      let f : Facts = v.facts in
      let words = seen.words in
      let has = seen-has k many v u seen in
      let told : payload_told row.gain payload u.facts.has.payload ≡ payload_told row.gain payload f.has.payload =
      ap (λ h. payload_told row.gain payload h.payload) has in
      let entries : object.entries s u.number k (payload_told row.gain payload u.facts.has.payload)
      ≡ last_entries object primitive s row payload k v =
      λ i. object.entries s (seen.called.same.number i) k (told i) in
      let many_are = seen.many_are in
      let few_tried = d.few in
      let more : List E = d.saw.between
      ++ object.entries s u.number k (payload_told row.gain payload u.facts.has.payload)
      in (
        record {
          words = words;
          few_words = omega arith;
          there = there-on primitive k words more u w seen.there
              (d.saw.seen ∙ append_assoc u.seen d.saw.between _) d.saw.same.opening;
          tried = d.found;
          few = omega arith;
          word = d.word;
          payload = payload;
          cell = d.cell;
          was = subst (λ es. WasFound primitive (HasCell (cell_of k row.finds payload)) es w) entries d.was;
          called = subst (λ es. Called object v (seen_entries object v.number k f.has.payload words ++ es) es w) entries
              (called-then object v u w _ _ seen.last _ seen.called d.saw);
          counted = d.heads;
          few_counted = d.few_heads;
          facts_are = d.saw.facts_are ∙ ap (counted_after (settles_row row) d.heads)
              ((λ i. facts_worked object.gains row k d.word (told i) (d.before_is i))
              ∙ ((λ i. facts_worked object.gains row k d.word (payload_told row.gain payload f.has.payload)
              (facts_since ((seen.facts_are i).found ++ d.found) d.last (seen.facts_are i)))
              ∙ (λ i. facts_worked object.gains row k d.word (payload_told row.gain payload f.has.payload)
              (record (facts_watching k words d.found f) {
                found = append_assoc f.found (cells_seen k words) d.found i;
              }))));
        },
        many_are,
      )

  -- it was taken: a look found it so, or, after an exchange that missed for that, one more did
  pub taken-seen : (k many : ℕ) (cell : CellWord) (v u w : View E S) → Seen k many v u → many ≤ v.opening.looks
      → LooksAt object primitive sees k u cell w → cell.state ≡ shown.Taken → SawTaken object primitive k v w
  taken-seen k many cell v u w s low l is =
      (watched-by (in_sync sees_taken) _ k many 0 _ v u w s low (omega arith)
      (worked-looked object primitive sees (in_sync sees_taken) _ k cell u w refl l
      (shown-injective l.looked.glimpse.state state.Taken (l.shows.state ∙ is)) refl)).0

  pub taken-since : (k many : ℕ) (found : CellState) (cell : CellWord) (v u x w : View E S) → Seen k many v u
      → many ≤ v.opening.looks
      → MissedAfterBy object primitive (row_of (in_sync breaks)) 1 k u found x
      → LooksAt object primitive sees k x cell w → cell.state ≡ shown.Taken → SawTaken object primitive k v w
  taken-since k many found cell v u x w s low m l is =
      (watched-by (in_sync sees_taken) _ k many 2 _ v u w s low (omega arith)
      (worked-after object primitive _ _ (in_sync sees_taken) 1 0 k _ found u x w m
      (worked-looked object primitive sees (in_sync sees_taken) _ k cell x w refl l
      (shown-injective l.looked.glimpse.state state.Taken (l.shows.state ∙ is)) refl))).0

  -- and that look finds nothing else
  pub looks-taken : (k : ℕ) (found : CellState) (cell : CellWord) (u x w : View E S)
      → MissedAfterBy object primitive (row_of (in_sync breaks)) 1 k u found x → found ≡ shown.Taken
      → LooksAt object primitive sees k x cell w → cell.state ≢ shown.Taken → ⊥
  looks-taken k found cell u x w m taken l other =
      let g = l.looked.glimpse in
      let since : IsFoundSince g m.glimpse =
      subst (SinceLast g) (ap (λ (f : Facts). f.last) m.saw.facts_are) l.looked.since in
      let is : m.glimpse.state ≡ state.Taken = shown-injective m.glimpse.state state.Taken (m.state_is ∙ taken) in
      let high : rank m.glimpse.state ≡ 4 = ap rank is in
      let most = rank-most g.state in
      ⊎_elim
      (λ (same : (g.state ≡ m.glimpse.state) × (g.payload ≡ m.glimpse.payload)).
      other (sym l.shows.state ∙ ap shown_state (same.0 ∙ is)))
      (λ (more : rank m.glimpse.state < rank g.state). absurd (omega arith))
      (since.since (l.looked.number ∙ sym m.number))

  -- it was taken back
  pub broken-seen : (k many payload : ℕ) (v u w : View E S) → Seen k many v u → many ≡ v.opening.looks
      → MadeBy object primitive (in_sync breaks) (row_of (in_sync breaks)) 1 k payload u w
      → HasBroken object primitive k v w
  broken-seen k many payload v u w s all m =
      let b = watched-by (in_sync breaks) _ k many 1 payload v u w s (omega arith) (omega arith)
      (worked-by object primitive (in_sync breaks) 1 k payload u w m) in
      (b.0, b.1 ∙ all)
