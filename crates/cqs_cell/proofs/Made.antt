-- What an exchange on a cell tells: it was made, or the cell was found otherwise.
use Rattle.std.proofs.Common.{◌≡◌, ◌≢◌, ℕ, ◌<◌, ◌≤◌, ◌^◌, List, [], ◌∷◌, ◌++◌, length, Some, sym, refl, ap, ◌∙◌, subst, ⊎_elim, append_assoc, arith}
use Rattle.std.proofs.lemmas.List.{append-nil}
use Rattle.cqs_core.specs.declared.cells.CoreState.{CoreState}
use Rattle.cqs_core.specs.declared.cells.CoreState.TheVariants as state
use Rattle.cqs_core.specs.QueueCells.{rank, IsBare}
use Rattle.cqs_core.specs.QueueMoves.{IsCancelling}
use Rattle.cqs_core.specs.QueueSound.{IsUntaken}
use Rattle.cqs_core.specs.QueueStages.{IsWatched, MayFind}
use Rattle.cqs_core.specs.QueueSteps.{QueueStep, row_of, CellRow, StepRow, at_counter, at_cell, payload_told}
use Rattle.cqs_words.specs.declared.cell.CellState.{CellState}
use Rattle.cqs_words.specs.declared.cell.CellState.TheVariants as shown
use Rattle.cqs_words.specs.declared.cell.CellWord.{CellWord}
use Rattle.cqs_words.specs.Cell.{unpacked_cell, index_in}
use Rattle.cqs_rule_laws.specs.declared.config.Place.{Place}
use Rattle.cqs_rule_laws.specs.declared.view.Facts.{Facts}
use Rattle.cqs_rule_laws.specs.declared.view.Glimpse.{Glimpse}
use Rattle.cqs_rule_laws.specs.declared.view.Opening.{Opening}
use Rattle.cqs_rule_laws.specs.declared.view.Sighting.TheVariants.{Cell}
use Rattle.cqs_rule_laws.specs.declared.view.View.{View}
use Rattle.cqs_rule_laws.specs.Drawn.{draws_in, TellsCome}
use Rattle.cqs_rule_laws.specs.Exchanges.{FoundCell, SinceLast, HasCell, Crossed, CrossedBy}
use Rattle.cqs_rule_laws.specs.Facts.{facts_worked, facts_missed}
use Rattle.cqs_rule_laws.specs.Manner.{Leaving, asks, passes_on, at_once, Asks, IsSmart}
use Rattle.cqs_rule_laws.specs.Placed.{KnowsPlace}
use Rattle.cqs_rule_laws.specs.Object.{Object, Primitive}
use Rattle.cqs_rule_laws.specs.Ruled.{shown_state, word_of}
use Rattle.cqs_rule_laws.specs.Saw.{Saw, WasFound}
use Rattle.cqs_rule_laws.proofs.Calls.{saw-then}
use Rattle.cqs_rule_laws.proofs.CellSteps.{word_of-injective}
use Rattle.cqs_rule_laws.proofs.Drawing.{draws-cell, knows-still}
use Rattle.cqs_rule_laws.specs.Settling.{duties_then, settles_row}
use Rattle.cqs_rule.specs.Counting.{Counted, counted_after, ThenCounted}
use Rattle.cqs_rule.proofs.Counting.{found-counted, one-head, saw-after}
use Rattle.cqs_rule.proofs.Crossed.{stays-missed}
use Rattle.cqs_rule.proofs.Places.{knows-saw}
use Rattle.cqs_cell.specs.Crossings.{CrossesRow, CrossesBy, Crosses, IsSureBy, IsLastBy}
use Rattle.cqs_cell.specs.Transitions.{facts_since, cells_seen, Made, Missed, MissedAfter, MissedCell, MissedCellBy, MadeBy}
use Rattle.cqs_core.proofs.QueueRows.{rows}
use Rattle.cqs_core.proofs.QueueUniform.{IsCellRow, IsRow, GoesOn}
use Rattle.cqs_rule_laws.proofs.Settled.{rank-most}
use Rattle.cqs_cell.specs.Found.{cell_found, Shows}
use Rattle.cqs_cell.proofs.Crossing.{row-index}
use Rattle.cqs_cell.proofs.Answered.{shows-found, number-found, word-found, word-of-number}

module _ {C E S : Type 0} (object : Object E) (primitive : C → Primitive E S) where
  -- an exchange that was made
  made-row : (s : QueueStep) (row : CellRow) (at : Place) (payload expected new n : ℕ) (v u w : View E S)
      → CrossesRow row v at payload expected new → Crossed object primitive s row at.index expected v n u → n ≡ expected
      → v.facts.duties ≡ [] → Counted u w → Made object primitive s row 0 at.index payload v w
  made-row s row at payload expected new n v u w x c same none k =
      let word = word-of-number n c.found c.cell
      (ap index_in same ∙ (row-index v at payload expected new row x ∙ sym c.number)) in
      let is = word_of-injective c.found.number at.index c.found.state row.finds c.found.payload payload c.cell.fits
      x.payload_fits
      (sym word ∙ (same ∙ x.expects)) in
      let told = payload_told row.gain payload v.facts.has.payload in
      let m = c.made same in
      let g : c.found ≡ record { number = at.index; state = row.finds; payload = payload } =
      λ i. record { number = is.0 i; state = is.1 i; payload = is.2 i } in
      let entries_are : c.entries ≡ object.entries s v.number at.index told =
      m.1 ∙ ap (λ z. object.entries s v.number at.index (payload_told row.gain z v.facts.has.payload)) is.2 in
      record {
        word = n;
        cell = subst (FoundCell n) g c.cell;
        come = subst (TellsCome v at.index) is.1 c.come;
        before = v.facts;
        found = [];
        few = omega arith;
        last = v.facts.last;
        before_is = λ i. record v.facts { found = sym (append-nil v.facts.found) i };
        heads = k.heads;
        few_heads = one-head u w k (settles_row row) at.index
            (ap (λ (f : Facts). f.duties) m.0.facts_are ∙ ap (duties_then (settles_row row) at.index) none);
        saw = saw-after u w k (settles_row row) object v _ _
            (λ stays. ap (λ b. duties_then b at.index v.facts.duties) stays ∙ none)
            (subst (λ (z : ℕ × List E). Saw object v
            (facts_worked object.gains row at.index n (payload_told row.gain z.0 v.facts.has.payload) v.facts) z.1 u)
            (λ i. (is.2 i, entries_are i)) m.0);
        was = found-counted u w k primitive _ _
            (subst (λ (z : Glimpse × List E). WasFound primitive (HasCell z.0) z.1 u)
            (λ i. (g i, entries_are i)) c.was);
      }

  -- one that wasn't
  missed-row : (s : QueueStep) (row : CellRow) (at : Place) (payload expected new n : ℕ) (v w : View E S)
      → IsCellRow row → CrossesRow row v at payload expected new
      → Crossed object primitive s row at.index expected v n w → n ≢ expected
      → MissedCell object primitive row at.index payload v (cell_found at.index (unpacked_cell n)) w
  missed-row s row at payload expected new n v w is x c apart =
      let g = c.found in
      let shows : Shows n g (cell_found at.index (unpacked_cell n)) =
      subst (λ k. Shows n g (cell_found k (unpacked_cell n))) c.number (shows-found n g c.cell) in
      let m = c.missed apart in
      record {
        missed = record {
          word = n;
          glimpse = g;
          number = c.number;
          cell = c.cell;
          state_is = shows.state;
          other = λ bare stands. apart (word stands
              ∙ ((λ i. word_of (c.number i) (stands i) (payload_is bare stands i)) ∙ sym x.expects));
          may = c.may;
          since = c.since;
          saw = subst (λ z. Saw object v (facts_missed n g v.facts) z w) m.1 m.0;
          was = subst (λ z. WasFound primitive (HasCell g) z w) m.1 c.was;
        };
        payload_is = shows.payload;
        other = λ stands left. apart (word stands ∙ ((λ i. word_of (c.number i) (stands i) (left i)) ∙ sym x.expects));
      }
    where
      -- no exchange goes on from a cell that was cancelled
      word : c.found.state ≡ row.finds → n ≡ word_of c.found.number c.found.state c.found.payload
      word stands = word-found n c.found c.cell (λ cancelled.
          let lower : rank row.finds < rank x.state =
          (subst (λ z. GoesOn row.finds z row.brings) x.makes is.goes_on).0 in
          let most = rank-most x.state in
          let final : rank row.finds ≡ 4 = ap rank (sym stands ∙ cancelled) in absurd (omega arith))

      payload_is : IsBare row.finds → c.found.state ≡ row.finds → c.found.payload ≡ payload
      payload_is bare stands = c.cell.bare (subst IsBare (sym stands) bare) ∙ sym (x.bare bare)

  -- the same of a step by its name
  pub made-by : (s : QueueStep) (at : Place) (payload expected new n : ℕ) (v w : View E S)
      → Crosses s v at payload expected new
      → (t : ThenCounted (CrossedBy object primitive s (row_of s) (index_in expected) expected v n) w)
      → n ≡ expected → v.facts.duties ≡ [] → MadeBy object primitive s (row_of s) 0 at.index payload v w
  made-by s at payload expected new n v w x t same none = by (row_of s) x t.1
    where
      by : (row : StepRow) → CrossesBy row v at payload expected new
          → CrossedBy object primitive s row (index_in expected) expected v n t.0
          → MadeBy object primitive s row 0 at.index payload v w
      by (at_counter row) x c = absurd x
      by (at_cell row) x c =
          made-row s row at payload expected new n v t.0 w x
          (subst (λ k. Crossed object primitive s row k expected v n t.0) (row-index v at payload expected new row x) c)
          same none t.2

  pub missed-by : (s : QueueStep) (at : Place) (payload expected new n : ℕ) (v w : View E S)
      → Crosses s v at payload expected new
      → (t : ThenCounted (CrossedBy object primitive s (row_of s) (index_in expected) expected v n) w)
      → n ≢ expected → v.facts.duties ≡ []
      → MissedCellBy object primitive (row_of s) at.index payload v (cell_found at.index (unpacked_cell n)) w
  missed-by s at payload expected new n v w x t apart none = by (row_of s) (rows s) x
      (subst (λ z. CrossedBy object primitive s (row_of s) (index_in expected) expected v n z)
      (sym (t.2.none ((stays-missed object primitive s (row_of s) (index_in expected) expected v n t.0 t.1 apart).duties
      ∙ none))) t.1)
    where
      by : (row : StepRow) → IsRow row → CrossesBy row v at payload expected new
          → CrossedBy object primitive s row (index_in expected) expected v n w
          → MissedCellBy object primitive row at.index payload v (cell_found at.index (unpacked_cell n)) w
      by (at_counter row) is x c = absurd x
      by (at_cell row) is x c =
          missed-row s row at payload expected new n v w is x
          (subst (λ k. Crossed object primitive s row k expected v n w) (row-index v at payload expected new row x) c)
          apart

  -- an exchange of a cell that was found so, and from which nobody else goes on, doesn't miss
  pub sure-by : (s : QueueStep) (at : Place) (payload : ℕ) (v w : View E S) (cell : CellWord)
      → IsSureBy v.opening.sync (row_of s)
      → IsLastBy (row_of s) at.index payload v.facts.last
      → MissedCellBy object primitive (row_of s) at.index payload v cell w → ⊥
  sure-by s at payload v w cell sure last missed = by (row_of s) sure last missed
    where
      by : (row : StepRow) → IsSureBy v.opening.sync row → IsLastBy row at.index payload v.facts.last
          → MissedCellBy object primitive row at.index payload v cell w → ⊥
      by (at_counter row) sure last m = m
      by (at_cell row) sure last m =
          let since = subst (SinceLast m.missed.glimpse) last m.missed.since in
          ⊎_elim
          (λ (t : (m.missed.glimpse.state ≡ row.finds) × (m.missed.glimpse.payload ≡ payload)). m.other t.0 t.1)
          (λ (t : rank row.finds < rank m.missed.glimpse.state). sure m.missed.glimpse.state m.missed.may t)
          (since.since m.missed.number)

  -- an exchange that wants the cell as it was found last, and misses, finds it in another state
  pub never-back : (row : CellRow) (k payload : ℕ) (cell : CellWord) (v w : View E S)
      → (n : MissedCell object primitive row k payload v cell w)
      → v.facts.last ≡ Some (record { number = k; state = row.finds; payload = payload })
      → n.missed.glimpse.state ≢ row.finds
  never-back row k payload cell v w n last stands =
      let since = subst (SinceLast n.missed.glimpse) last n.missed.since in
      let same : rank n.missed.glimpse.state ≡ rank row.finds = ap rank stands in
      ⊎_elim
      (λ (t : (n.missed.glimpse.state ≡ row.finds) × (n.missed.glimpse.payload ≡ payload)). n.other t.0 t.1)
      (λ (t : rank row.finds < rank n.missed.glimpse.state). absurd (omega arith))
      (since.since n.missed.number)

  -- a step that was made after one that missed
  pub made-after : (row row' : CellRow) (s : QueueStep) (k payload : ℕ) (state : CellState) (v u w : View E S)
      → Missed object primitive row k v state u → Made object primitive s row' 0 k payload u w
      → Made object primitive s row' 1 k payload v w
  made-after row row' s k payload state v u w m d =
      let first = facts_missed m.word m.glimpse v.facts in
      let none : d.found ≡ [] = no-more d.found d.few in
      let before_is : d.before ≡ facts_since (v.facts.found ++ Cell m.glimpse.number m.word ∷ []) d.last v.facts =
      d.before_is ∙ (λ i. facts_since ((ap (λ (f : Facts). f.found) m.saw.facts_are i) ++ none i) d.last
      (m.saw.facts_are i)
      ) ∙ (λ i. facts_since (append-nil (v.facts.found ++ Cell m.glimpse.number m.word ∷ []) i) d.last v.facts) in
      let entries_are : object.entries s u.number k (payload_told row'.gain payload u.facts.has.payload)
      ≡ object.entries s v.number k (payload_told row'.gain payload v.facts.has.payload) =
      λ i. object.entries s (m.saw.same.number i) k
      (payload_told row'.gain payload (ap (λ (f : Facts). f.has.payload) m.saw.facts_are i)) in
      record {
        word = d.word;
        cell = d.cell;
        come = λ alone away.
            let t = d.come (m.saw.same.alone ∙ alone)
            (λ e. away (sym (ap (λ (f : Facts). f.doing) m.saw.facts_are) ∙ e)) in
            let found : draws_in u.facts.found ≡ draws_in v.facts.found =
            ap (λ (f : Facts). draws_in f.found) m.saw.facts_are ∙ draws-cell v.facts.found m.glimpse.number m.word in
            (t.0, knows-still v u t.0 m.saw.same.drawn found t.1, t.2);
        before = d.before;
        found = Cell m.glimpse.number m.word ∷ [];
        few = omega arith;
        last = d.last;
        before_is = before_is;
        heads = d.heads;
        few_heads = d.few_heads;
        saw = saw-then object v u w first _ _ m.saw
            (subst (λ (z : ℕ × List E). Saw object u (counted_after (settles_row row') d.heads
            (facts_worked object.gains row' k d.word (payload_told row'.gain payload z.0) d.before)) z.1 w)
            (λ i. (ap (λ (f : Facts). f.has.payload) m.saw.facts_are i, entries_are i)) d.saw);
        was = subst (λ z. WasFound primitive (HasCell (record { number = k; state = row'.finds; payload = payload })) z
            w) entries_are d.was;
      }
    where
      no-more : {A : Type 0} (l : List A) → length l ≤ 0 → l ≡ []
      no-more [] e = refl
      no-more (x ∷ xs) e = absurd (omega arith)

  pub made_after_miss : (row row' : CellRow) (s : QueueStep) (k payload : ℕ) (cell : CellWord) (v u w : View E S)
      → MissedCell object primitive row k payload v cell u → Made object primitive s row' 0 k cell.payload u w
      → Made object primitive s row' 1 k cell.payload v w
  made_after_miss row row' s k payload cell v u w m d =
      made-after row row' s k cell.payload cell.state v u w m.missed d

  -- one exchange that missed, and two
  pub missed-once : (row : CellRow) (k : ℕ) (state : CellState) (v w : View E S)
      → Missed object primitive row k v state w → MissedAfter object primitive row 1 k v state w
  missed-once row k state v w m = record {
    words = [];
    few = omega arith;
    word = m.word;
    glimpse = m.glimpse;
    number = m.number;
    cell = m.cell;
    state_is = m.state_is;
    may = m.may;
    saw = subst (λ z. Saw object v (facts_since (v.facts.found ++ Cell z m.word ∷ []) (Some m.glimpse) v.facts) [] w)
        m.number m.saw;
    was = m.was;
  }

  pub missed-twice : (row : CellRow) (k : ℕ) (first state : CellState) (v u w : View E S)
      → Missed object primitive row k v first u → Missed object primitive row k u state w
      → MissedAfter object primitive row 1 k v state w
  missed-twice row k first state v u w m n =
      let found : facts_missed n.word n.glimpse u.facts
      ≡ facts_since (v.facts.found ++ cells_seen k (m.word ∷ n.word ∷ [])) (Some n.glimpse) v.facts =
      ap (facts_missed n.word n.glimpse) m.saw.facts_are
      ∙ ((λ i. facts_since ((v.facts.found ++ Cell (m.number i) m.word ∷ []) ++ Cell (n.number i) n.word ∷ [])
      (Some n.glimpse) v.facts)
      ∙ (λ i. facts_since (append_assoc v.facts.found (Cell k m.word ∷ []) (Cell k n.word ∷ []) i) (Some n.glimpse)
      v.facts)) in
      record {
        words = m.word ∷ [];
        few = omega arith;
        word = n.word;
        glimpse = n.glimpse;
        number = n.number;
        cell = n.cell;
        state_is = n.state_is;
        may = subst (λ (o : Opening). MayFind o.sync row.works_at n.glimpse.state) m.saw.same.opening n.may;
        saw = subst (λ (z : Facts). Saw object v z [] w) found (saw-then object v u w _ _ [] m.saw n.saw);
        was = n.was;
      }

-- What an exchange that missed leaves: the pass knows what it found, and is where it was.
pub record After {E S : Type 0} (k left : ℕ) (s : CoreState) (v u : View E S) : Type 0 where
  pub doing : u.facts.doing ≡ v.facts.doing
  pub has : u.facts.has ≡ v.facts.has
  pub waits : u.facts.waits ≡ v.facts.waits
  pub last : u.facts.last ≡ Some (record { number = k; state = s; payload = left })
  pub fits : left < 2 ^ 20
  pub place : (at : Place) → KnowsPlace v at → KnowsPlace u at

pub after-miss : {C E S : Type 0} (object : Object E) (primitive : C → Primitive E S) (row : CellRow) (k payload : ℕ)
    (s : CoreState) (v u : View E S) (cell : CellWord) → (m : MissedCell object primitive row k payload v cell u)
    → m.missed.glimpse.state ≡ s → s ≢ state.Cancelled → After k cell.payload s v u
after-miss object primitive row k payload s v u cell m is other =
    let saw = m.missed.saw in
    let payload_is = m.payload_is (number-found m.missed.word m.missed.glimpse m.missed.cell
    (λ cancelled. other (sym is ∙ cancelled))) in record {
      doing = ap (λ (f : Facts). f.doing) saw.facts_are;
      has = ap (λ (f : Facts). f.has) saw.facts_are;
      waits = ap (λ (f : Facts). f.waits) saw.facts_are;
      last = ap (λ (f : Facts). f.last) saw.facts_are
          ∙ (λ i. Some (record { number = m.missed.number i; state = is i; payload = payload_is i }));
      fits = subst (λ z. z < 2 ^ 20) payload_is m.missed.cell.fits;
      place = λ at knows. knows-saw object v u _ _ at saw knows;
    }

-- a wait that its owner is leaving was left a value, where it isn't as it was
pub delegated-left : (x : CoreState) → IsCancelling x → x ≢ state.Cancelling → x ≡ state.Delegated
delegated-left state.Delegated is other = refl
delegated-left state.Cancelling is other = absurd (other refl)
delegated-left state.Empty is other = absurd is
delegated-left state.Waiter is other = absurd is
delegated-left state.Value is other = absurd is
delegated-left state.Taken is other = absurd is
delegated-left state.Broken is other = absurd is
delegated-left state.Resumed is other = absurd is
delegated-left state.Cancelled is other = absurd is
delegated-left state.Refused is other = absurd is

-- a value that its resume watches and that isn't there was taken
pub taken-away : (x : CoreState) → IsWatched x → x ≢ state.Value → shown_state x ≡ shown.Taken
taken-away state.Taken is other = refl
taken-away state.Value is other = absurd (other refl)
taken-away state.Empty is other = absurd is
taken-away state.Waiter is other = absurd is
taken-away state.Broken is other = absurd is
taken-away state.Resumed is other = absurd is
taken-away state.Cancelling is other = absurd is
taken-away state.Delegated is other = absurd is
taken-away state.Cancelled is other = absurd is
taken-away state.Refused is other = absurd is

-- nobody takes a value but its suspend
pub none-takes : (x : CoreState) → IsUntaken x → 1 < rank x → ⊥
none-takes state.Empty is more = omega arith
none-takes state.Value is more = omega arith
none-takes state.Waiter is more = is
none-takes state.Taken is more = is
none-takes state.Broken is more = is
none-takes state.Resumed is more = is
none-takes state.Cancelling is more = is
none-takes state.Delegated is more = is
none-takes state.Cancelled is more = is
none-takes state.Refused is more = is

-- nobody goes on with a value that was left to a canceller, but the canceller
pub none-settles : (x : CoreState) → IsCancelling x → 3 < rank x → ⊥
none-settles state.Cancelling is more = omega arith
none-settles state.Delegated is more = omega arith
none-settles state.Empty is more = is
none-settles state.Waiter is more = is
none-settles state.Value is more = is
none-settles state.Taken is more = is
none-settles state.Broken is more = is
none-settles state.Resumed is more = is
none-settles state.Cancelled is more = is
none-settles state.Refused is more = is

pub asks-smart : (leaving : Leaving) → Asks leaving → IsSmart leaving
asks-smart asks is = tt
asks-smart passes_on is = tt
asks-smart at_once is = absurd is
