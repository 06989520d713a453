-- A cancel is its steps: an exchange on its cell; a step on a word of its client; and the exchange by which the cell is
-- settled.
use Rattle.std.proofs.Common.{◌≡◌, ◌≢◌, ℕ, ◌<◌, ◌≤◌, Bool, true, false, List, [], ◌∷◌, ◌++◌, length, Some, None, sym, refl, ap, ◌∙◌, subst, ⊎_elim, append_assoc, inl, inr, arith}
use Rattle.std.proofs.lemmas.List.{append-nil, append_cancel_right}
use Rattle.cqs_core.specs.declared.cells.CoreState.{CoreState}
use Rattle.cqs_core.specs.declared.cells.CoreState.TheVariants as state
use Rattle.cqs_core.specs.declared.doings.Doing.TheVariants as doing
use Rattle.cqs_core.specs.QueueCells.{rank, IsBare, IsStanding}
use Rattle.cqs_core.specs.QueueStages as stage
use Rattle.cqs_core.specs.QueueStages.{MayFind}
use Rattle.cqs_core.specs.QueueSteps.{QueueStep, row_of, CellRow, StepRow, at_counter, at_cell, payload_told, starts_leaving, settles, settles_owing, refuses, refuses_value, looks, late}
use Rattle.cqs_words.specs.declared.cell.CellState.{CellState}
use Rattle.cqs_words.specs.declared.cell.CellWord.{CellWord}
use Rattle.cqs_rule_laws.specs.declared.client.ClientWords.{Ghosts}
use Rattle.cqs_rule_laws.specs.declared.config.Place.{Place}
use Rattle.cqs_rule.specs.declared.queue.Pass.{Pass}
use Rattle.cqs_rule_laws.specs.declared.view.Facts.{Facts}
use Rattle.cqs_rule_laws.specs.declared.view.Glimpse.{Glimpse}
use Rattle.cqs_rule_laws.specs.declared.view.Has.{Has}
use Rattle.cqs_rule_laws.specs.declared.view.Opening.{Opening}
use Rattle.cqs_rule_laws.specs.declared.view.Sighting.TheVariants.{Cell}
use Rattle.cqs_rule_laws.specs.declared.view.View.{View}
use Rattle.cqs_rule.specs.Callbacks.{Asking, by_step, as_it_begins, by_itself, IsAsked, MayAsk, Answered, AnsweredBy, HasAnswered, EndedRefused}
use Rattle.cqs_rule_laws.specs.Called.{Called}
use Rattle.cqs_rule_laws.specs.Events.{Event, Moment, moment, in_any_case, facts_moved, HasWord}
use Rattle.cqs_rule_laws.specs.Exchanges.{FoundCell, SinceLast, HasCell}
use Rattle.cqs_rule_laws.specs.Facts.{facts_worked, facts_missed, facts_after}
use Rattle.cqs_rule_laws.specs.Hidden.{Hidden}
use Rattle.cqs_rule_laws.specs.Layout.{client_place}
use Rattle.cqs_rule_laws.specs.Lists.{IsPrefix}
use Rattle.cqs_rule_laws.proofs.Lists.{prefix-then}
use Rattle.cqs_rule_laws.specs.Loads.{cancels, event_of, look_entries, facts_looked}
use Rattle.cqs_rule_laws.specs.Manner.{Manner, Asks}
use Rattle.cqs_rule_laws.specs.Object.{Object, Primitive}
use Rattle.cqs_rule.specs.Owed.{OwesWith}
use Rattle.cqs_rule.specs.Passes.{pass_view}
use Rattle.cqs_rule_laws.specs.Placed.{KnowsPlace}
use Rattle.cqs_rule_laws.specs.Ruled.{word_of}
use Rattle.cqs_rule_laws.specs.Saw.{Saw, WasShown, WasFound, WasSo}
use Rattle.cqs_rule_laws.proofs.Calls.{called-by, called-then, called-and, saw-then}
use Rattle.cqs_rule.proofs.Places.{knows-saw, knows-at}
use Rattle.cqs_cell.proofs.Answered.{number-found, word-found}
use Rattle.cqs_rule_laws.specs.Settling.{settles_row}
use Rattle.cqs_rule.specs.Counting.{counted_after}
use Rattle.cqs_cell.specs.Looks.{LooksAt, settles_event}
use Rattle.cqs_cell.specs.Transitions.{facts_since, Made, MadeBy, HasMade, Missed, MissedBy, HasMissed, HasSettled}
use Rattle.cqs_cancel.specs.declared.cancelling.Left.{Left}
use Rattle.cqs_cancel.specs.declared.cancelling.Left.TheVariants.{Gone, GoneOwing, Late}
use Rattle.cqs_cancel.specs.Cancels.{asks_at, facts_leaving, facts_tried, waiting_glimpse, served_glimpse, Settled, SettledBy, Settles, Leaves, Began, CameLate, HasLeft, HasCancelled}

-- a client that is asked by a step may be asked by a pass that is leaving
pub may-ask : {E : Type 0} (asking : Asking E) (manner : Manner) (facts : Facts) (k : ℕ) → IsAsked asking
    → Asks manner.leaving → facts.doing ≡ doing.Leaving k → MayAsk asking manner facts k
may-ask (by_step word event) manner facts k is asks leaves = (asks, leaves)
may-ask as_it_begins manner facts k is asks leaves = absurd is
may-ask by_itself manner facts k is asks leaves = absurd is

-- the cell of a wait that stands without its waiter was served
found-served : (x : CoreState) → IsStanding x → x ≢ state.Waiter → x ≡ state.Resumed
found-served state.Waiter is other = absurd (other refl)
found-served state.Resumed is other = refl
found-served state.Empty is other = absurd is
found-served state.Value is other = absurd is
found-served state.Taken is other = absurd is
found-served state.Broken is other = absurd is
found-served state.Cancelling is other = absurd is
found-served state.Delegated is other = absurd is
found-served state.Cancelled is other = absurd is
found-served state.Refused is other = absurd is

-- and nothing comes after that
none-after : (x : CoreState) → IsStanding x → 4 < rank x → ⊥
none-after state.Waiter is more = omega arith
none-after state.Resumed is more = omega arith
none-after state.Empty is more = is
none-after state.Value is more = is
none-after state.Taken is more = is
none-after state.Broken is more = is
none-after state.Cancelling is more = is
none-after state.Delegated is more = is
none-after state.Cancelled is more = is
none-after state.Refused is more = is

pub no-more : {A : Type 0} (l : List A) → length l ≤ 0 → l ≡ []
no-more [] few = refl
no-more (x ∷ xs) few = absurd (omega arith)

resumed-only : state.Resumed ≡ state.Cancelled → ⊥
resumed-only e = cc

module _ {C E S : Type 0} (object : Object E) (primitive : C → Primitive E S) where
  -- the client has decided, once it was asked
  pub answered-doing : (asking : Asking E) (k : ℕ) (answer : Bool) (v u : View E S) → IsAsked asking
      → AnsweredBy object primitive asking k answer v u → u.facts.doing ≡ doing.Decided k answer
  answered-doing (by_step word event) k answer v u is a = ap (λ (f : Facts). f.doing) a.moved.saw.facts_are ∙ a.decided
  answered-doing as_it_begins k answer v u is a = absurd is
  answered-doing by_itself k answer v u is a = absurd is

  -- and the pass knows the places that it knew
  pub answered-place : (asking : Asking E) (k : ℕ) (answer : Bool) (v u : View E S) (at : Place) → IsAsked asking
      → AnsweredBy object primitive asking k answer v u → KnowsPlace v at → KnowsPlace u at
  answered-place (by_step word event) k answer v u at is a knows = knows-saw object v u _ _ at a.moved.saw knows
  answered-place as_it_begins k answer v u at is a knows = absurd is
  answered-place by_itself k answer v u at is a knows = absurd is

  -- what was found at a step was so at some time that the pass has seen since
  pub found-then : (fact : Hidden → List ℕ → Type 0) (es : List E) (u w : View E S) → WasFound primitive fact es u
      → IsPrefix u.seen w.seen → w.opening ≡ u.opening → WasSo primitive fact w
  found-then fact es u w was more opening = record {
    before = was.before;
    seen = (es ++ more.0, more.1 ∙ (ap (λ l. l ++ more.0) was.seen ∙ append_assoc was.before es more.0));
    was = subst (λ (o : Opening). WasShown primitive o fact was.before) (sym opening) was.was;
  }

  pub saw-more : (u w : View E S) (f : Facts) (es : List E) → Saw object u f es w → IsPrefix u.seen w.seen
  saw-more u w f es s = (s.between ++ es, s.seen ∙ append_assoc u.seen s.between es)

  -- a step by which the cell was settled, after the client was asked
  pub settled : (word : ℕ) (event : Event E) (s : QueueStep) (row : CellRow) (tries k payload : ℕ) (answer : Bool)
      (v u w : View E S) → tries ≤ 1 → Answered object primitive word event k answer v u
      → Made object primitive s row tries k payload u w
      → Settled object primitive [] v.facts word event s row answer k payload v w
  unfolding found-then
  settled word event s row tries k payload answer v u w low a m =
      let at : Moment = moment v.opening v.number v.facts in_any_case a.found in
      let after : Facts = facts_moved event (client_place word) at in
      let is : u.facts ≡ after = a.moved.saw.facts_are in
      let has : u.facts.has ≡ after.has = ap (λ (f : Facts). f.has) is in
      let number : u.number ≡ v.number = a.moved.saw.same.number in
      let told : ℕ = payload_told row.gain payload (event.payload at) in
      let told_same : payload_told row.gain payload u.facts.has.payload ≡ told =
      ap (λ (h : Has). payload_told row.gain payload h.payload) has in
      let entries_are : object.entries s u.number k (payload_told row.gain payload u.facts.has.payload)
      ≡ object.entries s v.number k told = λ i. object.entries s (number i) k (told_same i) in
      let glimpse : Glimpse = record { number = k; state = row.finds; payload = payload } in
      let now : Facts = counted_after (settles_row row) m.heads
      (facts_worked object.gains row k m.word (payload_told row.gain payload u.facts.has.payload) m.before) in
      let few = m.few in
      let there = a.moved.was word refl in
      let more = saw-more u w _ _ m.saw in
      record {
        asked = a.found;
        decided = a.decided;
        asked_was = found-then (HasWord word a.found) (event.entries at) u w there more m.saw.same.opening;
        asked_since = (
          a.moved.saw.between,
          append_cancel_right there.before (v.seen ++ a.moved.saw.between) (event.entries at)
              (sym there.seen ∙ a.moved.saw.seen),
        );
        asked_next = subst (λ l. IsPrefix l w.seen) there.seen more;
        tried = m.found;
        few = omega arith;
        found = m.word;
        cell = m.cell;
        told = told;
        told_is = refl;
        called = called-then object v u w _ (event.entries at) (event.entries at) (object.entries s v.number k told)
            (called-by object v u _ (event.entries at) a.moved.saw)
            (subst (λ (es : List E). Saw object u now es w) entries_are m.saw);
        was = subst (λ (es : List E). WasFound primitive (HasCell glimpse) es w) entries_are m.was;
        heads = m.heads;
        few_heads = m.few_heads;
        facts_are = m.saw.facts_are ∙ ap (counted_after (settles_row row) m.heads)
            ((λ i. facts_worked object.gains row k m.word (told_same i) (m.before_is i))
            ∙ (λ i. facts_worked object.gains row k m.word told (facts_tried m.found (is i))));
      }

  pub settles-by : (word : ℕ) (event : Event E) (s : QueueStep) (tries k payload : ℕ) (answer : Bool) (v u w : View E S)
      → tries ≤ 1 → Answered object primitive word event k answer v u
      → MadeBy object primitive s (row_of s) tries k payload u w
      → Settles object primitive [] v.facts word event s answer k payload v w
  settles-by word event s tries k payload answer v u w low a m = by (row_of s) m
    where
      by : (row : StepRow) → MadeBy object primitive s row tries k payload u w
          → SettledBy object primitive row [] v.facts word event s answer k payload v w
      by (at_counter row) m = absurd m
      by (at_cell row) m = settled word event s row tries k payload answer v u w low a m

  -- the same, with what came before
  after-first : (first : List E) (facts : Facts) (word : ℕ) (event : Event E) (s : QueueStep) (row : CellRow)
      (answer : Bool) (k payload : ℕ) (v u w : View E S) → Saw object v facts first u
      → Settled object primitive [] u.facts word event s row answer k payload u w
      → Settled object primitive first facts word event s row answer k payload v w
  after-first first facts word event s row answer k payload v u w saw t =
      let at_is : asks_at u u.facts t.asked ≡ asks_at v facts t.asked =
      λ i. moment (saw.same.opening i) (saw.same.number i) (saw.facts_are i) in_any_case t.asked in
      let last_is : object.entries s u.number k t.told ≡ object.entries s v.number k t.told =
      ap (λ n. object.entries s n k t.told) saw.same.number in
      let rest_is : event.entries (asks_at u u.facts t.asked) ++ object.entries s u.number k t.told
      ≡ event.entries (asks_at v facts t.asked) ++ object.entries s v.number k t.told =
      λ i. event.entries (at_is i) ++ last_is i in
      let glimpse : Glimpse = record { number = k; state = row.finds; payload = payload } in
      record {
        asked = t.asked;
        decided = ap event.doing (sym at_is) ∙ t.decided;
        asked_was = t.asked_was;
        asked_since = prefix-then v.seen u.seen t.asked_was.before (saw-more v u facts first saw) t.asked_since;
        asked_next = subst (λ (m : Moment). IsPrefix (t.asked_was.before ++ event.entries m) w.seen) at_is t.asked_next;
        tried = t.tried;
        few = t.few;
        found = t.found;
        cell = t.cell;
        told = t.told;
        told_is = t.told_is ∙ ap (λ (m : Moment). payload_told row.gain payload (event.payload m)) at_is;
        called = subst (λ (z : List E × List E). Called object v (first ++ z.0) z.1 w) (λ i. (rest_is i, last_is i))
            (called-and object v u w first first _ _ (called-by object v u facts first saw) t.called);
        was = subst (λ (es : List E). WasFound primitive (HasCell glimpse) es w) last_is t.was;
        heads = t.heads;
        few_heads = t.few_heads;
        facts_are = t.facts_are
            ∙ ap (λ (m : Moment). counted_after (settles_row row) t.heads
            (facts_worked object.gains row k t.found t.told
            (facts_tried t.tried (facts_moved event (client_place word) m))))
            at_is;
      }

  settles-after : (first : List E) (facts : Facts) (word : ℕ) (event : Event E) (s : QueueStep) (answer : Bool)
      (k payload : ℕ) (v u w : View E S) → Saw object v facts first u
      → Settles object primitive [] u.facts word event s answer k payload u w
      → Settles object primitive first facts word event s answer k payload v w
  settles-after first facts word event s answer k payload v u w saw t = by (row_of s) t
    where
      by : (row : StepRow) → SettledBy object primitive row [] u.facts word event s answer k payload u w
          → SettledBy object primitive row first facts word event s answer k payload v w
      by (at_counter row) t = absurd t
      by (at_cell row) t = after-first first facts word event s row answer k payload v u w saw t

  leaves-after : (first : List E) (facts : Facts) (asking : Asking E) (k : ℕ) (left : Left) (v u w : View E S)
      → Saw object v facts first u → Leaves object primitive [] u.facts asking k u left w
      → Leaves object primitive first facts asking k v left w
  leaves-after first facts (by_step word event) k Gone v u w saw (inl t) =
      inl (settles-after first facts word event settles true k 0 v u w saw t)
  leaves-after first facts (by_step word event) k Gone v u w saw (inr (inl t)) =
      inr (inl (settles-after first facts word event refuses false k 0 v u w saw t))
  leaves-after first facts (by_step word event) k Gone v u w saw (inr (inr t)) =
      inr (inr (t.0, settles-after first facts word event refuses_value false k t.0 v u w saw t.1))
  leaves-after first facts (by_step word event) k (GoneOwing payload) v u w saw t =
      (settles-after first facts word event settles_owing true k payload v u w saw t.0, t.1)
  leaves-after first facts (by_step word event) k (Late payload) v u w saw t = absurd t
  leaves-after first facts as_it_begins k left v u w saw t = absurd t
  leaves-after first facts by_itself k left v u w saw t = absurd t

  settles-called : (first : List E) (facts : Facts) (word : ℕ) (event : Event E) (s : QueueStep) (answer : Bool)
      (k payload : ℕ) (v w : View E S) → Settles object primitive first facts word event s answer k payload v w
      → IsPrefix v.seen w.seen × (w.opening ≡ v.opening)
  settles-called first facts word event s answer k payload v w t = by (row_of s) t
    where
      by : (row : StepRow) → SettledBy object primitive row first facts word event s answer k payload v w
          → IsPrefix v.seen w.seen × (w.opening ≡ v.opening)
      by (at_counter row) t = absurd t
      by (at_cell row) t = ((t.called.more, t.called.seen), t.called.same.opening)

  leaves-called : (first : List E) (facts : Facts) (asking : Asking E) (k : ℕ) (left : Left) (v w : View E S)
      → Leaves object primitive first facts asking k v left w → IsPrefix v.seen w.seen × (w.opening ≡ v.opening)
  leaves-called first facts (by_step word event) k Gone v w (inl t) =
      settles-called first facts word event settles true k 0 v w t
  leaves-called first facts (by_step word event) k Gone v w (inr (inl t)) =
      settles-called first facts word event refuses false k 0 v w t
  leaves-called first facts (by_step word event) k Gone v w (inr (inr t)) =
      settles-called first facts word event refuses_value false k t.0 v w t.1
  leaves-called first facts (by_step word event) k (GoneOwing payload) v w t =
      settles-called first facts word event settles_owing true k payload v w t.0
  leaves-called first facts (by_step word event) k (Late payload) v w t = absurd t
  leaves-called first facts as_it_begins k left v w t = absurd t
  leaves-called first facts by_itself k left v w t = absurd t

  -- the leaving that the first exchange began
  pub began : (asking : Asking E) (k : ℕ) (left : Left) (v u w : View E S)
      → MadeBy object primitive starts_leaving (row_of starts_leaving) 0 k 0 v u
      → Leaves object primitive [] u.facts asking k u left w → Began object primitive asking k v left w
  began asking k left v u w m t =
      let none : m.found ≡ [] = no-more m.found m.few in
      let is : m.before ≡ facts_since v.facts.found m.last v.facts =
      m.before_is ∙ ((λ i. facts_since (v.facts.found ++ none i) m.last v.facts)
      ∙ (λ i. facts_since (append-nil v.facts.found i) m.last v.facts)) in
      let first : List E = object.entries starts_leaving v.number k v.facts.has.payload in
      let saw : Saw object v (facts_leaving object.gains k m.word v.facts) first u =
      subst (λ (f : Facts). Saw object v (facts_leaving object.gains k m.word f) first u) is m.saw in
      record {
        word = m.word;
        cell = m.cell;
        was = let more = leaves-called [] u.facts asking k left u w t in
            found-then (HasCell (waiting_glimpse k)) _ u w m.was more.0 more.1;
        ends = leaves-after first (facts_leaving object.gains k m.word v.facts) asking k left v u w saw t;
      }

  -- a resume left its value to the pass, which owes that resumption now
  owes-on : (first : List E) (facts : Facts) (word : ℕ) (event : Event E) (k payload : ℕ) (v w : View E S)
      → Settles object primitive first facts word event settles_owing true k payload v w → OwesWith w.facts payload None
  owes-on first facts word event k payload v w t = record {
    doing = ap (λ (f : Facts). f.doing) t.facts_are;
    owed = ap (λ (f : Facts). f.has.payload) t.facts_are ∙ t.told_is;
  }

  -- what was left to a waiter who was refused ended at its cell
  ended-refused : (k payload : ℕ) (u w : View E S)
      → MadeBy object primitive refuses_value (row_of refuses_value) 1 k payload u w → EndedRefused w.facts payload
  ended-refused k payload u w m = record {
    idle = ap (λ (f : Facts). f.doing) m.saw.facts_are;
    number = k;
    word = m.word;
    before = m.before.found;
    last = ap (λ (f : Facts). f.found) m.saw.facts_are;
    cell = inr m.cell;
  }

  -- a cell that was found without its waiter was served before, and the load finds it so again
  pub came-late : (k : ℕ) (found : CellState) (cell : CellWord) (v u w : View E S)
      → MissedBy object primitive (row_of starts_leaving) k v found u → LooksAt object primitive cancels k u cell w
      → CameLate object primitive k cell.payload v w
  came-late k found cell v u w m l =
      let g = m.glimpse in
      let h = l.looked.glimpse in
      let was_served : g.state ≡ state.Resumed = found-served g.state m.may (m.other tt) in
      let last : u.facts.last ≡ Some g = ap (λ (f : Facts). f.last) m.saw.facts_are in
      let since = subst (SinceLast h) last l.looked.since in
      let same : (h.state ≡ g.state) × (h.payload ≡ g.payload) = ⊎_elim
      (λ (same : (h.state ≡ g.state) × (h.payload ≡ g.payload)). same)
      (λ (more : rank g.state < rank h.state).
      absurd (none-after h.state l.looked.may (subst (λ x. rank x < rank h.state) was_served more)))
      (since.since (l.looked.number ∙ sym m.number)) in
      let resumed : h.state ≡ state.Resumed = same.0 ∙ was_served in
      let payload_is : h.payload ≡ cell.payload =
      l.shows.payload (number-found l.word h l.looked.cell (λ cancelled. resumed-only (sym resumed ∙ cancelled))) in
      let is : h ≡ served_glimpse k cell.payload =
      λ i. record { number = l.looked.number i; state = (same.0 ∙ was_served) i; payload = payload_is i } in
      let first_is : g ≡ served_glimpse k cell.payload =
      λ i. record { number = m.number i; state = was_served i; payload = (sym same.1 ∙ payload_is) i } in
      let word_is : m.word ≡ l.word =
      word-found m.word g m.cell (λ cancelled. resumed-only (sym was_served ∙ cancelled))
      ∙ ((λ i. word_of (first_is i).number (first_is i).state (first_is i).payload)
      ∙ ((λ i. word_of (sym is i).number (sym is i).state (sym is i).payload)
      ∙ sym (word-found l.word h l.looked.cell (λ cancelled. resumed-only (sym resumed ∙ cancelled))))) in
      let before : Facts = facts_tried (Cell k l.word ∷ []) v.facts in
      let es : List E = object.entries (looks late) v.number k cell.payload in
      let entries_are : look_entries object primitive (event_of cancels h.state) u.number h u.facts ≡ es =
      (λ i. look_entries object primitive (event_of cancels (is i).state) (m.saw.same.number i) (is i) u.facts) in
      let heads = l.looked.heads in
      let facts_are : counted_after (settles_event (event_of cancels h.state)) heads
      (facts_looked object.gains (event_of cancels h.state) l.word h u.facts)
      ≡ counted_after true heads (facts_after object.gains (row_of (looks late)) k l.word cell.payload before) =
      (λ i. counted_after (settles_event (event_of cancels (is i).state)) heads
      (facts_looked object.gains (event_of cancels (is i).state) l.word (is i) (m.saw.facts_are i)))
      ∙ (λ i. counted_after true heads (facts_looked object.gains (Some (looks late)) l.word
      (served_glimpse k cell.payload) (facts_missed (word_is i) (first_is i) v.facts))) in
      let saw : Saw object u
      (counted_after true heads (facts_after object.gains (row_of (looks late)) k l.word cell.payload before)) es w =
      subst (λ (z : Facts × List E). Saw object u z.0 z.1 w) (λ i. (facts_are i, entries_are i)) l.looked.saw in
      record {
        word = l.word;
        cell = subst (FoundCell l.word) is l.looked.cell;
        called = called-by object v w _ es (saw-then object v u w _ _ es m.saw saw);
        was = subst (λ (z : Glimpse × List E). WasFound primitive (HasCell z.0) z.1 w) (λ i. (is i, entries_are i))
            l.looked.was;
        heads = heads;
        few_heads = l.looked.few_heads;
        facts_are = saw.facts_are;
      }

  -- the same of any exchange that wanted a waiter there, of a wait of the pass
  pub missed-late : (row : CellRow) (k : ℕ) (found : CellState) (cell : CellWord) (v u w : View E S)
      → Missed object primitive row k v found u → LooksAt object primitive cancels k u cell w
      → row.finds ≡ state.Waiter → row.works_at ≡ stage.idle → CameLate object primitive k cell.payload v w
  missed-late row k found cell v u w m l finds works =
      came-late k found cell v u w (record {
        word = m.word;
        glimpse = m.glimpse;
        number = m.number;
        cell = m.cell;
        state_is = m.state_is;
        other = λ bare is. m.other (subst IsBare (sym finds) bare) (is ∙ sym finds);
        may = subst (λ s. MayFind v.opening.sync s m.glimpse.state) works m.may;
        since = m.since;
        saw = m.saw;
        was = m.was;
      }) l

module _ {C S E : Type 0} {g : Ghosts C S E} where
  -- the cell was settled by the answer, and no resume had left anything there
  pub gone : (asking : Asking E) (k : ℕ) (answer : Bool) (p q r : Pass C S E g) → IsAsked asking
      → HasAnswered asking k answer p q → HasSettled answer k None q r → HasLeft asking k p Gone r
  gone (by_step word event) k true p q r is a m =
      inl (settles-by g.object g.primitive word event settles 0 k 0 true (pass_view p) (pass_view q) (pass_view r)
      (omega arith) a m)
  gone (by_step word event) k false p q r is a m = inr (inl
      (settles-by g.object g.primitive word event refuses 0 k 0 false (pass_view p) (pass_view q) (pass_view r)
      (omega arith) a m))
  gone as_it_begins k answer p q r is a m = absurd is
  gone by_itself k answer p q r is a m = absurd is

  -- a resume had, and the waiter was refused
  pub gone-refused : (asking : Asking E) (k payload : ℕ) (p q r : Pass C S E g) → IsAsked asking
      → HasAnswered asking k false p q → HasSettled false k (Some payload) q r → HasLeft asking k p Gone r
  gone-refused (by_step word event) k payload p q r is a m = inr (inr (
    payload,
    settles-by g.object g.primitive word event refuses_value 1 k payload false (pass_view p) (pass_view q) (pass_view r)
        (omega arith) a m,
  ))
  gone-refused as_it_begins k payload p q r is a m = absurd is
  gone-refused by_itself k payload p q r is a m = absurd is

  pub refused-ended : (k payload : ℕ) (q r : Pass C S E g) → HasSettled false k (Some payload) q r
      → EndedRefused (pass_view r).facts payload
  refused-ended k payload q r m = ended-refused g.object g.primitive k payload (pass_view q) (pass_view r) m

  -- a resume had, and the waiter left the line
  pub gone-owing : (asking : Asking E) (k payload : ℕ) (p q r : Pass C S E g) → IsAsked asking
      → HasAnswered asking k true p q → HasSettled true k (Some payload) q r → HasLeft asking k p (GoneOwing payload) r
  gone-owing (by_step word event) k payload p q r is a m =
      let t = settles-by g.object g.primitive word event settles_owing 1 k payload true (pass_view p) (pass_view q)
      (pass_view r) (omega arith) a m in
      (t, owes-on g.object g.primitive [] (pass_view p).facts word event k payload (pass_view p) (pass_view r) t)
  gone-owing as_it_begins k payload p q r is a m = absurd is
  gone-owing by_itself k payload p q r is a m = absurd is

  -- what the pass knew of places it knows after the first exchange, whatever that found
  pub began-place : (k : ℕ) (p q : Pass C S E g) (at on : Place) → HasMade starts_leaving k 0 p q → on ≡ at
      → KnowsPlace (pass_view p) at → KnowsPlace (pass_view q) on
  began-place k p q at on m same knows = knows-at (pass_view q) (pass_view q) at on refl same
      (knows-saw g.object (pass_view p) (pass_view q) _ _ at m.saw knows)

  pub missed-place : (k : ℕ) (found : CellState) (p q : Pass C S E g) (at on : Place)
      → HasMissed starts_leaving k found p q → on ≡ at → KnowsPlace (pass_view p) at → KnowsPlace (pass_view q) on
  missed-place k found p q at on m same knows = knows-at (pass_view q) (pass_view q) at on refl same
      (knows-saw g.object (pass_view p) (pass_view q) _ _ at m.saw knows)

  -- the wait was cancelled, or it was too late
  pub cancelled : (asking : Asking E) (k : ℕ) (left : Left) (p q r : Pass C S E g) → HasMade starts_leaving k 0 p q
      → HasLeft asking k q left r → HasCancelled asking k p left r
  cancelled asking k Gone p q r m t =
      began g.object g.primitive asking k Gone (pass_view p) (pass_view q) (pass_view r) m t
  cancelled asking k (GoneOwing payload) p q r m t =
      began g.object g.primitive asking k (GoneOwing payload) (pass_view p) (pass_view q) (pass_view r) m t
  cancelled asking k (Late payload) p q r m t = absurd (none-late asking t)
    where
      none-late : (asking : Asking E) → HasLeft asking k q (Late payload) r → ⊥
      none-late (by_step word event) t = t
      none-late as_it_begins t = t
      none-late by_itself t = t

-- how a call ends
pub ruleset leave_ends = (answered-doing, gone, gone-refused, gone-owing)

pub ruleset cancel_ends = (cancelled)
