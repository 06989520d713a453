-- What a resumption of a synchronous queue leaves of its pass, where it shows no entry but that of its last step: what
-- became of the value that it left, or that a canceller is to end first.
use Rattle.std.proofs.Common.{◌≡◌, ℕ, List, [], ◌∷◌, ◌++◌, length, Option, sym, refl, ap, ◌∙◌, subst, append_assoc}
use Rattle.cqs_core.specs.declared.cells.CoreState.{CoreState}
use Rattle.cqs_core.specs.declared.cells.CoreState.TheVariants as state
use Rattle.cqs_core.specs.declared.doings.Doing.TheVariants as doing
use Rattle.cqs_core.specs.QueueSteps.{CellRow, QueueStep, breaks, in_sync, its_own, leaves_watched, sees_taken, sees_value}
use Rattle.cqs_rule.specs.declared.queue.tokens.Under.{Under}
use Rattle.cqs_rule_laws.specs.declared.view.Facts.{Facts}
use Rattle.cqs_rule_laws.specs.declared.view.Has.{Has}
use Rattle.cqs_rule_laws.specs.declared.view.Opening.{Opening}
use Rattle.cqs_rule_laws.specs.declared.view.Sighting.{Sighting}
use Rattle.cqs_rule_laws.specs.declared.view.Sighting.TheVariants.{Cell}
use Rattle.cqs_rule_laws.specs.declared.view.View.{View}
use Rattle.cqs_rule_laws.specs.Called.{Called}
use Rattle.cqs_rule_laws.specs.Causes.{cell_of, CellWas, CellWasOnce}
use Rattle.cqs_rule_laws.specs.Client.{IsQuiet}
use Rattle.cqs_rule_laws.specs.Exchanges.{FoundCell, HasCell}
use Rattle.cqs_rule_laws.specs.Hidden.{has_gained}
use Rattle.cqs_rule_laws.specs.Object.{Object, Primitive}
use Rattle.cqs_rule_laws.specs.Saw.{WasFound, WasShown}
use Rattle.cqs_rule_laws.proofs.Calls.{called-and}
use Rattle.cqs_rule_laws.proofs.Causes.{Onward}
use Rattle.cqs_rule_laws.proofs.Lists.{prefix-then}
use Rattle.cqs_rule_laws.proofs.Prefixes.{called-prefix}
use Rattle.cqs_cell.specs.Transitions.{cells_seen}
use Rattle.cqs_resume.specs.Resumes.{CameTo}
use Rattle.cqs_resume.specs.Rounds.{all_seen}
use Rattle.cqs_resume.specs.SyncResumes.{Handled, LeftThen}
use Rattle.cqs_resume.specs.Watching.{HasBroken, HeldOut, last_entries, SawTaken, seen_entries, Watched}
use Rattle.cqs_resume.proofs.Ends.{came-at, draw-none, over-none, seen-last}

-- to leave a value and to look at it shows no entry
pub record IsQuietWatch {E : Type 0} (object : Object E) : Type 0 where
  pub leaving : (p k payload : ℕ) → object.entries (in_sync leaves_watched) p k payload ≡ []
  pub seeing : (p k payload : ℕ) → object.entries (in_sync sees_value) p k payload ≡ []

module _ {E : Type 0} (object : Object E) (watch : IsQuietWatch object) where
  seen-none : (p k payload : ℕ) (words : List ℕ) → seen_entries object p k payload words ≡ []
  seen-none p k payload [] = refl
  seen-none p k payload (word ∷ words) =
      λ i. watch.seeing p k payload i ++ seen-none p k payload words i

module _ {C E S : Type 0} (object : Object E) (primitive : C → Primitive E S) (quiet : IsQuiet object)
    (watch : IsQuietWatch object) where
  -- The value was left in the cell of the number k and watched, until the cell was found in this state, before these
  -- entries. The pass is idle and has this.
  pub record WatchedAt (at : CoreState) (k : ℕ) (own : List E) (has : Has) (words : List ℕ) (u w : View E S) : Type 0
    where
      pub called : Called object u own own w
      pub onward : Onward u w
      pub held_out : HeldOut primitive at k words own u w
      pub idle : w.facts.doing ≡ doing.Idle
      pub has_is : w.facts.has ≡ has
      pub waits : w.facts.waits ≡ u.facts.waits

  -- what is found by a call that goes on from what another found
  looks-on : (f g more : List Sighting) (first : Sighting) (seen tried : List Sighting) (word : Sighting)
      (h : List Sighting)
      → g ≡ f ++ (more ++ first ∷ []) → h ≡ (g ++ (seen ++ tried)) ++ word ∷ []
      → h ≡ f ++ (more ++ first ∷ (seen ++ (tried ++ word ∷ [])))
  looks-on f g more first seen tried word h is then =
      then ∙ (ap (λ l. (l ++ (seen ++ tried)) ++ word ∷ []) is
      ∙ (append_assoc (f ++ (more ++ first ∷ [])) (seen ++ tried) (word ∷ [])
      ∙ (append_assoc f (more ++ first ∷ []) ((seen ++ tried) ++ word ∷ [])
      ∙ (ap (λ l. f ++ l) (append_assoc more (first ∷ []) ((seen ++ tried) ++ word ∷ []))
      ∙ ap (λ l. f ++ (more ++ first ∷ l)) (append_assoc seen tried (word ∷ []))))))

  watched-at : (s : QueueStep) (row : CellRow) (most : ℕ) (ticket : Option ℕ) (payload k : ℕ) (u m w : View E S)
      (own : List E) (has : Has)
      → CameTo object primitive (doing.Watching k) (in_sync leaves_watched) state.Empty most ticket payload k u m
      → (t : Watched object primitive s row k m w) → last_entries object primitive s row t.payload k m ≡ own
      → w.facts.doing ≡ doing.Idle → w.facts.has ≡ has → w.facts.waits ≡ m.facts.waits
      → WatchedAt row.finds k own has t.words u w
  watched-at s row most ticket payload k u m w own has left t last idle has_is waits =
      let c = came-at object primitive quiet (doing.Watching k) (in_sync leaves_watched) state.Empty most ticket payload
      k u m left in
      let found = ap (λ (f : Facts). f.found) t.facts_are in
      let first = subst (λ es. Called object u es es m) (watch.leaving u.number k payload) c.called in
      let second = subst (λ (z : List E × List E). Called object m z.0 z.1 w)
      (λ i. (seen-none object watch m.number k m.facts.has.payload t.words i ++ last i, last i)) t.called in
      let called = called-and object u m w [] [] own own first second in
      let on : Onward m w = record {
        seen = called-prefix object m w _ _ second;
        found = (_, found ∙ append_assoc m.facts.found (cells_seen k t.words ++ t.tried) (Cell k t.word ∷ []));
        opening = t.called.same.opening;
      } in
      record {
        called = called;
        onward = record {
          seen = called-prefix object u w _ _ called;
          found = (
            c.onward.found.0 ++ on.found.0,
            on.found.1 ∙ (ap (λ l. l ++ on.found.0) c.onward.found.1
                ∙ append_assoc u.facts.found c.onward.found.0 on.found.0),
          );
          opening = on.opening ∙ c.onward.opening;
        };
        held_out = record {
          empty = c.once.word;
          bare = c.once.payload;
          empty_cell = c.once.cell;
          was_empty = record {
            before = c.once.was.before;
            seen = prefix-then c.once.was.before m.seen w.seen c.once.was.seen on.seen;
            was = subst (λ (z : Opening). WasShown {S = S} primitive z (HasCell (cell_of k state.Empty c.once.payload))
                c.once.was.before) (sym on.opening) c.once.was.was;
          };
          there = t.there;
          tried = t.tried;
          few = t.few;
          word = t.word;
          payload = t.payload;
          cell = t.cell;
          was = subst (λ es. WasFound primitive (HasCell (cell_of k row.finds t.payload)) es w) last t.was;
          earlier = c.once.found.0;
          found = looks-on u.facts.found m.facts.found c.once.found.0 (Cell k c.once.word) (cells_seen k t.words)
              t.tried (Cell k t.word) w.facts.found c.at_end found;
        };
        idle = idle;
        has_is = has_is;
        waits = waits ∙ c.waits;
      }

  -- what the pass had as it left the value
  left-has : (most : ℕ) (ticket : Option ℕ) (payload k : ℕ) (u m : View E S)
      → CameTo object primitive (doing.Watching k) (in_sync leaves_watched) state.Empty most ticket payload k u m
      → m.facts.has ≡ u.facts.has
  left-has most ticket payload k u m left =
      (came-at object primitive quiet (doing.Watching k) (in_sync leaves_watched) state.Empty most ticket payload k u m
      left).has

  -- it was taken
  pub saw-taken : (most : ℕ) (ticket : Option ℕ) (payload k : ℕ) (u w : View E S)
      → ((p payload : ℕ) → object.entries (in_sync sees_taken) p k payload ≡ [])
      → (l : LeftThen object primitive (SawTaken object primitive k) most ticket payload k u w)
      → WatchedAt state.Taken k [] u.facts.has l.then.words u w
  saw-taken most ticket payload k u w none l =
      let t = l.then in
      watched-at (in_sync sees_taken) _ most ticket payload k u l.from w [] u.facts.has l.left t
      (none l.from.number l.from.facts.has.payload) (ap (λ (f : Facts). f.doing) t.facts_are)
      (ap (λ (f : Facts). f.has) t.facts_are ∙ left-has most ticket payload k u l.from l.left)
      (ap (λ (f : Facts). f.waits) t.facts_are)

  -- it was taken back, and the cell broken
  pub has-broken : (most : ℕ) (ticket : Option ℕ) (payload k : ℕ) (u w : View E S) (own : List E)
      → ((payload : ℕ) → object.entries (in_sync breaks) u.number k payload ≡ own)
      → (l : LeftThen object primitive (HasBroken object primitive k) most ticket payload k u w)
      → WatchedAt state.Value k own (has_gained object.gains its_own l.then.0.payload u.facts.has) l.then.0.words u w
      × (length l.then.0.words ≡ u.opening.looks)
  has-broken most ticket payload k u w own entries l =
      let t = l.then.0 in
      let number : l.from.number ≡ u.number = l.left.called.same.number in (
        watched-at (in_sync breaks) _ most ticket payload k u l.from w own
            (has_gained object.gains its_own t.payload u.facts.has) l.left t
            (ap (λ p. object.entries (in_sync breaks) p k t.payload) number ∙ entries t.payload)
            (ap (λ (f : Facts). f.doing) t.facts_are)
            (ap (λ (f : Facts). f.has) t.facts_are
            ∙ ap (has_gained object.gains its_own t.payload) (left-has most ticket payload k u l.from l.left))
            (ap (λ (f : Facts). f.waits) t.facts_are),
        l.then.1 ∙ ap (λ (o : Opening). o.looks) l.left.called.same.opening,
      )

  -- A canceller is to end before the resumption goes on, which shows nothing.
  pub record HandledAt (k : ℕ) (u w : View E S) : Type 0 where
    pub called : Called object u [] [] w
    pub onward : Onward u w
    pub cell : CellWas primitive state.Cancelling k [] w
    pub once : CellWasOnce primitive state.Cancelling k u w
    pub has : w.facts.has ≡ u.facts.has
    pub waits : w.facts.waits ≡ u.facts.waits

  pub handled-at : (most : ℕ) (ticket : Option ℕ) (payload k : ℕ) (under : Under) (u w : View E S)
      → Handled object primitive most ticket payload k under u w → HandledAt k u w
  handled-at most ticket payload k under u w e =
      let last = e.last in
      let found : w.facts.found ≡ u.facts.found ++ all_seen (e.over ++ last ∷ []) =
      ap (λ (f : Facts). f.found) e.facts_are in
      let at_end = seen-last e.over last in
      let called = subst (λ es. Called object u es [] w)
      (λ i. over-none object quiet u.number payload e.over i
      ++ draw-none object quiet u.number payload last.drawn last.number i) e.called in
      let cell = subst (λ j. FoundCell last.word (cell_of j state.Cancelling last.payload)) e.number e.found.cell in
      let was = subst (λ j. WasFound primitive (HasCell (cell_of j state.Cancelling last.payload)) [] w) e.number
      e.was in
      let seen_at_end = found ∙ (ap (λ l. u.facts.found ++ l) at_end.1
      ∙ ap (λ j. u.facts.found ++ (at_end.0 ++ Cell j last.word ∷ [])) e.number) in
      record {
        called = called;
        onward = record {
          seen = called-prefix object u w _ _ called;
          found = (_, found);
          opening = e.called.same.opening;
        };
        cell = record {
          word = last.word;
          payload = last.payload;
          cell = cell;
          found = (
            u.facts.found ++ at_end.0,
            seen_at_end ∙ sym (append_assoc u.facts.found at_end.0 (Cell k last.word ∷ [])),
          );
          was = was;
        };
        once = record {
          word = last.word;
          payload = last.payload;
          cell = cell;
          found = (at_end.0, [], seen_at_end);
          was = record { before = was.before; seen = ([], was.seen); was = was.was };
        };
        has = ap (λ (f : Facts). f.has) e.facts_are;
        waits = ap (λ (f : Facts). f.waits) e.facts_are;
      }
