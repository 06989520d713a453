-- A step on a word of the client, once for every event: what the client owes for it keeps the rule, and tells the pass
-- the event.
use Rattle.std.proofs.Common.{◌≡◌, ℕ, ◌+◌, ◌<◌, ◌^◌, Bool, true, List, ◌++◌, length, ⊎_elim, inl, sym, refl, ap, ◌∙◌, subst, arith, Option, Some, None, ◌≤◌, false, if◌then◌else◌}
use Rattle.std.specs.Prelude.{slice_index, slice_set}
use Rattle.std.proofs.lemmas.List.{length-set}
use Rattle.std.proofs.lemmas.Option.{same_Some}
use mathlib.Core.Option.{some}
use lib.ListN.{get_elem?}
use Rattle.atomic_table.specs.Table.{State, Me, keeps, stepped, Allows}
use Rattle.cqs_core.specs.declared.doings.Doing.{Doing}
use Rattle.cqs_core.specs.declared.doings.Doing.TheVariants as doing
use Rattle.cqs_core.proofs.Places.{get-set_here, get-set_else}
use Rattle.cqs_rule_laws.specs.declared.view.View.{View}
use Rattle.cqs_rule_laws.specs.declared.view.Facts.{Facts}
use Rattle.cqs_rule_laws.specs.declared.view.Opening.{Opening}
use Rattle.cqs_rule_laws.specs.Client.{IsClient}
use Rattle.cqs_rule_laws.specs.Events.{Moment, Event, moment, has_then, facts_moved, HasWord, Moved, Moves, SlotsStay, IsShort, IsAway, StaysAway}
use Rattle.cqs_rule_laws.specs.Facts.{is_owing, IsBehind}
use Rattle.cqs_rule_laws.specs.Given.{times_given}
use Rattle.cqs_rule_laws.specs.Slots.{laid_in}
use Rattle.cqs_rule_laws.specs.Hidden.{Hidden, stands_at}
use Rattle.cqs_rule_laws.specs.Layout.{client_words, client_place}
use Rattle.cqs_rule_laws.specs.Lists as lists
use Rattle.cqs_rule_laws.specs.Object.{Object, Primitive}
use Rattle.cqs_rule_laws.specs.Ruled.{Ruled, RuledAhead, Stands, IsSince}
use Rattle.cqs_rule_laws.specs.Saw.{Saw, IsLive, WasFound}
use Rattle.cqs_rule_laws.specs.Views.{grown}
use Rattle.cqs_rule_laws.specs.Manner.{IsSmart}
use Rattle.cqs_rule_laws.proofs.ToRetire.{leaves-same}
use Rattle.cqs_rule_laws.proofs.Over.{over-same, unwatched-same, suspended-same}
use Rattle.cqs_rule_laws.proofs.Settled.{finals-on}
use Rattle.cqs_rule_laws.proofs.CellPlaces.{behind-client, client-inside}
use Rattle.cqs_rule_laws.proofs.Advance.{Turned}
use Rattle.cqs_rule_laws.proofs.Given.{IsTiedAt, tied-on}
use Rattle.cqs_rule_laws.proofs.GivenBeside.{aware-beside}
use Rattle.cqs_rule_laws.proofs.Drawing.{draws-word}
use Rattle.cqs_rule_laws.proofs.Shelves.{never-open}
use Rattle.cqs_rule_laws.proofs.Lines.{line-short}
use Rattle.cqs_rule_laws.proofs.Others.{others-moved, door-keeps}
use Rattle.cqs_slots.proofs.Loads.{later-same}
use Rattle.cqs_rule_laws.proofs.Tells.{steps}
use Rattle.cqs_rule_laws.proofs.Words.{crew-else, counters-else, cells-else, idle-else, client-at, client-set}

-- two of the client's words at one place are one
one-word : (i j : ℕ) → client_place i ≡ client_place j → i ≡ j
one-word i j same = omega arith

-- what is kept or goes is no more than it was
kept-low : (b : Bool) (n m : ℕ) → n ≤ m → (if b then n else 0) ≤ m
kept-low true n m low = low
kept-low false n m low = omega arith

-- a pass stands where an event of its own leaves it
stands-moved : (c : Hidden) (p : ℕ) (facts after : Facts) → after.may_draw ≡ facts.may_draw → after.waits ≡ facts.waits
    → after.last ≡ None → IsBehind c.queue.resumes after → Stands c p facts
    → Stands (stands_at c p after.doing after.has) p after
stands-moved c p facts after may waits last behind at = record {
  doing = get-set_here c.queue.doing p facts.doing after.doing at.doing;
  has = get-set_here c.has p facts.has after.has at.has;
  may_draw = at.may_draw ∙ ap Some (sym may);
  waits = λ k h. let w = at.waits k (subst (lists.Has k) waits h) in record {
    cell = w.cell;
    there = w.there;
    owner = w.owner;
    drawn = w.drawn;
    uncollected = w.uncollected;
    installed = w.installed;
  };
  all_waits = λ k w. subst (lists.Has k) (sym waits) (at.all_waits k (record {
    cell = w.cell;
    there = w.there;
    owner = w.owner;
    drawn = w.drawn;
    uncollected = w.uncollected;
    installed = w.installed;
  }));
  once = subst lists.IsDistinct (sym waits) at.once;
  last = subst (IsSince (stands_at c p after.doing after.has)) (sym last) tt;
  behind = behind;
}

-- a pass that is somewhere after a step, or before it, was there before, or is there after it
away-back : (from to e : Doing) → (IsAway e → ⊥) → StaysAway from to → to ≡ e → from ≡ e
away-back from to e there stays is = ⊎_elim
    (λ (same : to ≡ from). sym same ∙ is)
    (λ (both : IsAway from × IsAway to). absurd (there (subst IsAway is both.1)))
    stays

away-on : (from to e : Doing) → (IsAway e → ⊥) → StaysAway from to → from ≡ e → to ≡ e
away-on from to e there stays is = ⊎_elim
    (λ (same : to ≡ from). same ∙ is)
    (λ (both : IsAway from × IsAway to). absurd (there (subst IsAway is both.0)))
    stays

module _ {C E S : Type 0} (object : Object E) (primitive : C → Primitive E S) (passes limit : ℕ) (x : C)
    (client : IsClient object (primitive x)) (event : Event E) (made : ℕ → Bool) where
  -- what the step at this place tells the pass
  abbrev pub Tells : ℕ → Me (Option S) (View E S) → ℕ → Me (Option S) (View E S) → Type 0
  Tells place me n me' =
      Moved object primitive event made place me.0 n me'.0 × (me'.1 ≡ me.1) × IsLive object me'.0

  -- a pass that has no slot open, and keeps those that it has laid something into
  pub record MayStep (slots : ℕ) (v : View E S) : Type 0 where
    pub one : v.weight ≡ 1
    pub shut : v.facts.open_slot ≡ None
    pub stay : SlotsStay object (primitive x) slots event made v

  -- the same of a pass that gives those away into which values were handed ahead
  pub record MayGiveAhead (slots : ℕ) (ahead : ℕ → ℕ) (v : View E S) : Type 0 where
    pub one : v.weight ≡ 1
    pub shut : v.facts.open_slot ≡ None
    pub stay : (n k : ℕ) (y : Option S) → k < slots → laid_in v.laid k ≡ Some y
        → (primitive x).opens v.facts.has k
        → (primitive x).opens (has_then event (moment (primitive x).opening v.number v.facts made n)) k
    pub given : (n k : ℕ) → k < slots → times_given object.gives
        (event.entries (moment (primitive x).opening v.number v.facts made n)) k ≡ ahead k
    pub mine : (k : ℕ) → 0 < ahead k → (primitive x).opens v.facts.has k

  -- the rule after the step, and what the step tells: the pass has seen all that was handed in
  pub moved : {ahead : ℕ → ℕ} (slots id : ℕ) (me : Me (Option S) (View E S)) (i : ℕ) (f : ℕ → ℕ)
      → MayGiveAhead slots ahead me.0 → i < 4
      → Moves object (primitive x) event made me.0.number me.0.facts i f
      → (s : State (Option S) (View E S)) (r : RuledAhead object (primitive x) passes limit ahead s)
      → length s.homes ≡ slots
      → get_elem? s.views id ≡ some me.0 → slice_index s.words (client_place i) < 18446744073709551616
      → (w : View E S)
      × Ruled object (primitive x) passes limit
      (stepped s (client_place i) (f (slice_index s.words (client_place i))) id me.1 w keeps)
      × Tells (client_place i) me (slice_index s.words (client_place i)) (w, me.1) × (w.handed ≡ r.handed)
      × (w.laid ≡ me.0.laid) × IsTiedAt object.gives slots w
  moved {ahead} slots id me i f may few law s r homes here small =
      let one = may.one in
      let v = me.0 in let p = v.number in let facts = v.facts in let c = r.hidden in
      let known = r.each_view id v here (omega arith) in
      let at = known.stands in
      let word = client_place i in
      let n = slice_index s.words word in
      let words = client_words s.words in
      let at_opening : Opening → Moment = λ o. moment o p facts made n in
      let m : Moment = at_opening (primitive x).opening in
      let after : Facts = facts_moved event word m in
      let now = event.doing m in
      let d = stands_at c p now (has_then event m) in
      let es = event.entries m in
      let is : slice_index words i ≡ n = client-at s.words i few in
      let wide : (j : ℕ) → j < 4 → client_place j < length s.words =
      λ j low.
      let inside = client-inside j r.slots low in
      let long = r.cells.shows.wide in omega arith in
      let short : IsShort (primitive x).most_limit c.queue = record {
        line = line-short object (primitive x) passes limit s r client;
        drawn = let g = r.room.ground in let p = r.room.few_passes in let l = r.suits in omega arith;
      } in
      let self-after = stands-moved c p facts after refl refl refl
      (record {
        reached = kept-low (is_owing facts.doing) facts.reached c.queue.resumes at.behind.reached;
        passed = at.behind.passed;
      }) at in
      let t : Turned object (primitive x) passes limit s r v word (f n) d es after = record {
        crew = crew-else s.words word (f n) (omega arith);
        counters = counters-else c.queue d.queue s.words word (f n) (omega arith) refl refl r.counters;
        cells = cells-else r.segments c d r.slots s.words word (f n)
            (behind-client i few) (λ k. refl) (λ k. refl) r.cells;
        idle_words = idle-else s.words word (f n) (λ j is. is.client i few) r.idle_words;
        room = record {
          few_passes = r.room.few_passes;
          low_limit = r.room.low_limit;
          few_values = r.room.few_values;
          doing = length-set c.queue.doing p now ∙ r.room.doing;
          has = length-set c.has p (has_then event m) ∙ r.room.has;
          may_draw = r.room.may_draw;
          ground = r.room.ground;
          resumes = r.room.resumes;
        };
        door = door-keeps c d p r.door (λ m a. get-set_else c.queue.doing p m now (λ e. a (sym e))) (λ m a. refl)
            (λ at_door. let mine = get-set_here c.queue.doing p facts.doing now at.doing in
            let door : now ≡ doing.Door = same_Some now doing.Door (sym mine ∙ at_door) in
            ⊎_elim
            (λ (there : facts.doing ≡ doing.Door). r.door p (at.doing ∙ ap Some there))
            (λ (may : facts.may_draw ≡ true). at.may_draw ∙ ap Some may)
            (law.door n door));
        shown = subst (λ (ws : List ℕ). (primitive x).shows d ws (r.log ++ es) r.handed)
            (sym (client-set s.words i (f n) few wide))
            (subst (λ z. (primitive x).shows
            (stands_at c p (event.doing (moment (primitive x).opening p facts made z))
            (has_then event (moment (primitive x).opening p facts made z)))
            (slice_set words i (f z))
            (r.log ++ event.entries (moment (primitive x).opening p facts made z)) r.handed) is
            (law.step c words r.log r.handed r.shown at.doing at.has short (subst (λ z. z < 2 ^ 64) (sym is) small)));
        others = others-moved c p now (has_then event m);
        self = stands-moved c p facts after refl refl refl
            (record {
              reached = kept-low (is_owing facts.doing) facts.reached c.queue.resumes at.behind.reached;
              passed = at.behind.passed;
            }) at;
        silent = law.silent n;
        payload_fits = law.fits n known.payload_fits;
        slots = record {
          open_slot = refl;
          laid = λ k y is o. may.stay n k y (let t = r.shelf.laid id v here (omega arith) k y is in let low = t.2 in
              omega arith) is o;
          out = λ k is o. absurd (never-open v k may.shut is);
        };
        draws = ap (λ k. c.queue.resumes + k) (sym (draws-word facts.found word n (λ e. omega arith)));
        given = λ k low. may.given n k (omega arith);
        aware = aware-beside object (primitive x) passes limit client s r id v es here (omega arith)
            (λ k low. may.given n k (omega arith)) may.mine;
        now = r.segments;
        later = later-same r.segments;
        settles = r.settled;
        counts = λ q. refl;
        finals = finals-on (IsSmart (primitive x).manner.leaving) c d p r.settled facts after
            (others-moved c p now (has_then event m)) at
            (stands-moved c p facts after refl refl refl
            (record {
              reached = kept-low (is_owing facts.doing) facts.reached c.queue.resumes at.behind.reached;
              passed = at.behind.passed;
            }) at)
            (λ j high. refl) (λ j high h. h) (λ j e. inl (law.ticket n j e))
            (λ j e. inl (away-back facts.doing now (doing.Drawn j) (λ z. z) (law.away n) e))
            (λ j e. inl (away-back facts.doing now (doing.Watching j) (λ z. z) (law.away n) e))
            (omega arith) (omega arith) r.finals;
        over = λ j o. r.all_settled j (over-same (IsSmart (primitive x).manner.leaving) c.queue d.queue j refl
            (λ m w. record {
              cell = w.cell;
              there = w.there;
              owner = w.owner;
              drawn = w.drawn;
              uncollected = w.uncollected;
              installed = w.installed;
            })
            (unwatched-same c d p facts after (others-moved c p now (has_then event m)) at self-after
            (λ i e. away-on facts.doing now (doing.Watching i) (λ z. z) (law.away n) e) j)
            (suspended-same c d p facts after (others-moved c p now (has_then event m)) at self-after
            (λ i e. away-on facts.doing now (doing.Drawn i) (λ z. z) (law.away n) e) (λ i low. inl low) j) o);
        same_slots = λ y. refl;
        same_spares = refl;
        leaves = leaves-same r.segments _;
      } in
      let done = steps object (primitive x) passes limit client s r id me word (f n) d es after here one t in
      let w : View E S = grown v after (r.log ++ es) r.handed in (
        w,
        done.0,
        (
          record {
            saw = subst (λ o. Saw object v (facts_moved event word (at_opening o)) (event.entries (at_opening o)) w)
                (sym known.opening_is) done.1;
            was = λ j same. subst (λ o. WasFound primitive (HasWord j n) (event.entries (at_opening o)) w)
                (sym known.opening_is)
                (record {
                  before = r.log;
                  seen = refl;
                  was = record {
                    client = x;
                    opening_is = sym known.opening_is;
                    hidden = c;
                    words = words;
                    handed = r.handed;
                    shown = r.shown;
                    holds = ap (slice_index words) (sym (one-word i j same)) ∙ is;
                  };
                });
          },
          refl,
          done.2,
        ),
        refl,
        refl,
        λ k low. tied-on object.gives (length s.homes) ahead r.log es r.handed t.given r.tied k (omega arith),
      )

  pub moves : (slots id : ℕ) (me : Me (Option S) (View E S)) (i : ℕ) (f : ℕ → ℕ)
      → MayStep slots me.0 → i < 4
      → Moves object (primitive x) event made me.0.number me.0.facts i f
      → Allows (Ruled object (primitive x) passes limit) slots id me (client_place i) f (Tells (client_place i) me)
  moves slots id me i f may few law s r homes here small =
      let t = moved slots id me i f (record {
        one = may.one;
        shut = may.shut;
        stay = may.stay.stay;
        given = may.stay.none;
        mine = λ k some. absurd (omega arith);
      }) few law s r homes here small in (t.0, keeps, tt, t.1, t.2)

  -- the same at a word's place, by what the step computes of the word found
  pub moves-at : (slots id : ℕ) (me : Me (Option S) (View E S)) (i place : ℕ) (f g : ℕ → ℕ)
      → MayStep slots me.0 → i < 4
      → place ≡ client_place i → ((n : ℕ) → g n ≡ f n)
      → Moves object (primitive x) event made me.0.number me.0.facts i f
      → Allows (Ruled object (primitive x) passes limit) slots id me place g (Tells place me)
  moves-at slots id me i place f g may few is same law =
      subst (λ (z : ℕ × (ℕ → ℕ)). Allows (Ruled object (primitive x) passes limit) slots id me z.0 z.1 (Tells z.0 me))
      (λ j. (sym is j, λ n. sym (same n) j)) (moves slots id me i f may few law)
