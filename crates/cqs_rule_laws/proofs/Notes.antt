-- What one pass has seen reaches another: a note is cut off the view of the one, and the other takes it in. Neither is
-- a step on a word, and nothing changes but that the other has the note.
use Rattle.std.proofs.Common.{◌≡◌, ◌≢◌, ℕ, ◌<◌, List, [], ◌∷◌, ◌++◌, length, set, sym, refl, ap, ◌∙◌, subst, ⊎_elim, inl, arith, Option, ◌⊎◌, append_assoc}
use mathlib.Core.Option.{some}
use mathlib.Core.Logic.{dite}
use native.Mathlib.Decide.{ℕ_discrete}
use lib.ListN.{get_elem?}
use Rattle.atomic_table.specs.Table.{State, Splits, Joins}
use Rattle.atomic_table.proofs.Lists.{at_set, set_else, set_again, at_longer}
use Rattle.cqs_rule_laws.specs.declared.view.View.{View}
use Rattle.cqs_rule_laws.specs.declared.view.Facts.{Facts}
use Rattle.cqs_rule_laws.specs.Segments.{KnowsSegments}
use Rattle.cqs_rule_laws.proofs.Segments.{knows-nothing}
use Rattle.cqs_rule_laws.proofs.Spares.{spares-set, spares-kept, spares-more}
use Rattle.cqs_rule_laws.proofs.ToRetire.{leave-kept, leave-more}
use Rattle.cqs_rule_laws.proofs.Duties.{counted-kept, counted-more}
use Rattle.cqs_rule_laws.specs.Lists.{Has, IsPrefix}
use Rattle.cqs_rule_laws.specs.Views.{all_own, weight, Tip, IsSpent, spent, note_of, with_note, as_before}
use Rattle.cqs_rule_laws.specs.Ruled.{Ruled, Knows, cell_count}
use Rattle.cqs_rule_laws.specs.Object.{Object, Primitive}
use Rattle.cqs_rule_laws.specs.Saw.{Saw}
use Rattle.cqs_rule_laws.proofs.Advance.{spent-set}
use Rattle.cqs_rule_laws.proofs.CrewViews.{apart-set, kept-set}
use Rattle.cqs_rule_laws.proofs.Lists.{set_there, one_there, set_all, total_set, total_last, at_end, of_one}
use Rattle.cqs_rule_laws.proofs.Shelves.{keeps-same, shelf-set, shelf-end}
use Rattle.cqs_rule_laws.specs.Given.{IsAware}
use Rattle.cqs_rule_laws.proofs.Given.{aware-like}

module _ {E S : Type 0} where
  -- a view of no weight is set in the place of another: the live views are those of before
  pub live-on : (views : List (View E S)) (id : ℕ) (u gone : View E S) → get_elem? views id ≡ some u → u.weight ≡ 0
      → (j : ℕ) (x : View E S) → get_elem? views j ≡ some x → 0 < x.weight → get_elem? (set views id gone) j ≡ some x
  live-on views id u gone here weightless j x at live = dite (ℕ_discrete j id)
      (λ (same : j ≡ id).
      let is : x ≡ u = one_there views id x u (subst (λ i. get_elem? views i ≡ some x) same at) here in
      let w : x.weight ≡ u.weight = ap weight is in absurd (omega arith))
      (λ (apart : j ≢ id). set_else views id j gone apart ∙ at)

  pub live-back : (views : List (View E S)) (id : ℕ) (gone : View E S) → gone.weight ≡ 0
      → (j : ℕ) (x : View E S) → get_elem? (set views id gone) j ≡ some x → 0 < x.weight → get_elem? views j ≡ some x
  live-back views id gone weightless j x at live = ⊎_elim
      (λ (t : (j ≡ id) × (gone ≡ x)). let w : gone.weight ≡ x.weight = ap weight t.1 in absurd (omega arith))
      (λ (t : (j ≢ id) × (get_elem? views j ≡ some x)). t.1)
      (at_set views id j gone x at)

module _ {E S : Type 0} (object : Object E) (primitive : Primitive E S) (passes limit : ℕ) where
  abbrev R : State (Option S) (View E S) → Type 0
  R = Ruled object primitive passes limit

  -- a note is cut off
  pub notes : (id : ℕ) (v : View E S) → Splits R id v v (note_of v)
  notes id v s r here = subst
      (λ (l : List (View E S)). R (record { words = s.words; homes = s.homes; views = l ++ note_of v ∷ [] }))
      (sym (set_again s.views id v here)) appended
    where
      note : View E S
      note = note_of v

      -- what stands in the longer list is the note, or stood there before
      old-or : {P : Type 0} (j : ℕ) (u : View E S) → get_elem? (s.views ++ note ∷ []) j ≡ some u
          → (get_elem? s.views j ≡ some u → P) → (note ≡ u → P) → P
      old-or j u e was is = ⊎_elim was (λ (q : (j ≡ length s.views) × (note ≡ u)). is q.1) (at_end s.views note u j e)

      appended : R (record { words = s.words; homes = s.homes; views = s.views ++ note ∷ [] })
      appended = record {
        hidden = r.hidden;
        log = r.log;
        handed = r.handed;
        made = r.made;
        live = r.live;
        crew = record {
          word = r.crew.word;
          some_made = r.crew.some_made;
          few = r.crew.few;
          live_few = r.crew.live_few;
          live_is = let t = total_last weight s.views note in let l = r.crew.live_is in omega arith;
        };
        counters = r.counters;
        cells = r.cells;
        settled = r.settled;
        finals = r.finals;
        all_settled = r.all_settled;
        suits = r.suits;
        counted = counted-more (λ (x : View E S). x.facts.duties) r.segments r.settled s.views note refl r.counted;
        to_leave = leave-more r.segments s.views (note ∷ []) r.to_leave;
        spares = spares-more r.slots r.segments s.views note refl
            r.spares;
        idle_words = r.idle_words;
        room = r.room;
        door = r.door;
        shown = r.shown;
        slots = r.slots;
        segments = r.segments;
        noted = λ j u e. old-or j u e (r.noted j u)
            (λ is. subst (λ (y : View E S). IsPrefix y.seen r.log) is (r.noted id v here));
        each_segment = λ j u e. old-or j u e (r.each_segment j u)
            (λ is. subst (λ (y : View E S). KnowsSegments r.slots r.segments y) is
            (record { seen = knows-nothing r.segments; slots_are = λ on. absurd (omega arith); made = omega arith }));
        each_view = λ j u e live. old-or j u e (λ q. r.each_view j u q live)
            (λ is. let w : note.weight ≡ u.weight = ap weight is in absurd (omega arith));
        apart = λ i j x y n e f g h. old-or i x e
            (λ e'. old-or j y f (λ f'. r.apart i j x y n e' f' g h)
            (λ is. absurd (subst (λ (z : View E S). Has n (all_own z)) (sym is) h)))
            (λ is. absurd (subst (λ (z : View E S). Has n (all_own z)) (sym is) g));
        unnamed = r.unnamed;
        unused = r.unused;
        kept = λ n low. let k = r.kept n low in record {
          place = k.place;
          view = k.view;
          there = at_longer s.views (note ∷ []) k.place k.view k.there;
          live = k.live;
          has = k.has;
        };
        tip = record {
          place = r.tip.place;
          view = r.tip.view;
          there = at_longer s.views (note ∷ []) r.tip.place r.tip.view r.tip.there;
          live = r.tip.live;
          sees = r.tip.sees;
        };
        shelf = shelf-end primitive.opens r.handed r.live s.homes s.views note refl refl r.shelf;
        tied = r.tied;
        aware = λ j u e live. old-or j u e (λ q. r.aware j u q live)
            (λ is. let w : note.weight ≡ u.weight = ap weight is in absurd (omega arith));
        spent = λ j u e weightless. old-or j u e (λ q. r.spent j u q weightless)
            (λ is. subst IsSpent is (record { numberless = λ n h. h; dutiless = refl; retireless = refl }));
      }

  -- a live view has taken in what a note says
  pub takes-in : (s : State (Option S) (View E S)) (r : R s) (id : ℕ) (v : View E S) (other : List E)
      → get_elem? s.views id ≡ some v → v.weight ≡ 1 → IsPrefix other r.log
      → R (record { words = s.words; homes = s.homes; views = set s.views id (record v { other = other }) })
  takes-in s r id v other here one prefix = record {
    hidden = r.hidden;
    log = r.log;
    handed = r.handed;
    made = r.made;
    live = r.live;
    crew = record {
      word = r.crew.word;
      some_made = r.crew.some_made;
      few = r.crew.few;
      live_few = r.crew.live_few;
      live_is = let t = total_set weight s.views id v w here in let l = r.crew.live_is in omega arith;
    };
    counters = r.counters;
    cells = r.cells;
    settled = r.settled;
    finals = r.finals;
    all_settled = r.all_settled;
    suits = r.suits;
    counted = counted-kept (λ (x : View E S). x.facts.duties) r.segments r.settled s.views id v w here refl r.counted;
    to_leave = leave-kept r.segments s.views id v w here refl r.to_leave;
    spares = spares-kept r.slots r.segments r.segments s.views id v w
        here refl (λ y. refl) r.spares;
    idle_words = r.idle_words;
    room = r.room;
    door = r.door;
    shown = r.shown;
    slots = r.slots;
    segments = r.segments;
    noted = set_all (λ j u. IsPrefix u.seen r.log) s.views id w (r.noted id v here) (λ j u apart at. r.noted j u at);
    each_segment = set_all (λ j u. KnowsSegments r.slots r.segments u) s.views id w
        (record {
          seen = (r.each_segment id v here).seen;
          slots_are = λ on. (r.each_segment id v here).slots_are (omega arith);
          made = (r.each_segment id v here).made;
        })
        (λ j u apart at. r.each_segment j u at);
    each_view = set_all P s.views id w
        (λ live. record {
          sees = record {
            seen = k.sees.seen;
            other = prefix;
            handed_in = k.sees.handed_in;
            other_handed_in = k.sees.other_handed_in;
            mine = k.sees.mine;
            theirs = λ n h. absurd (subst (λ l. Has n l) (k.light (omega arith)) h);
          };
          below = k.below;
          light = k.light;
          parted = k.parted;
          own = k.own;
          stands = k.stands;
          resting = k.resting;
          second = λ z. absurd (omega arith);
          crew = k.crew;
          alone = k.alone;
          limit_is = k.limit_is;
          cells_are = k.cells_are;
          passes_are = k.passes_are;
          opening_is = k.opening_is;
          payload_fits = k.payload_fits;
        })
        (λ j u apart at live. r.each_view j u at live);
    apart = apart-set s.views id v w r.apart here (λ n h. inl h);
    unnamed = r.unnamed;
    unused = r.unused;
    kept = λ n low. kept-set s.views id v w n here (omega arith) (λ h. h) (r.kept n low);
    tip = tip-set r.tip;
    shelf = shelf-set primitive.opens r.handed r.live s.homes s.views id v w here (omega arith)
        (record { live = omega arith; laid = refl; keeps = keeps-same primitive.opens v }) r.shelf;
    tied = r.tied;
    aware = set_all (λ j u. 0 < u.weight → IsAware object.gives primitive.opens (length s.homes) r.log u) s.views id w
        (λ live. aware-like object.gives primitive.opens (length s.homes) r.log v w one one refl (λ j o. o)
        (r.aware id v here (omega arith)))
        (λ j u apart at live. r.aware j u at live);
    spent = spent-set object primitive passes limit s.views id w (omega arith) r.spent;
  }
    where
      k : Knows object r.hidden r.log r.handed r.made r.live passes limit (cell_count passes limit primitive.values)
          primitive.opening v
      k = r.each_view id v here (omega arith)

      w : View E S
      w = record v { other = other }

      P : ℕ → View E S → Type 0
      P j u = 0 < u.weight → Knows object r.hidden r.log r.handed r.made r.live passes limit
          (cell_count passes limit primitive.values) primitive.opening u

      tip-set : Tip r.log s.views → Tip r.log (set s.views id w)
      tip-set old = dite (ℕ_discrete old.place id)
          (λ (at : old.place ≡ id).
          let is : old.view ≡ v = one_there s.views id old.view v
          (subst (λ i. get_elem? s.views i ≡ some old.view) at old.there) here in
          record {
            place = id;
            view = w;
            there = set_there s.views id v w here;
            live = omega arith;
            sees = ⊎_elim (λ (e : v.seen ≡ r.log). inl e)
                (λ (e : (v.weight ≡ 2) × (v.other ≡ r.log)). absurd (omega arith))
                (subst (λ (x : View E S). (x.seen ≡ r.log) ⊎ ((x.weight ≡ 2) × (x.other ≡ r.log))) is old.sees);
          })
          (λ (apart : old.place ≢ id). record {
            place = old.place;
            view = old.view;
            there = set_else s.views id old.place w apart ∙ old.there;
            live = old.live;
            sees = old.sees;
          })

  -- a note that was taken in is spent
  pub note-spent : (s : State (Option S) (View E S)) (r : R s) (id : ℕ) (u : View E S)
      → get_elem? s.views id ≡ some u → u.weight ≡ 0
      → R (record { words = s.words; homes = s.homes; views = set s.views id spent })
  note-spent s r id u here weightless = record {
    hidden = r.hidden;
    log = r.log;
    handed = r.handed;
    made = r.made;
    live = r.live;
    crew = record {
      word = r.crew.word;
      some_made = r.crew.some_made;
      few = r.crew.few;
      live_few = r.crew.live_few;
      live_is = let t = total_set weight s.views id u spent here in let l = r.crew.live_is in omega arith;
    };
    counters = r.counters;
    cells = r.cells;
    settled = r.settled;
    finals = r.finals;
    all_settled = r.all_settled;
    suits = r.suits;
    counted = counted-kept (λ (x : View E S). x.facts.duties) r.segments r.settled s.views id u spent here
        (sym (r.spent id u here weightless).dutiless) r.counted;
    to_leave = leave-kept r.segments s.views id u spent here (sym (r.spent id u here weightless).retireless)
        r.to_leave;
    spares = spares-set r.slots r.segments r.segments s.views id u spent
        here tt tt (λ y h. absurd h) (λ y i a d is none. refl) r.spares;
    idle_words = r.idle_words;
    room = r.room;
    door = r.door;
    shown = r.shown;
    slots = r.slots;
    segments = r.segments;
    noted = set_all (λ j x. IsPrefix x.seen r.log) s.views id spent (r.log, refl) (λ j x apart at. r.noted j x at);
    each_segment = set_all (λ j x. KnowsSegments r.slots r.segments x) s.views id spent
        (record { seen = knows-nothing r.segments; slots_are = λ on. absurd (omega arith); made = omega arith })
        (λ j x apart at. r.each_segment j x at);
    each_view = λ j x at live. r.each_view j x (was j x at live) live;
    apart = apart-set s.views id u spent r.apart here (λ n h. absurd h);
    unnamed = r.unnamed;
    unused = r.unused;
    kept = λ n low. let k = r.kept n low in record {
      place = k.place;
      view = k.view;
      there = on k.place k.view k.there k.live;
      live = k.live;
      has = k.has;
    };
    tip = record {
      place = r.tip.place;
      view = r.tip.view;
      there = on r.tip.place r.tip.view r.tip.there r.tip.live;
      live = r.tip.live;
      sees = r.tip.sees;
    };
    shelf = record {
      lies = r.shelf.lies;
      home = λ k low shut. r.shelf.home k low (λ j x at live. shut j x (on j x at live) live);
      opened = λ j x at live. r.shelf.opened j x (was j x at live) live;
      laid = λ j x at live. r.shelf.laid j x (was j x at live) live;
      last = λ k bare. r.shelf.last k (λ j x at live. bare j x (on j x at live) live);
    };
    tied = r.tied;
    aware = λ j x at live. r.aware j x (was j x at live) live;
    spent = set_all (λ j x. x.weight ≡ 0 → IsSpent x) s.views id spent
        (λ z. record { numberless = λ n h. h; dutiless = refl; retireless = refl })
        (λ j x apart at. r.spent j x at);
  }
    where
      was : (j : ℕ) (x : View E S) → get_elem? (set s.views id spent) j ≡ some x → 0 < x.weight
          → get_elem? s.views j ≡ some x
      was = live-back s.views id spent refl

      on : (j : ℕ) (x : View E S) → get_elem? s.views j ≡ some x → 0 < x.weight
          → get_elem? (set s.views id spent) j ≡ some x
      on = live-on s.views id u spent here weightless

  -- the view of a pass takes in a note of another
  pub takes-note : (id other : ℕ) (v u : View E S) → v.weight ≡ 1 → u.weight ≡ 0
      → Joins R id v other u (with_note v u) spent
  takes-note id other v u one weightless s r here apart there =
      note-spent (record { words = s.words; homes = s.homes; views = set s.views id (with_note v u) })
      (takes-in s r id v u.seen here one (r.noted other u at-other)) other u there weightless
    where
      at-other : get_elem? s.views other ≡ some u
      at-other = ⊎_elim (λ (t : (other ≡ id) × (with_note v u ≡ u)). absurd (apart t.0)) (λ t. t.1)
          (at_set s.views id other (with_note v u) u there)

-- a pass that has then seen all that another had seen: what each had seen before is a beginning of the other's, one way
-- or the other
pub one-history : {E S : Type 0} (object : Object E) (v u w : View E S) (facts : Facts)
    → Saw object v facts [] (as_before v w) → IsPrefix u.seen w.seen
    → IsPrefix v.seen u.seen ⊎ IsPrefix u.seen v.seen
one-history object v u w facts saw all =
    of_one v.seen u.seen w.seen (saw.between ++ [], saw.seen ∙ append_assoc v.seen saw.between []) all
