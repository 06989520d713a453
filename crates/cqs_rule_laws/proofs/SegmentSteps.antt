-- The steps on the words of segments: what each makes of the segments keeps the rule.
use Rattle.std.proofs.Common.{◌≡◌, ◌≢◌, ◌⊎◌, ℕ, ◌+◌, ◌-◌, ◌*◌, ◌/◌, ◌%◌, ◌^◌, ◌<◌, ◌≤◌, true, List, [], ◌∷◌, ◌++◌, length, length-append, set, sym, refl, ap, ◌∙◌, subst, ⊎_elim, inl, inr, arith, eqb, eq-eqb, ne_eqb, Option}
use Rattle.std.specs.Prelude.{slice_index, slice_set}
use prog.Atomic.{either}
use mathlib.Core.Option.{some}
use mathlib.Core.Logic.{dite}
use native.Mathlib.Decide.{ℕ_discrete}
use lib.ListN.{get_elem?}
use lib.Seq.{set-get_or}
use Rattle.atomic_table.specs.Table.{State, Me, Act, keeps, stepped, carried_after, Valid, Allows}
use Rattle.atomic_table.proofs.Lists.{set_else}
use Rattle.cqs_words.specs.Head.{head_word}
use Rattle.cqs_words.specs.Segment.{segment_word}
use Rattle.cqs_slots.specs.Layout.{tail_place, head_place, count_place, slot_cell, empty_word}
use Rattle.cqs_slots.specs.Slots.{Segments, free, spare, fresh, live, IsHome, IsLater, slot_head}
use Rattle.cqs_slots.specs.Shown.{Shows, AreSound, AreCells, Becomes}
use Rattle.cqs_slots.specs.Told.{Knows, all_seen, TailFound, HeadFound}
use Rattle.cqs_core.proofs.Places.{get-push_at}
use Rattle.cqs_slots.proofs.Lists.{changed_here, changed_at, changed_else, home-prefix, one-home}
use Rattle.cqs_slots.proofs.Loads as loads
use Rattle.cqs_slots.specs.Steps.{with_slot, with_tail, with_counted}
use Rattle.cqs_slots.proofs.Claims.{claimed, claimed-is, given-back}
use Rattle.cqs_slots.proofs.Resets.{spare-low, begun, cell-reset, count-reset}
use Rattle.cqs_slots.proofs.Marks.{is-young, lit}
use Rattle.cqs_slots.proofs.Counts.{few-counted, count-found, counted-shows, counted-sound, counted-later, fuller-has}
use Rattle.cqs_slots.proofs.Extends.{extended, tail-at}
use Rattle.cqs_rule_laws.specs.declared.view.Spare.{Spare}
use Rattle.cqs_rule_laws.specs.declared.view.View.{View}
use Rattle.cqs_rule_laws.specs.Client.{IsClient}
use Rattle.cqs_rule_laws.specs.Hidden.{Hidden}
use Rattle.cqs_rule_laws.specs.Lists.{Has, IsDistinct, IsPrefix}
use Rattle.cqs_rule_laws.specs.Object.{Object, Primitive}
use Rattle.cqs_rule_laws.specs.Ruled.{Ruled, Knows as KnowsView, Stands, cell_count, word_at}
use Rattle.cqs_rule_laws.specs.Segments.{KnowsSegments}
use Rattle.cqs_rule_laws.specs.SegmentSteps.{facts_left, retiring, LeftBy, CellCounted, claimed_slot, reset_slot, Went, TailLoaded, HeadLoaded, Claimed, Began, Reset, Lit, Extended}
use Rattle.cqs_rule_laws.specs.Spares.{slots_of, IsSpare, AreSpare, SparesHold}
use Rattle.cqs_rule_laws.specs.Views.{weight, Tip}
use Rattle.cqs_rule_laws.proofs.Advance.{still-apart, spent-set, still-kept}
use Rattle.cqs_rule_laws.specs.Settling.{times, duties_in}
use Rattle.cqs_rule_laws.proofs.ToRetire.{Leaves, leaves-same, leaves-turned, leave-set, too, too-has}
use Rattle.cqs_rule_laws.proofs.Duties.{counted-set, times-append, times-one, times-none}
use Rattle.cqs_rule_laws.proofs.Lists.{set_there, one_there, set_all, total_set, one_of, has_append, has_left, has_right}
use Rattle.cqs_rule_laws.proofs.Near.{drawn-near-by, wait-made}
use Rattle.cqs_rule_laws.proofs.Outs.{own-stands}
use Rattle.cqs_rule_laws.proofs.Segments.{knows-later, made-later}
use Rattle.cqs_rule_laws.proofs.Shelves.{keeps-all, shelf-set}
use Rattle.cqs_rule_laws.proofs.Spares.{slots-append, are-append, are-else, are-last, is-spare, spares-set, spares-kept, distinct-append, distinct-last, distinct-left}
use Rattle.cqs_rule_laws.proofs.Words.{crew-else, counters-else, idle-else, client-above}
use Rattle.cqs_rule_laws.specs.Given.{IsAware}
use Rattle.cqs_rule_laws.proofs.Given.{aware-like}

-- the view of a pass that made such a step: it knows all segments that are made
abbrev pub left : {E S : Type 0} → View E S → Segments → List Spare → List (ℕ × ℕ) → List ℕ → List ℕ → View E S
left v u spares heads duties retires = record v {
  facts = record (facts_left spares heads duties v.facts) { to_retire = retires };
  segments = all_seen u;
}

-- it has the same cells to count
abbrev pub retired : {E S : Type 0} → View E S → Segments → List Spare → List (ℕ × ℕ) → List ℕ → View E S
retired v u spares heads retires = left v u spares heads v.facts.duties retires

-- and the same segments to retire
abbrev pub went : {E S : Type 0} → View E S → Segments → List Spare → List (ℕ × ℕ) → View E S
went v u spares heads = retired v u spares heads v.facts.to_retire

module _ {E S : Type 0} (object : Object E) (primitive : Primitive E S) (passes limit : ℕ) where
  abbrev pub R : State (Option S) (View E S) → Type 0
  R = Ruled object primitive passes limit

  -- what such a step has to show: the word i becomes z, and the segments u
  pub record Resegments (s : State (Option S) (View E S)) (r : R s) (id i z : ℕ) (v : View E S) (u : Segments)
      (spares : List Spare) (heads : List (ℕ × ℕ)) (duties retires : List ℕ) : Type 0 where
    pub behind : 112 ≤ i
    pub shows : Shows r.slots u (word_at r.hidden) (slice_set s.words i z)
    pub sound : AreSound r.slots u
    pub later : IsLater r.segments u
    pub made : AreCells (word_at r.hidden) u.tail
    pub counts : (q : ℕ) → times q v.facts.duties + r.segments.counted q ≡ times q duties + u.counted q
    pub leaves : Leaves r.segments u v.facts.to_retire retires
    pub hold : SparesHold r.slots u (set s.views id (left v u spares heads duties retires))

  -- what it tells
  pub went-so : (s : State (Option S) (View E S)) (r : R s) (id : ℕ) (v : View E S) (u : Segments)
      (spares : List Spare)
      (heads : List (ℕ × ℕ)) (duties retires : List ℕ) → get_elem? s.views id ≡ some v → IsLater r.segments u
      → LeftBy heads spares duties (retiring retires v) (left v u spares heads duties retires)
  went-so s r id v u spares heads duties retires here later = record {
    is = refl;
    segments = loads.sees-all u v.segments
        (loads.knows-later r.segments u v.segments later (r.each_segment id v here).seen);
  }

  -- it keeps the rule
  pub resegment : (s : State (Option S) (View E S)) (r : R s) (id i z : ℕ) (cs : List (ℕ × Option S)) (v : View E S)
      (u : Segments) (spares : List Spare) (heads : List (ℕ × ℕ)) (duties retires : List ℕ)
      → get_elem? s.views id ≡ some v → v.weight ≡ 1 → Resegments s r id i z v u spares heads duties retires
      → R (stepped s i z id cs (left v u spares heads duties retires) keeps)
  resegment s r id i z cs v u spares heads duties retires here one t =
      let behind = t.behind in
      let k = r.each_view id v here (omega arith) in
      let at = k.stands in
      let stands : Stands r.hidden v.number w.facts = record {
        doing = at.doing;
        has = at.has;
        may_draw = at.may_draw;
        waits = at.waits;
        all_waits = at.all_waits;
        once = at.once;
        last = at.last;
        behind = record { reached = at.behind.reached; passed = at.behind.passed };
      } in
      record {
        hidden = r.hidden;
        log = r.log;
        handed = r.handed;
        made = r.made;
        live = r.live;
        crew = record {
          word = crew-else s.words i z (omega arith) ∙ r.crew.word;
          some_made = r.crew.some_made;
          few = r.crew.few;
          live_few = r.crew.live_few;
          live_is = let total = total_set weight s.views id v w here in let l = r.crew.live_is in omega arith;
        };
        counters = counters-else r.hidden.queue r.hidden.queue s.words i z (omega arith) refl refl r.counters;
        slots = r.slots;
        segments = u;
        cells = record {
          shows = t.shows;
          sound = t.sound;
          made = t.made;
          fits = r.cells.fits;
          bare = r.cells.bare;
        };
        settled = r.settled;
        finals = r.finals;
        all_settled = r.all_settled;
        suits = r.suits;
        counted = counted-set (λ (x : View E S). x.facts.duties) r.segments u r.settled r.settled s.views id v w here
            (λ q. let e = t.counts q in omega arith) r.counted;
        to_leave = leave-set r.segments u s.views id v w here t.later.outs t.leaves r.to_leave;
        spares = t.hold;
        idle_words = idle-else s.words i z (λ j is e. let before = is.before in omega arith) r.idle_words;
        room = r.room;
        door = r.door;
        shown = subst (λ (ws : List ℕ). primitive.shows r.hidden ws r.log r.handed)
            (sym (client-above s.words i z (omega arith))) r.shown;
        each_view = set_all P s.views id w
            (λ on. record {
              sees = record {
                seen = k.sees.seen;
                other = k.sees.other;
                handed_in = k.sees.handed_in;
                other_handed_in = k.sees.other_handed_in;
                mine = k.sees.mine;
                theirs = k.sees.theirs;
              };
              below = k.below;
              light = k.light;
              parted = k.parted;
              own = k.own;
              stands = stands;
              resting = k.resting;
              second = λ two. absurd (omega arith);
              crew = k.crew;
              alone = k.alone;
              limit_is = k.limit_is;
              cells_are = k.cells_are;
              passes_are = k.passes_are;
              opening_is = k.opening_is;
              payload_fits = k.payload_fits;
            })
            (λ j x apart there on. r.each_view j x there on);
        apart = still-apart object primitive passes limit s.views id v w here refl r.apart;
        spent = spent-set object primitive passes limit s.views id w (omega arith) r.spent;
        unnamed = r.unnamed;
        kept = λ n low. still-kept object primitive passes limit s.views id v w n here refl one (r.kept n low);
        unused = r.unused;
        tip = tip-set r.tip;
        shelf = shelf-set primitive.opens r.handed r.live s.homes s.views id v w here (omega arith)
            (record { live = omega arith; laid = refl; keeps = keeps-all primitive.opens v w.facts refl (λ j o. o) })
            r.shelf;
        tied = r.tied;
        aware = set_all (λ j x. 0 < x.weight
            → IsAware object.gives primitive.opens (length s.homes) r.log x) s.views id w
            (λ on. aware-like object.gives primitive.opens (length s.homes) r.log v w one one refl (λ j o. o)
            (r.aware id v here (omega arith)))
            (λ j x apart at on. r.aware j x at on);
        noted = set_all (λ j x. IsPrefix x.seen r.log) s.views id w (r.noted id v here)
            (λ j x apart at. r.noted j x at);
        each_segment = set_all (λ j x. KnowsSegments r.slots u x) s.views id w
            (let known = r.each_segment id v here in record {
              seen = loads.knows-all u;
              slots_are = known.slots_are;
              made = λ ample. made-later v.cells v.segments.homes u.homes
                  (loads.knows-later r.segments u v.segments t.later known.seen).homes (known.made ample);
            })
            (λ j x apart there. knows-later r.slots r.segments u x t.later (r.each_segment j x there));
      }
    where
      w : View E S
      w = left v u spares heads duties retires

      P : ℕ → View E S → Type 0
      P j x = 0 < x.weight → KnowsView object r.hidden r.log r.handed r.made r.live passes limit
          (cell_count passes limit primitive.values) primitive.opening x

      tip-set : Tip r.log s.views → Tip r.log (set s.views id w)
      tip-set old = dite (ℕ_discrete old.place id)
          (λ (at : old.place ≡ id).
          let is : old.view ≡ v = one_there s.views id old.view v
          (subst (λ j. get_elem? s.views j ≡ some old.view) at old.there) here in record {
            place = id;
            view = w;
            there = set_there s.views id v w here;
            live = omega arith;
            sees = subst (λ (x : View E S). (x.seen ≡ r.log) ⊎ ((x.weight ≡ 2) × (x.other ≡ r.log))) is old.sees;
          })
          (λ (apart : old.place ≢ id). record {
            place = old.place;
            view = old.view;
            there = set_else s.views id old.place w apart ∙ old.there;
            live = old.live;
            sees = old.sees;
          })

  -- the rule after such a step at the slot x, which made it what it is, and what it tells
  pub segment-turn : (s : State (Option S) (View E S)) (r : R s) (id i z x : ℕ) (me : Me (Option S) (View E S))
      (u : Segments) (spares : List Spare) (heads : List (ℕ × ℕ)) (retires : List ℕ)
      → get_elem? s.views id ≡ some me.0 → me.0.weight ≡ 1 → 112 ≤ i
      → Becomes r.slots x r.segments u (word_at r.hidden) (slice_set s.words i z)
      → AreCells (word_at r.hidden) u.tail → ((q : ℕ) → u.counted q ≡ r.segments.counted q)
      → Leaves r.segments u me.0.facts.to_retire retires → AreSpare r.slots u spares → IsDistinct (slots_of spares)
      → ((y : ℕ) → Has y (slots_of spares) → Has y (slots_of me.0.facts.spare_slots)
      ⊎ ((i a d : ℕ) → r.segments.slots y ≡ spare i a d → ⊥))
      → ((j a d : ℕ) → r.segments.slots x ≡ spare j a d → Has x (slots_of me.0.facts.spare_slots))
      → R (stepped s i z id me.1 (retired me.0 u spares heads retires) keeps)
      × Went spares heads (retiring retires me.0) (retired me.0 u spares heads retires)
  segment-turn s r id i z x me u spares heads retires here one behind b made counts leaves mine distinct claims own = (
    resegment s r id i z me.1 me.0 u spares heads me.0.facts.duties retires here one (record {
      behind = behind;
      shows = b.shows;
      sound = b.sound;
      later = b.later;
      made = made;
      counts = λ q. let e = counts q in omega arith;
      leaves = leaves;
      hold = spares-set r.slots r.segments u s.views id me.0 (retired me.0 u spares heads retires) here mine distinct
          claims
          (λ y j a d is none. b.others y (λ (e : y ≡ x). none (subst (λ m. Has m (slots_of me.0.facts.spare_slots))
          (sym e) (own j a d (ap r.segments.slots (sym e) ∙ is))))) r.spares;
    }),
    went-so s r id me.0 u spares heads me.0.facts.duties retires here b.later,
  )

  -- A step that leaves all words. The pass may find that it isn't to retire some segment any more.
  pub retire-look : (s : State (Option S) (View E S)) (r : R s) (id i : ℕ) (me : Me (Option S) (View E S))
      (heads : List (ℕ × ℕ)) (retires : List ℕ) → get_elem? s.views id ≡ some me.0 → me.0.weight ≡ 1 → 112 ≤ i
      → Leaves r.segments r.segments me.0.facts.to_retire retires
      → R (stepped s i (slice_index s.words i) id me.1
      (retired me.0 r.segments me.0.facts.spare_slots heads retires) keeps)
      × Went me.0.facts.spare_slots heads (retiring retires me.0)
      (retired me.0 r.segments me.0.facts.spare_slots heads retires)
  retire-look s r id i me heads retires here one behind leaves =
      let same : slice_set s.words i (slice_index s.words i) ≡ s.words = set-get_or s.words i 0 in (
        resegment s r id i (slice_index s.words i) me.1 me.0 r.segments me.0.facts.spare_slots heads me.0.facts.duties
            retires here one (record {
              behind = behind;
              shows = subst (Shows r.slots r.segments (word_at r.hidden)) (sym same) r.cells.shows;
              sound = r.cells.sound;
              later = loads.later-same r.segments;
              made = r.cells.made;
              counts = λ q. refl;
              leaves = leaves;
              hold = spares-set r.slots r.segments r.segments s.views id me.0
                  (retired me.0 r.segments me.0.facts.spare_slots heads retires) here (r.spares.are id me.0 here)
                  (r.spares.once id me.0 here) (λ y h. inl h) (λ y j a d is none. refl) r.spares;
            }),
        went-so s r id me.0 r.segments me.0.facts.spare_slots heads me.0.facts.duties retires here
            (loads.later-same r.segments),
      )

  pub segment-look : (s : State (Option S) (View E S)) (r : R s) (id i : ℕ) (me : Me (Option S) (View E S))
      (heads : List (ℕ × ℕ)) → get_elem? s.views id ≡ some me.0 → me.0.weight ≡ 1 → 112 ≤ i
      → R (stepped s i (slice_index s.words i) id me.1 (went me.0 r.segments me.0.facts.spare_slots heads) keeps)
      × Went me.0.facts.spare_slots heads me.0 (went me.0 r.segments me.0.facts.spare_slots heads)
  segment-look s r id i me heads here one behind =
      retire-look s r id i me heads me.0.facts.to_retire here one behind
      (leaves-same r.segments me.0.facts.to_retire)

  -- what an exchange comes to
  abbrev pub Comes : (s : State (Option S) (View E S)) (id : ℕ) (me : Me (Option S) (View E S)) (i z : ℕ)
      → (View E S → Type 0) → Type 0
  Comes s id me i z T = (w : View E S) × R (stepped s i z id me.1 w keeps) × T w

  abbrev pub Allowed : (s : State (Option S) (View E S)) (id : ℕ) (me : Me (Option S) (View E S)) (i z : ℕ)
      → (Me (Option S) (View E S) → Type 0) → Type 0
  Allowed s id me i z T = (w : View E S) × (a : Act (Option S)) × Valid s.homes me.1 a
      × R (stepped s i z id me.1 w a) × T (w, carried_after me.1 a)

  pub by-exchange : (s : State (Option S) (View E S)) (id : ℕ) (me : Me (Option S) (View E S)) (i m expected new : ℕ)
      (T : View E S → Type 0)
      → (m ≡ expected → Comes s id me i new T) → (m ≢ expected → Comes s id me i m T)
      → Allowed s id me i (either (eqb m expected) new m) (λ me'. T me'.0 × (me'.1 ≡ me.1))
  by-exchange s id me i m expected new T made missed = dite (ℕ_discrete m expected)
      (λ e. subst (λ b. Allowed s id me i (either b new m) (λ me'. T me'.0 × (me'.1 ≡ me.1)))
      (sym (eq-eqb m expected e))
      (let t = made e in (t.0, keeps, tt, t.1, (t.2, refl))))
      (λ a. subst (λ b. Allowed s id me i (either b new m) (λ me'. T me'.0 × (me'.1 ≡ me.1)))
      (sym (ne_eqb m expected a))
      (let t = missed a in (t.0, keeps, tt, t.1, (t.2, refl))))

  -- a load of the tail
  pub loads-tail : IsClient object primitive → (many id : ℕ) (me : Me (Option S) (View E S)) → me.0.weight ≡ 1
      → Allows R many id me tail_place (λ n. n) (λ n me'. TailLoaded me.0 n me'.0 × (me'.1 ≡ me.1))
  loads-tail client many id me one s r homes here small =
      let t = segment-look s r id tail_place me [] here one (omega arith) in
      let w = went me.0 r.segments me.0.facts.spare_slots [] in
      let same_slots = (r.each_segment id me.0 here).slots_are (omega arith) in (
        w,
        keeps,
        tt,
        t.0,
        (
          record {
            found = subst (λ z. TailFound z (slice_index s.words tail_place) w.segments) (sym same_slots)
                (loads.tail-found r.slots r.segments (word_at r.hidden) s.words r.cells.shows r.cells.sound w.segments
                refl refl).0;
            stands = λ k own out. own-stands object primitive passes limit client s r id me.0 k here (omega arith) own
                out;
            near = λ k own. subst (λ z. k / 32 ≤ z + 1)
                (sym (loads.tail-found r.slots r.segments (word_at r.hidden) s.words r.cells.shows r.cells.sound
                w.segments refl refl).1)
                (drawn-near-by object primitive passes limit client s r id me.0 k here (omega arith) own);
            made = λ k has. subst (λ z. k / 32 ≤ z)
                (sym (loads.tail-found r.slots r.segments (word_at r.hidden) s.words r.cells.shows r.cells.sound
                w.segments refl refl).1)
                (wait-made object primitive passes limit s r id me.0 k here (omega arith) has);
            went = t.1;
          },
          refl,
        ),
      )

  -- a load of a head
  pub loads-head : IsClient object primitive → (many id : ℕ) (me : Me (Option S) (View E S)) (x : ℕ)
      → me.0.weight ≡ 1 → x < me.0.slots
      → Allows R many id me (head_place x) (λ n. n) (λ n me'. HeadLoaded x me.0 n me'.0 × (me'.1 ≡ me.1))
  loads-head client many id me x one below s r homes here small =
      let n = slice_index s.words (head_place x) in
      let t = segment-look s r id (head_place x) me ((x, n) ∷ []) here one (omega arith) in
      let w = went me.0 r.segments me.0.facts.spare_slots ((x, n) ∷ []) in
      let same_slots = (r.each_segment id me.0 here).slots_are (omega arith) in (
        w,
        keeps,
        tt,
        t.0,
        (
          record {
            found = loads.head-found r.slots r.segments (word_at r.hidden) s.words r.cells.shows r.cells.sound
                me.0.segments x (subst (λ z. x < z) same_slots below) (r.each_segment id me.0 here).seen;
            stands = λ k own out. own-stands object primitive passes limit client s r id me.0 k here (omega arith) own
                out;
            went = t.1;
          },
          refl,
        ),
      )

  -- a free slot is claimed, where its head still says so
  pub claims : (many id : ℕ) (me : Me (Option S) (View E S)) (x i : ℕ) → me.0.weight ≡ 1 → x < me.0.slots
      → Allows R many id me (head_place x) (λ n. either (eqb n (head_word i 0)) (head_word i 1) n)
      (λ n me'. Claimed x (head_word i 0) me.0 n me'.0 × (me'.1 ≡ me.1))
  claims many id me x i one below s r homes here small =
      by-exchange s id me (head_place x) n (head_word i 0) (head_word i 1)
      (λ w. Claimed x (head_word i 0) me.0 n w)
      (λ e.
      let was : t.slots x ≡ free i = claimed-is r.slots t (word_at c) s.words r.cells.shows r.cells.sound x low i e in
      let u = with_slot t x (spare i 0 0) t.outs t.lit in
      let b = claimed r.slots t (word_at c) s.words r.cells.shows r.cells.sound x low i e in
      let fresh-slot : (j a d : ℕ) → t.slots x ≡ spare j a d → ⊥ = λ j a d q. not-spare i j a d (sym was ∙ q) in
      let absent : Has x (slots_of l) → ⊥ = λ h.
      let q = is-spare r.slots t l x h (r.spares.are id v here) in fresh-slot q.0 q.1 q.2 q.3 in
      let new = segment-turn s r id (head_place x) (head_word i 1) x me u (l ++ claimed_slot x ∷ []) ((x, n) ∷ [])
      v.facts.to_retire here one (omega arith) b r.cells.made (λ q. refl)
      (leaves-turned t u v.facts.to_retire refl refl)
      (are-append r.slots u l (claimed_slot x ∷ [])
      (are-else r.slots t u l (λ y h. b.others y (λ e'. absent (subst (λ m. Has m (slots_of l)) e' h)))
      (r.spares.are id v here)) (
        record {
          low = low;
          id = i;
          is = changed_here t.slots x (spare i 0 0);
          begun = λ some. absurd (omega arith);
        },
        tt,
      ))
      (subst IsDistinct (sym (slots-append l (claimed_slot x ∷ [])))
      (distinct-append (slots_of l) (x ∷ []) (r.spares.once id v here) ((λ h. h), tt)
      (λ y p q. ⊎_elim (λ (e' : y ≡ x). absent (subst (λ m. Has m (slots_of l)) e' p)) (λ h. h) q)))
      (λ y h. ⊎_elim inl (λ q. ⊎_elim (λ (e' : y ≡ x). inr (λ j a d is. fresh-slot j a d (ap t.slots (sym e') ∙ is)))
      (λ h'. absurd h') q)
      (has_append y (slots_of l) (x ∷ []) (subst (Has y) (slots-append l (claimed_slot x ∷ [])) h)))
      (λ j a d is. absurd (fresh-slot j a d is)) in (
        went v u (l ++ claimed_slot x ∷ []) ((x, n) ∷ []),
        new.0,
        record { found = head; made = λ _. new.1; missed = λ a. absurd (a e) },
      ))
      (λ a.
      let q = segment-look s r id (head_place x) me ((x, n) ∷ []) here one (omega arith) in
      (went v t l ((x, n) ∷ []), q.0, record { found = head; made = λ e. absurd (a e); missed = λ _. q.1 }))
    where
      v : View E S
      v = me.0

      l : List Spare
      l = me.0.facts.spare_slots

      t : Segments
      t = r.segments

      c : Hidden
      c = r.hidden

      n : ℕ
      n = slice_index s.words (head_place x)

      low : x < r.slots
      low = subst (λ z. x < z) ((r.each_segment id me.0 here).slots_are (omega arith)) below

      head : HeadFound x n v.segments (all_seen t)
      head = loads.head-found r.slots t (word_at c) s.words r.cells.shows r.cells.sound v.segments x low
          (r.each_segment id me.0 here).seen

      not-spare : (k j a d : ℕ) → free k ≡ spare j a d → ⊥
      not-spare k j a d q = absurd (cc)

  -- a step at a slot that isn't spare, and isn't then
  pub keep-turn : (s : State (Option S) (View E S)) (r : R s) (id i z x : ℕ) (me : Me (Option S) (View E S))
      (u : Segments) (heads : List (ℕ × ℕ)) (retires : List ℕ)
      → get_elem? s.views id ≡ some me.0 → me.0.weight ≡ 1 → 112 ≤ i
      → Becomes r.slots x r.segments u (word_at r.hidden) (slice_set s.words i z)
      → AreCells (word_at r.hidden) u.tail → ((q : ℕ) → u.counted q ≡ r.segments.counted q)
      → Leaves r.segments u me.0.facts.to_retire retires
      → ((j a d : ℕ) → r.segments.slots x ≡ spare j a d → ⊥)
      → R (stepped s i z id me.1 (retired me.0 u me.0.facts.spare_slots heads retires) keeps)
      × Went me.0.facts.spare_slots heads (retiring retires me.0)
      (retired me.0 u me.0.facts.spare_slots heads retires)
  keep-turn s r id i z x me u heads retires here one behind b made counts leaves no-spare =
      let l = me.0.facts.spare_slots in
      let old = r.spares.are id me.0 here in
      let absent : Has x (slots_of l) → ⊥ = λ h.
      let q = is-spare r.slots r.segments l x h old in no-spare q.0 q.1 q.2 q.3 in
      segment-turn s r id i z x me u l heads retires here one behind b made counts leaves
      (are-else r.slots r.segments u l
      (λ y h. b.others y (λ (e : y ≡ x). absent (subst (λ m. Has m (slots_of l)) e h))) old)
      (r.spares.once id me.0 here) (λ y h. inl h) (λ j a d is. absurd (no-spare j a d is))

  -- the pass's last spare, as the rule has it
  last-spare : (s : State (Option S) (View E S)) (r : R s) (id : ℕ) (v : View E S) (before : List Spare) (x : Spare)
      → get_elem? s.views id ≡ some v → v.facts.spare_slots ≡ before ++ x ∷ []
      → AreSpare r.slots r.segments before × IsSpare r.slots r.segments x × (Has x.slot (slots_of before) → ⊥)
  last-spare s r id v before x here is =
      let old = subst (AreSpare r.slots r.segments) is (r.spares.are id v here) in
      let parts = are-last r.slots r.segments before x old in (
        parts.0,
        parts.1,
        distinct-last before x (subst (λ l. IsDistinct (slots_of l)) is (r.spares.once id v here)),
      )

  -- a step at the pass's last spare, which stays spare
  spare-turn : (s : State (Option S) (View E S)) (r : R s) (id i z x a d e f : ℕ) (me : Me (Option S) (View E S))
      (u : Segments) (before : List Spare) (heads : List (ℕ × ℕ))
      → get_elem? s.views id ≡ some me.0 → me.0.weight ≡ 1 → 112 ≤ i
      → me.0.facts.spare_slots ≡ before ++ reset_slot x a d ∷ []
      → Becomes r.slots x r.segments u (word_at r.hidden) (slice_set s.words i z)
      → AreCells (word_at r.hidden) u.tail → ((q : ℕ) → u.counted q ≡ r.segments.counted q)
      → Leaves r.segments u me.0.facts.to_retire me.0.facts.to_retire
      → IsSpare r.slots u (reset_slot x e f)
      → R (stepped s i z id me.1 (went me.0 u (before ++ reset_slot x e f ∷ []) heads) keeps)
      × Went (before ++ reset_slot x e f ∷ []) heads me.0 (went me.0 u (before ++ reset_slot x e f ∷ []) heads)
  spare-turn s r id i z x a d e f me u before heads here one behind is b made counts leaves mine =
      let l = last-spare s r id me.0 before (reset_slot x a d) here is in
      let same : slots_of (before ++ reset_slot x e f ∷ []) ≡ slots_of me.0.facts.spare_slots =
      slots-append before (reset_slot x e f ∷ [])
      ∙ sym (ap slots_of is ∙ slots-append before (reset_slot x a d ∷ [])) in
      segment-turn s r id i z x me u (before ++ reset_slot x e f ∷ []) heads me.0.facts.to_retire here one behind b made
      counts leaves
      (are-append r.slots u before (reset_slot x e f ∷ [])
      (are-else r.slots r.segments u before
      (λ y h. b.others y (λ (q : y ≡ x). l.2 (subst (λ m. Has m (slots_of before)) q h))) l.0) (mine, tt))
      (subst IsDistinct (sym same) (r.spares.once id me.0 here))
      (λ y h. inl (subst (Has y) same h))
      (λ j m n _. subst (Has x) same (subst (Has x) (sym (slots-append before (reset_slot x e f ∷ [])))
      (has_right x (slots_of before) (x ∷ []) (inl refl))))

  -- and one that is none then
  spent-turn : (s : State (Option S) (View E S)) (r : R s) (id i z x a d : ℕ) (me : Me (Option S) (View E S))
      (u : Segments) (before : List Spare) (heads : List (ℕ × ℕ)) (retires : List ℕ)
      → get_elem? s.views id ≡ some me.0 → me.0.weight ≡ 1 → 112 ≤ i
      → me.0.facts.spare_slots ≡ before ++ reset_slot x a d ∷ []
      → Becomes r.slots x r.segments u (word_at r.hidden) (slice_set s.words i z)
      → AreCells (word_at r.hidden) u.tail → ((q : ℕ) → u.counted q ≡ r.segments.counted q)
      → Leaves r.segments u me.0.facts.to_retire retires
      → R (stepped s i z id me.1 (retired me.0 u before heads retires) keeps)
      × Went before heads (retiring retires me.0) (retired me.0 u before heads retires)
  spent-turn s r id i z x a d me u before heads retires here one behind is b made counts leaves =
      let l = last-spare s r id me.0 before (reset_slot x a d) here is in
      let all : slots_of me.0.facts.spare_slots ≡ slots_of before ++ x ∷ [] =
      ap slots_of is ∙ slots-append before (reset_slot x a d ∷ []) in
      segment-turn s r id i z x me u before heads retires here one behind b made counts leaves
      (are-else r.slots r.segments u before
      (λ y h. b.others y (λ (q : y ≡ x). l.2 (subst (λ m. Has m (slots_of before)) q h))) l.0)
      (distinct-left (slots_of before) (x ∷ []) (subst IsDistinct all (r.spares.once id me.0 here)))
      (λ y h. inl (subst (Has y) (sym all) (has_left y (slots_of before) (x ∷ []) h)))
      (λ j m n _. subst (Has x) (sym all) (has_right x (slots_of before) (x ∷ []) (inl refl)))

  -- the tail is loaded, and the reset of the last spare begins
  pub begins : (many id : ℕ) (me : Me (Option S) (View E S)) (before : List Spare) (x a d : ℕ) → me.0.weight ≡ 1
      → me.0.facts.spare_slots ≡ before ++ reset_slot x a d ∷ []
      → Allows R many id me tail_place (λ n. n) (λ n me'. Began before x me.0 n me'.0 × (me'.1 ≡ me.1))
  begins many id me before x a d one is s r homes here small =
      let v = me.0 in
      let t = r.segments in
      let n = slice_index s.words tail_place in
      let sp = (last-spare s r id v before (reset_slot x a d) here is).1 in
      let low = spare-low r.slots t (word_at r.hidden) s.words r.cells.shows r.cells.sound x sp.low sp.id a d sp.is in
      let u = with_slot t x (spare sp.id t.tail 1) t.outs t.lit in
      let same : slice_set s.words tail_place n ≡ s.words = set-get_or s.words tail_place 0 in
      let b = subst (Becomes r.slots x t u (word_at r.hidden)) (sym same)
      (begun r.slots t (word_at r.hidden) s.words r.cells.shows r.cells.sound x sp.low sp.id a d t.tail sp.is) in
      let new = spare-turn s r id tail_place n x a d t.tail 1 me u before [] here one (omega arith) is b r.cells.made
      (λ q. refl) (leaves-turned t u v.facts.to_retire refl refl) (record {
        low = sp.low;
        id = sp.id;
        is = changed_here t.slots x (spare sp.id t.tail 1);
        begun = λ _. low;
      }) in
      let w = went v u (before ++ reset_slot x t.tail 1 ∷ []) [] in
      let same_slots = (r.each_segment id v here).slots_are (omega arith) in
      let found = loads.tail-found r.slots t (word_at r.hidden) s.words r.cells.shows r.cells.sound w.segments refl refl
      in (
        w,
        keeps,
        tt,
        new.0,
        (
          record {
            fits = let few = r.cells.sound.few in let low = sp.low in omega arith;
            found = record {
              id = t.tail;
              slot = found.0.slot;
              word = subst (λ z. n ≡ segment_word z found.0.slot) found.1 found.0.word;
              home = subst (λ z. IsHome w.segments.homes z found.0.slot) found.1 found.0.home;
              last = subst (λ z. length w.segments.homes ≡ z + 1) found.1 found.0.last;
              stands = λ h. found.0.stands (subst (λ z. Has z w.segments.outs) (sym found.1) h);
              low = subst (λ z. found.0.slot < z) (sym same_slots) found.0.low;
              id_fits = let fits = found.0.id_fits in omega arith;
              slot_fits = found.0.slot_fits;
              inside = λ y z at. subst (λ m. z < m) (sym same_slots) (found.0.inside y z at);
            };
            went = new.1;
          },
          refl,
        ),
      )

  -- one of its cells is reset
  pub resets : (many id : ℕ) (me : Me (Option S) (View E S)) (before : List Spare) (x a j : ℕ) → me.0.weight ≡ 1
      → me.0.facts.spare_slots ≡ before ++ reset_slot x a (j + 1) ∷ [] → j < 32
      → Allows R many id me (slot_cell x j) (λ _. empty_word (32 * (a + 1) + j))
      (λ _ me'. Reset before x a (j + 1) me.0 me'.0 × (me'.1 ≡ me.1))
  resets many id me before x a j one is few s r homes here small =
      let t = r.segments in
      let sp = (last-spare s r id me.0 before (reset_slot x a (j + 1)) here is).1 in
      let low : sp.id ≤ a = sp.begun (omega arith) in
      let u = with_slot t x (spare sp.id a (j + 2)) t.outs t.lit in
      let new = spare-turn s r id (slot_cell x j) (empty_word (32 * (a + 1) + j)) x a (j + 1) a (j + 2) me u before []
      here one (omega arith) is
      (cell-reset r.slots t (word_at r.hidden) s.words r.cells.shows r.cells.sound x sp.low sp.id a j sp.is low few)
      r.cells.made (λ q. refl) (leaves-turned t u me.0.facts.to_retire refl refl) (record {
        low = sp.low;
        id = sp.id;
        is = changed_here t.slots x (spare sp.id a (j + 2));
        begun = λ _. low;
      }) in
      let next : j + 2 ≡ j + 1 + 1 = omega arith in (
        went me.0 u (before ++ reset_slot x a (j + 2) ∷ []) [],
        keeps,
        tt,
        new.0,
        (
          subst (λ z. Went (before ++ reset_slot x a z ∷ []) [] me.0
              (went me.0 u (before ++ reset_slot x a (j + 2) ∷ []) [])) next new.1,
          refl,
        ),
      )

  -- the number of its settled cells is
  pub resets-count : (many id : ℕ) (me : Me (Option S) (View E S)) (before : List Spare) (x a : ℕ) → me.0.weight ≡ 1
      → me.0.facts.spare_slots ≡ before ++ reset_slot x a 33 ∷ []
      → Allows R many id me (count_place x) (λ _. 0) (λ _ me'. Reset before x a 33 me.0 me'.0 × (me'.1 ≡ me.1))
  resets-count many id me before x a one is s r homes here small =
      let t = r.segments in
      let sp = (last-spare s r id me.0 before (reset_slot x a 33) here is).1 in
      let u = with_slot t x (spare sp.id a 34) t.outs t.lit in
      let new = spare-turn s r id (count_place x) 0 x a 33 a 34 me u before [] here one (omega arith) is
      (count-reset r.slots t (word_at r.hidden) s.words r.cells.shows r.cells.sound x sp.low sp.id a sp.is)
      r.cells.made (λ q. refl) (leaves-turned t u me.0.facts.to_retire refl refl) (record {
        low = sp.low;
        id = sp.id;
        is = changed_here t.slots x (spare sp.id a 34);
        begun = λ _. sp.begun (omega arith);
      }) in
      (went me.0 u (before ++ reset_slot x a 34 ∷ []) [], keeps, tt, new.0, (new.1, refl))

  -- the head of a segment that the pass found claimed is made live, unless that was done
  pub lights : (many id : ℕ) (me : Me (Option S) (View E S)) (x q i : ℕ) → me.0.weight ≡ 1
      → IsHome me.0.segments.homes q x → IsHome me.0.segments.kept q i → i < q
      → Allows R many id me (head_place x) (λ n. either (eqb n (head_word i 1)) (head_word q 2) n)
      (λ n me'. Lit q me.0 me'.0 × (me'.1 ≡ me.1))
  lights many id me x q i one home keeps-id lower s r homes here small =
      by-exchange s id me (head_place x) n (head_word i 1) (head_word q 2) (λ w. Lit q me.0 w)
      (λ e.
      let was = is-young r.slots t (word_at r.hidden) s.words r.cells.shows r.cells.sound x q at i lower e in
      let u = with_slot t x (live q) t.outs (q + 1) in
      let new = keep-turn s r id (head_place x) (head_word q 2) x me u [] me.0.facts.to_retire here one
      (omega arith)
      (lit r.slots t (word_at r.hidden) s.words r.cells.shows r.cells.sound x q at i was) r.cells.made (λ _. refl)
      (leaves-turned t u me.0.facts.to_retire refl refl)
      (λ j a d is. no-spare j a d (sym was ∙ is)) in
      (went me.0 u me.0.facts.spare_slots [], new.0, record { lit = omega arith; went = new.1 }))
      (λ a.
      let look = segment-look s r id (head_place x) me [] here one (omega arith) in (
        went me.0 t me.0.facts.spare_slots [],
        look.0,
        record {
          lit = loads.lit-known r.slots t (word_at r.hidden) s.words r.cells.shows r.cells.sound x q below at
              (λ j e. a ((r.cells.shows.each x below).head ∙ (ap slot_head e ∙ ap (λ z. head_word z 1)
              (one-home t.kept q j i ((r.cells.sound.each x below).young q j e).3
              (home-prefix me.0.segments.kept t.kept q i known.kept keeps-id)))));
          went = look.1;
        },
      ))
    where
      t : Segments
      t = r.segments

      n : ℕ
      n = slice_index s.words (head_place x)

      known : Knows r.segments me.0.segments
      known = (r.each_segment id me.0 here).seen

      at : IsHome r.segments.homes q x
      at = home-prefix me.0.segments.homes r.segments.homes q x (r.each_segment id me.0 here).seen.homes home

      below : x < r.slots
      below = r.cells.sound.inside q x (home-prefix me.0.segments.homes r.segments.homes q x
          (r.each_segment id me.0 here).seen.homes home)

      no-spare : (j a d : ℕ) → fresh q i ≡ spare j a d → ⊥
      no-spare j a d e = absurd (cc)

  -- the tail goes on to the pass's last spare, unless it was found to be another
  pub extends : (many id : ℕ) (me : Me (Option S) (View E S)) (before : List Spare) (x a slot : ℕ) → me.0.weight ≡ 1
      → me.0.facts.spare_slots ≡ before ++ reset_slot x a 34 ∷ [] → IsHome me.0.segments.homes a slot
      → a < me.0.segments.lit → a + 1 < 2 ^ 36
      → Allows R many id me tail_place (λ n. either (eqb n (segment_word a slot)) (segment_word (a + 1) x) n)
      (λ n me'. Extended before x a slot me.0 n me'.0 × (me'.1 ≡ me.1))
  extends many id me before x a slot one is home lit-up short s r homes here small =
      by-exchange s id me tail_place n (segment_word a slot) (segment_word (a + 1) x)
      (λ w. Extended before x a slot me.0 n w)
      (λ e.
      let f = tail-at r.slots t (word_at r.hidden) s.words r.cells.shows r.cells.sound in
      let few = r.cells.sound.few in
      let mine = r.cells.sound.inside a slot at in
      let theirs = f.3 in
      let both : segment_word a slot ≡ segment_word t.tail f.0 = sym e ∙ f.2 in
      let tail : a ≡ t.tail = omega arith in
      let most = r.cells.sound.lit_near.1 in
      let l = known.lit in
      let up : t.lit ≡ t.tail + 1 = omega arith in
      let u = with_tail t x sp.id in
      let low : sp.id ≤ t.tail = let b = sp.begun (omega arith) in omega arith in
      let b : Becomes r.slots x t u (word_at r.hidden) (slice_set s.words tail_place (segment_word (a + 1) x)) =
      subst (λ z. Becomes r.slots x t u (word_at r.hidden) (slice_set s.words tail_place (segment_word (z + 1) x)))
      (sym tail)
      (extended r.slots t (word_at r.hidden) s.words r.cells.shows r.cells.sound r.cells.made x sp.id sp.low low
      (sp.is ∙ ap (λ z. spare sp.id z 34) tail) up (omega arith)) in
      let long = r.cells.sound.made in
      let new = spent-turn s r id tail_place (segment_word (a + 1) x) x a 34 me u before []
      (me.0.facts.to_retire ++ a ∷ []) here one (omega arith) is b
      (record {
        numbered = r.cells.made.numbered;
        unmade = λ k high. r.cells.made.unmade k (omega arith);
      })
      (λ q. refl)
      (λ q all below. dite (ℕ_discrete q a)
      (λ (same : q ≡ a). inl (inr (has_right q me.0.facts.to_retire (a ∷ []) (inl same))))
      (λ (other : q ≢ a). inr (all, omega arith, λ h. inr (has_left q me.0.facts.to_retire (a ∷ []) h)))) in (
        retired me.0 u before [] (me.0.facts.to_retire ++ a ∷ []),
        new.0,
        record {
          home = λ _. get-push_at t.homes x (a + 1) (omega arith);
          last = λ _. length-append t.homes (x ∷ []) ∙ (let q : length t.homes + 1 ≡ a + 2 = omega arith in q);
          made = λ _. new.1;
          found = λ d. absurd (d e);
          missed = λ d. absurd (d e);
        },
      ))
      (λ d.
      let look = segment-look s r id tail_place me [] here one (omega arith) in
      let w = went me.0 t me.0.facts.spare_slots [] in (
        w,
        look.0,
        record {
          home = λ e. absurd (d e);
          last = λ e. absurd (d e);
          made = λ e. absurd (d e);
          found = λ _. subst (λ z. TailFound z n w.segments)
              (sym ((r.each_segment id me.0 here).slots_are (omega arith)))
              (loads.tail-found r.slots t (word_at r.hidden) s.words r.cells.shows r.cells.sound w.segments refl
              refl).0;
          missed = λ _. look.1;
        },
      ))
    where
      t : Segments
      t = r.segments

      n : ℕ
      n = slice_index s.words tail_place

      known : Knows r.segments me.0.segments
      known = (r.each_segment id me.0 here).seen

      at : IsHome r.segments.homes a slot
      at = home-prefix me.0.segments.homes r.segments.homes a slot (r.each_segment id me.0 here).seen.homes home

      sp : IsSpare r.slots r.segments (reset_slot x a 34)
      sp = (last-spare s r id me.0 before (reset_slot x a 34) here is).1

  -- The pass's last spare is given back: its head is claimed, and one less is free.
  pub gives-back : (many id : ℕ) (me : Me (Option S) (View E S)) (before : List Spare) (x a d : ℕ) → me.0.weight ≡ 1
      → me.0.facts.spare_slots ≡ before ++ reset_slot x a d ∷ []
      → Allows R many id me (head_place x) (λ n. (n + (2 ^ 64 - 1)) % 2 ^ 64)
      (λ n me'. Went before [] me.0 me'.0 × (me'.1 ≡ me.1))
  gives-back many id me before x a d one is s r homes here small =
      let t = r.segments in
      let n = slice_index s.words (head_place x) in
      let sp = (last-spare s r id me.0 before (reset_slot x a d) here is).1 in
      let claimed-head : n ≡ head_word sp.id 1 = (r.cells.shows.each x sp.low).head ∙ ap slot_head sp.is in
      let exact : (n + (2 ^ 64 - 1)) % 2 ^ 64 ≡ head_word sp.id 0 = omega arith in
      let u = with_slot t x (free sp.id) t.outs t.lit in
      let new = spent-turn s r id (head_place x) (head_word sp.id 0) x a d me u before []
      me.0.facts.to_retire here one (omega arith) is
      (given-back r.slots t (word_at r.hidden) s.words r.cells.shows r.cells.sound x sp.low sp.id a d sp.is)
      r.cells.made (λ q. refl) (leaves-turned t u me.0.facts.to_retire refl refl) in
      let w = went me.0 u before [] in (
        w,
        keeps,
        tt,
        subst (λ z. R (stepped s (head_place x) z id me.1 w keeps)) (sym exact) new.0,
        (new.1, refl),
      )

  -- a cell that the pass settled is counted
  pub counts : (many id : ℕ) (me : Me (Option S) (View E S)) (before : List ℕ) (x q : ℕ) → me.0.weight ≡ 1
      → me.0.facts.duties ≡ before ++ q ∷ [] → IsHome me.0.segments.homes q x
      → Allows R many id me (count_place x) (λ n. (n + 1) % 2 ^ 64)
      (λ n me'. CellCounted before q me.0 n me'.0 × (me'.1 ≡ me.1))
  counts many id me before x q one is home s r homes here small =
      let v = me.0 in
      let t = r.segments in
      let c = word_at r.hidden in
      let n = slice_index s.words (count_place x) in
      let known = (r.each_segment id v here).seen in
      let at : IsHome t.homes q x = home-prefix v.segments.homes t.homes q x known.homes home in
      let mine : times q v.facts.duties ≡ times q before + 1 =
      ap (times q) is ∙ (times-append q before (q ∷ []) ∙ ap (λ z. times q before + z) (times-one q q refl)) in
      let some = one_of (λ (y : View E S). times q y.facts.duties) s.views id v here in
      let few : t.counted q ≤ 31 =
      few-counted t r.settled (duties_in (λ (y : View E S). y.facts.duties) s.views) q r.counted (omega arith) in
      let found : n ≡ t.counted q = count-found r.slots t c s.words r.cells.shows r.cells.sound q x at few in
      let u = with_counted t q in
      let exact : (n + 1) % 2 ^ 64 ≡ t.counted q + 1 = omega arith in
      let later = counted-later r.slots t c s.words r.cells.shows r.cells.sound q x at few in
      let retires = too (eqb n 31) q v.facts.to_retire in
      let w : View E S = left v u v.facts.spare_slots [] before retires in (
        w,
        keeps,
        tt,
        subst (λ z. R (stepped s (count_place x) z id me.1 w keeps)) (sym exact)
            (resegment s r id (count_place x) (t.counted q + 1) me.1 v u v.facts.spare_slots [] before retires
            here one (record {
              behind = omega arith;
              shows = counted-shows r.slots t c s.words r.cells.shows r.cells.sound q x at few;
              sound = counted-sound r.slots t c s.words r.cells.shows r.cells.sound q x at few;
              later = later;
              made = r.cells.made;
              counts = λ p. dite (ℕ_discrete p q)
                  (λ (e : p ≡ q).
                  let now : u.counted p ≡ t.counted q + 1 = changed_at t.counted q (t.counted q + 1) p e in
                  let had : times p v.facts.duties ≡ times p before + 1 =
                  subst (λ z. times z v.facts.duties ≡ times z before + 1) (sym e) mine in
                  let old : t.counted p ≡ t.counted q = ap t.counted e in omega arith)
                  (λ (a : p ≢ q).
                  let now : u.counted p ≡ t.counted p = changed_else t.counted q (t.counted q + 1) p a in
                  let had : times p v.facts.duties ≡ times p before + times p (q ∷ []) =
                  ap (times p) is ∙ times-append p before (q ∷ []) in
                  let none = times-none p q a in omega arith);
              leaves = λ p all low. dite (ℕ_discrete p q)
                  (λ (e : p ≡ q).
                  let now : u.counted p ≡ t.counted q + 1 = changed_at t.counted q (t.counted q + 1) p e in
                  let last : eqb n 31 ≡ true = eq-eqb n 31 (omega arith) in
                  inl (inr (subst (λ b. Has p (too b q v.facts.to_retire)) (sym last)
                  (has_right p v.facts.to_retire (q ∷ []) (inl e)))))
                  (λ (a : p ≢ q).
                  let now : u.counted p ≡ t.counted p = changed_else t.counted q (t.counted q + 1) p a in
                  inr (omega arith, low, λ h. inr (too-has (eqb n 31) q v.facts.to_retire p h)));
              hold = spares-kept r.slots t u s.views id v w here refl (λ y. refl) r.spares;
            })),
        (
          record {
            few = omega arith;
            full = λ all. fuller-has t.full (t.counted q) q (omega arith);
            early = λ less h.
                let all = (counted-sound r.slots t c s.words r.cells.shows r.cells.sound q x at few).full_is q h in
                let now : u.counted q ≡ t.counted q + 1 = changed_here t.counted q (t.counted q + 1) in
                absurd (omega arith);
            left = λ less. subst (λ b. LeftBy [] v.facts.spare_slots before
                (retiring (too b q v.facts.to_retire) v) w) (ne_eqb n 31 (λ e. omega arith))
                (went-so s r id v u v.facts.spare_slots [] before retires here later);
            last = λ all. subst (λ b. LeftBy [] v.facts.spare_slots before
                (retiring (too b q v.facts.to_retire) v) w) (eq-eqb n 31 all)
                (went-so s r id v u v.facts.spare_slots [] before retires here later);
          },
          refl,
        ),
      )
