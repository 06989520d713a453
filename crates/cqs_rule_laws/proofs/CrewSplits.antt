-- A pass is made: the exchange on the crew's word, and the cut of the view that counts for two then.
use Rattle.std.proofs.Common.{◌≡◌, ◌≢◌, ℕ, ◌+◌, ◌-◌, ◌*◌, ◌<◌, ◌≤◌, false, List, [], ◌∷◌, ◌++◌, zero, suc, length, set, sym, refl, ap, ◌∙◌, subst, ⊎_elim, inl, inr, arith, length-set, Option, Some, None, slice_get}
use Rattle.std.specs.Prelude.{slice_index, ◌==◌}
use Rattle.std.proofs.lemmas.List.{append-nil}
use Rattle.std.proofs.lemmas.Bool.{cases_lt}
use mathlib.Core.Option.{none, some}
use mathlib.Core.Logic.{dite}
use native.Mathlib.Decide.{ℕ_discrete}
use lib.ListN.{get_elem?}
use prog.Atomic.{either}
use Rattle.atomic_table.specs.Table.{State, Me, Act, step, stepped, keeps, Valid, carried_after, Allows, Splits}
use Rattle.atomic_table.proofs.Lists.{set_else, at_longer, at_last, exchanged}
use Rattle.cqs_core.proofs.Places.{set-same}
use Rattle.cqs_rule_laws.specs.declared.view.View.{View}
use Rattle.cqs_rule_laws.specs.declared.view.Facts.{Facts}
use Rattle.cqs_rule_laws.specs.Segments.{KnowsSegments}
use Rattle.cqs_rule_laws.proofs.Spares.{spares-kept, spares-more}
use Rattle.cqs_rule_laws.proofs.ToRetire.{leave-kept, leave-more}
use Rattle.cqs_rule_laws.proofs.Duties.{counted-kept, counted-more}
use Rattle.cqs_rule_laws.specs.Hidden.{Hidden, hands_over}
use Rattle.cqs_words.specs.Crew.{crew_word}
use Rattle.cqs_rule_laws.specs.Layout.{client_words}
use Rattle.cqs_rule_laws.specs.Lists.{Has, IsPrefix}
use Rattle.cqs_rule_laws.specs.Views.{all_own, weight, grown, Tip, first_facts, made_in, live_in, crew_turn, first_has, facts_lessened, has_less, single, cut_off}
use Rattle.cqs_rule_laws.specs.Ruled.{Ruled, IsKept, Knows, Stands, cell_count}
use Rattle.cqs_rule_laws.specs.Client.{IsClient}
use Rattle.cqs_rule_laws.specs.Object.{Object, Primitive}
use Rattle.cqs_rule_laws.specs.Saw.{Saw, IsLive}
use Rattle.cqs_rule_laws.specs.declared.view.Has.{Has as OwnHas}
use Rattle.cqs_rule_laws.specs.Crew.{MayGive, tried_by}
use Rattle.cqs_rule_laws.proofs.Words.{this-word, client-below}
use Rattle.cqs_rule_laws.proofs.Lists.{set_there, one_there, set_all, total_set, total_last, two_of, has_append, has_left, has_right, at_end}
use Rattle.cqs_rule_laws.proofs.Advance.{rests-on, spent-set, stands-spares}
use Rattle.cqs_rule_laws.proofs.Shelves.{keeps-same, never-open, shelf-set, shelf-live, shelf-end}
use Rattle.cqs_rule_laws.proofs.CrewWords.{crew-of, crew-made, off, only-left, counters-stay, cells-stay, idle-stay}
use Rattle.cqs_rule_laws.proofs.CrewHeld.{handed-else, handed-from, handed-to, lessened-payload, keeps-less, live-lessened, live-before}
use Rattle.cqs_rule_laws.proofs.CrewViews.{apart-set, apart-cut, kept-set, knows-on}
use Rattle.cqs_rule_laws.proofs.CrewLooks.{looks}
use Rattle.cqs_rule_laws.specs.Given.{IsAware}
use Rattle.cqs_rule_laws.proofs.Given.{aware-single, aware-cut}

module _ {E S : Type 0} (object : Object E) (primitive : Primitive E S) (passes limit : ℕ)
    (client : IsClient object primitive) where
  abbrev R : State (Option S) (View E S) → Type 0
  R = Ruled object primitive passes limit

  -- what a pass gives of what it holds becomes that of one that is made
  gives-shown : (c : Hidden) (words : List ℕ) (log : List E) (handed : List (ℕ × S)) (from to gives : ℕ) (facts : Facts)
      → primitive.shows c words log handed → from ≢ to → Stands c from facts → Stands c to (first_facts 0)
      → MayGive primitive.opens gives facts
      → primitive.shows (hands_over c from (has_less gives facts.has) to (first_has gives)) words log handed
  gives-shown c words log handed from to zero facts shown apart mine theirs may =
      let same : set (set c.has from facts.has) to (first_has 0) ≡ c.has =
      ap (λ l. set l to (first_has 0)) (set-same c.has from facts.has mine.has)
      ∙ set-same c.has to (first_has 0) theirs.has in
      subst (λ l. primitive.shows (record {
        queue = c.queue;
        has = l;
        may_draw = c.may_draw;
        payloads = c.payloads;
      }) words log handed) (sym same) shown
  gives-shown c words log handed from to (suc g) facts shown apart mine theirs may =
      let all : 0 + suc g ≡ suc g = omega arith in
      let raised : record (first_has 0) { held = 0 + suc g } ≡ first_has (suc g) = ap (λ n. first_has n) all in
      subst (λ h. primitive.shows (hands_over c from (has_less (suc g) facts.has) to h) words log handed) raised
      (client.shares c from to (suc g) facts.has (first_has 0) words log handed shown apart
      (mine.doing ∙ ap Some (may.idle (omega arith))) theirs.doing mine.has theirs.has may.enough)

  -- the exchange that makes a pass, which gets so much of what this one holds
  pub makes : (slots id first gives : ℕ) (me : Me (Option S) (View E S)) → me.0.weight ≡ 1
      → me.0.facts.open_slot ≡ None → made_in first < passes → MayGive primitive.opens gives me.0.facts
      → Allows R slots id me 0 (λ n. either (n == first) (first + 4294967297) n)
      (tried_by object gives (step slots 0 first (first + 4294967297) none) me)
  makes slots id first gives me one shut room may s r _ here small =
      exchanged n first (first + 4294967297) Done hit miss
    where
      n : ℕ
      n = slice_index s.words 0

      v : View E S
      v = me.0

      k : Knows object r.hidden r.log r.handed r.made r.live passes limit
          (cell_count passes limit primitive.values) primitive.opening v
      k = r.each_view id v here (omega arith)

      Done : ℕ → Type 0
      Done x = (w : View E S) × (a : Act (Option S)) × Valid s.homes me.1 a × R (stepped s 0 x id me.1 w a)
          × tried_by object gives (step slots 0 first (first + 4294967297) none) me n (w, carried_after me.1 a)

      few-made : r.made < 4294967296
      few-made = let few = r.crew.few in let low = r.room.few_passes in omega arith

      crew : (live_in n ≡ r.live) × (made_in n ≡ r.made)
      crew = let more = r.crew.live_few in let few = few-made in crew-of n r.made r.live r.crew.word (omega arith)

      hit : n ≡ first → Done (first + 4294967297)
      hit e =
          let m = made_in n in
          let x = first + 4294967297 in
          let is_m : m ≡ r.made = crew.1 in
          let few = few-made in
          let more = r.crew.live_few in
          let low : r.made < passes = let f : made_in first ≡ m = ap made_in (sym e) in omega arith in
          let word : n ≡ r.made * 4294967296 + r.live = r.crew.word in
          let w : View E S = record v {
            weight = 2;
            facts = facts_lessened gives v.facts;
            seen = r.log;
            handed = r.handed;
            other = r.log;
            other_handed = r.handed;
            others = m ∷ [];
            second_number = m;
            second = first_facts gives;
            crew = n;
            made = v.made ++ m ∷ [];
            alone = false;
          } in
          let none : v.others ≡ [] = k.light (omega arith) in
          let mine : (j : ℕ) → Has j (all_own v) → Has j v.own =
          λ j h. only-left j v.own (subst (λ l. Has j (v.own ++ l)) none h) in
          let below : (j : ℕ) → Has j v.own → j < r.made = λ j h. k.below j (has_left j v.own v.others h) in
          let from = v.number in
          let gave : OwnHas = has_less gives v.facts.has in
          let got : OwnHas = first_has gives in
          let d = hands_over r.hidden from gave m got in
          let differ : from ≢ m = λ same. let b = below from k.own in omega arith in
          let new : Stands r.hidden m (first_facts 0) = r.unused m (omega arith) (omega arith) in
          let shown : primitive.shows d (client_words s.words) r.log r.handed =
          gives-shown r.hidden (client_words s.words) r.log r.handed from m gives v.facts r.shown differ k.stands new
          may in
          let knows : (p : ℕ) (has : OwnHas) → slice_get d.has p ≡ Some has → object.knows v.opening has =
          λ p has there. subst (λ z. object.knows z has) (sym k.opening_is)
          (client.slots.known d (client_words s.words) r.log r.handed p has shown there) in
          let shows_cells =
          cells-stay r.segments r.hidden r.slots s.words x r.cells in
          let base = subst (λ h. Saw object v v.facts [] (grown v v.facts h r.handed)) (append-nil r.log) told in
          let P : ℕ → View E S → Type 0 =
          λ j u. 0 < u.weight → Knows object d r.log r.handed (r.made + 1) (r.live + 1) passes limit
          (cell_count passes limit primitive.values) primitive.opening u in (
            w,
            keeps,
            tt,
            record {
              hidden = d;
              log = r.log;
              handed = r.handed;
              made = r.made + 1;
              live = r.live + 1;
              crew = record {
                word = this-word s.words 0 x (let wide = r.cells.shows.wide in omega arith) ∙ omega arith;
                some_made = omega arith;
                few = omega arith;
                live_few = omega arith;
                live_is = let t = total_set weight s.views id v w here in let l = r.crew.live_is in omega arith;
              };
              counters = counters-stay r.hidden.queue s.words x r.counters;
              cells = record {
                shows = shows_cells.shows;
                sound = shows_cells.sound;
                made = shows_cells.made;
                fits = shows_cells.fits;
                bare = shows_cells.bare;
              };
              settled = r.settled;
              finals = r.finals;
              all_settled = r.all_settled;
              suits = r.suits;
              counted = counted-kept (λ (x : View E S). x.facts.duties) r.segments r.settled s.views id v w
                  here refl r.counted;
              to_leave = leave-kept r.segments s.views id v w here refl r.to_leave;
              spares = spares-kept r.slots r.segments r.segments s.views
                  id v w here refl (λ y. refl) r.spares;
              idle_words = idle-stay s.words x r.idle_words;
              room = record {
                few_passes = r.room.few_passes;
                low_limit = r.room.low_limit;
                few_values = r.room.few_values;
                doing = r.room.doing;
                has = length-set (set r.hidden.has from gave) m got ∙ (length-set r.hidden.has from gave ∙ r.room.has);
                may_draw = r.room.may_draw;
                ground = r.room.ground;
                resumes = r.room.resumes;
              };
              door = r.door;
              shown = subst (λ l. primitive.shows d l r.log r.handed)
                  (sym (client-below s.words 0 x (omega arith)))
                  shown;
              slots = r.slots;
              segments = r.segments;
              noted = set_all (λ j u. IsPrefix u.seen r.log) s.views id w ([], sym (append-nil _))
                  (λ j u apart at. r.noted j u at);
              each_segment = set_all (λ j u. KnowsSegments r.slots r.segments u) s.views id w
                  (record {
                    seen = (r.each_segment id v here).seen;
                    slots_are = λ on. (r.each_segment id v here).slots_are (omega arith);
                    made = (r.each_segment id v here).made;
                  })
                  (λ j u apart at. r.each_segment j u at);
              each_view = set_all P s.views id w
                  (λ live. record {
                    sees = record {
                      seen = ([], sym (append-nil _));
                      other = ([], sym (append-nil _));
                      handed_in = ([], sym (append-nil _));
                      other_handed_in = ([], sym (append-nil _));
                      mine = λ j h. refl;
                      theirs = λ j h. refl;
                    };
                    below = λ j h. ⊎_elim (λ q. let b = below j q in omega arith)
                        (λ q. ⊎_elim (λ (z : j ≡ m). omega arith) (λ z. absurd z) q) (has_append j v.own (m ∷ []) h);
                    light = λ two. absurd (omega arith);
                    parted = λ j h g. let b = below j h in ⊎_elim (λ (z : j ≡ m). absurd (omega arith))
                        (λ z. absurd z) g;
                    own = k.own;
                    stands = handed-from r.hidden from m gave got v.facts differ k.stands;
                    resting = λ j h away. rests-on r.hidden d j
                        (λ f stands. handed-else r.hidden from m gave got j f away
                        (λ same. let b = below j h in omega arith) stands)
                        (k.resting j h away);
                    second = λ two. record {
                      own = inl refl;
                      stands = handed-to r.hidden from m gave got (first_facts 0) differ new;
                      resting = λ j h other. ⊎_elim (λ z. absurd (other z)) (λ z. absurd z) h;
                      payload_fits = omega arith;
                    };
                    crew = crew-made r.made r.live n more few (inr r.crew.word);
                    alone = λ t. absurd (off t);
                    limit_is = k.limit_is;
                    cells_are = k.cells_are;
                    passes_are = k.passes_are;
                    opening_is = k.opening_is;
                    payload_fits = omega (arith, k.payload_fits, lessened-payload gives v.facts.has);
                  })
                  (λ j u apart at live.
                  let p = r.each_view j u at live in
                  knows-on object r.hidden d r.log r.handed r.made r.live (r.made + 1) (r.live + 1) passes limit
                  (cell_count passes limit primitive.values) primitive.opening u
                  (omega arith)
                  (λ i f h stands. handed-else r.hidden from m gave got i f
                  (λ same. apart (r.apart j id u v i at here h
                  (subst (λ z. Has z (all_own v)) (sym same) (has_left from v.own v.others k.own))))
                  (λ same. let b = p.below i h in omega arith) stands)
                  (crew-made r.made r.live u.crew more few p.crew)
                  (λ a.
                  let was = p.alone a in
                  let two = two_of weight s.views j id u v apart at here in
                  let l = r.crew.live_is in absurd (omega arith))
                  refl p);
              apart = apart-set s.views id v w r.apart here
                  (λ j h. ⊎_elim (λ q. inl (has_left j v.own v.others q))
                  (λ q. ⊎_elim (λ (z : j ≡ m). inr (λ i u a at g. unmade i u at j g (omega arith))) (λ z. absurd z) q)
                  (has_append j v.own (m ∷ []) h));
              unnamed = λ j above. r.unnamed j (omega arith);
              unused = λ j above under. handed-else r.hidden from m gave got j (first_facts 0)
                  (λ same. let b = below from k.own in omega arith) (λ same. omega arith)
                  (r.unused j (omega arith) under);
              kept = λ j under. ⊎_elim
                  (λ (old : j < r.made). kept-set s.views id v w j here (omega arith)
                  (λ h. has_left j v.own (m ∷ []) (mine j h)) (r.kept j old))
                  (λ (new : r.made ≤ j). record {
                    place = id;
                    view = w;
                    there = set_there s.views id v w here;
                    live = omega arith;
                    has = has_right j v.own (m ∷ []) (inl (omega arith));
                  })
                  (cases_lt j r.made);
              spent = spent-set object primitive passes limit s.views id w (omega arith) r.spent;
              tip = record {
                place = id;
                view = w;
                there = set_there s.views id v w here;
                live = omega arith;
                sees = inl refl;
              };
              shelf = shelf-live primitive.opens r.handed r.live (r.live + 1) s.homes (set s.views id w)
                  (set_all (λ j u. 0 < u.weight → (i : ℕ) → u.facts.open_slot ≡ Some i → r.live ≡ 1 → ⊥) s.views id w
                  (λ _ i out single. absurd (never-open v i shut out))
                  (λ j u apart at live i out single.
                  let two = two_of weight s.views j id u v apart at here in
                  let l = r.crew.live_is in absurd (omega arith)))
                  (shelf-set primitive.opens r.handed r.live s.homes s.views id v w here (omega arith)
                  (record { live = omega arith; laid = refl; keeps = keeps-less primitive.opens gives v may }) r.shelf);
              tied = r.tied;
              aware = set_all (λ j u. 0 < u.weight
                  → IsAware object.gives primitive.opens (length s.homes) r.log u) s.views id w
                  (λ live. record { mine = λ j low o. inl refl; second = λ two j low o. refl })
                  (λ j u apart at live. r.aware j u at live);
            },
            (
              record {
                crew = refl;
                missed = λ other. absurd (other e);
                later = λ other. absurd (other e);
                made = λ z. record {
                  weight = refl;
                  number = refl;
                  facts = refl;
                  own = refl;
                  seen = refl;
                  handed = refl;
                  more = refl;
                };
                made_one = λ z. refl;
                saw = λ z. record {
                  between = base.between;
                  seen = base.seen;
                  silent = base.silent;
                  facts_are = refl;
                  same = record {
                    number = refl;
                    weight = refl;
                    own = refl;
                    crew = refl;
                    alone = refl;
                    made = refl;
                    drawn = refl;
                    limit = refl;
                    cells = refl;
                    slots = refl;
                    passes = refl;
                    opening = refl;
                    segments = base.same.segments;
                  };
                  handed = base.handed;
                  unlaid = base.unlaid;
                  sole = base.sole;
                };
                unnamed = λ z. r.unnamed m (omega arith);
                known = λ z. knows m got (handed-to r.hidden from m gave got (first_facts 0) differ new).has;
              },
              refl,
              live-before object v w (live-lessened object (grown v v.facts r.log r.handed) gives
                  (knows from gave (handed-from r.hidden from m gave got v.facts differ k.stands).has)
                  (subst (λ h. IsLive object (grown v v.facts h r.handed)) (append-nil r.log) alive)),
            ),
          )
        where
          told : Saw object v v.facts [] (grown v v.facts (r.log ++ []) r.handed)
          told = (looks object primitive passes limit client s r id me false v.drawn here one (λ t. absurd (off t))
              (λ t. absurd (off t))).1

          alive : IsLive object (grown v v.facts (r.log ++ []) r.handed)
          alive = (looks object primitive passes limit client s r id me false v.drawn here one (λ t. absurd (off t))
              (λ t. absurd (off t))).2

          -- no other view has a number that isn't made
          unmade : (i : ℕ) (u : View E S) → get_elem? s.views i ≡ some u → (j : ℕ) → Has j (all_own u) → r.made ≤ j → ⊥
          unmade i u at j g above = ⊎_elim
              (λ (live : 0 < u.weight). let b = (r.each_view i u at live).below j g in omega arith)
              (λ (none : u.weight ≤ 0). (r.spent i u at (omega arith)).numberless j g)
              (cases_lt 0 u.weight)

      miss : n ≢ first → Done n
      miss other =
          let t = looks object primitive passes limit client s r id me v.alone v.drawn here one (λ a. (k.alone a).0)
          (λ a. (k.alone a).4) in
          let live : live_in n ≡ r.live = crew.0 in
          let made : made_in n ≡ r.made = crew.1 in (
            record (grown v v.facts (r.log ++ []) r.handed) { crew = n },
            keeps,
            tt,
            t.0,
            (
              record {
                crew = refl;
                missed = λ z. record { weight = one; alone = refl; made_none = refl; saw = t.1 };
                later = λ z e. ⊎_elim
                    (λ (h : crew_turn v.crew < 2 * r.made - r.live).
                    let g : crew_turn n ≡ 2 * r.made - r.live = (λ j. 2 * made j - live j) in
                    subst (λ z. crew_turn z < crew_turn n) e (omega arith))
                    (λ (h : v.crew ≡ r.made * 4294967296 + r.live). absurd (other (r.crew.word ∙ (sym h ∙ e))))
                    k.crew;
                made = λ z. absurd (other z);
                made_one = λ z. absurd (other z);
                saw = λ z. absurd (other z);
                unnamed = λ z. absurd (other z);
                known = λ z. absurd (other z);
              },
              refl,
              live-before object v (record (grown v v.facts (r.log ++ []) r.handed) { crew = n }) t.2,
            ),
          )

  -- the same by the number that the pass writes
  pub makes-to : (slots id first new gives : ℕ) (me : Me (Option S) (View E S)) → me.0.weight ≡ 1
      → me.0.facts.open_slot ≡ None → made_in first < passes → new ≡ first + crew_word 1 1
      → MayGive primitive.opens gives me.0.facts
      → Allows R slots id me 0 (λ n. either (n == first) new n)
      (tried_by object gives (step slots 0 first new none) me)
  makes-to slots id first new gives me one shut room is may = subst
      (λ z. Allows R slots id me 0 (λ n. either (n == first) z n)
      (tried_by object gives (step slots 0 first z none) me))
      (sym is) (makes slots id first gives me one shut room may)

  -- the view of a pass that counts for two is cut in two
  pub splits : (id : ℕ) (v : View E S) → v.weight ≡ 2 → v.second.open_slot ≡ None → v.other ≡ v.seen
      → Splits R id v (single v) (cut_off v)
  splits id v two shut level s r here =
      let k = r.each_view id v here (omega arith) in
      let second = k.second (omega arith) in
      let left = single v in
      let right = cut_off v in
      let views : List (View E S) = set s.views id left in
      let t = total_set weight s.views id v left here in
      let t' = total_last weight views right in
      let l = r.crew.live_is in
      let P : ℕ → View E S → Type 0 =
      λ j u. 0 < u.weight → Knows object r.hidden r.log r.handed r.made r.live passes limit
      (cell_count passes limit primitive.values) primitive.opening u in
      record {
        hidden = r.hidden;
        log = r.log;
        handed = r.handed;
        made = r.made;
        live = r.live;
        crew = record {
          word = r.crew.word;
          some_made = r.crew.some_made;
          few = r.crew.few;
          live_few = r.crew.live_few;
          live_is = omega arith;
        };
        counters = r.counters;
        cells = r.cells;
        settled = r.settled;
        finals = r.finals;
        all_settled = r.all_settled;
        suits = r.suits;
        counted = counted-more (λ (x : View E S). x.facts.duties) r.segments r.settled views right refl
            (counted-kept (λ (x : View E S). x.facts.duties) r.segments r.settled s.views id v left here refl
            r.counted);
        to_leave = leave-more r.segments views (right ∷ [])
            (leave-kept r.segments s.views id v left here refl r.to_leave);
        spares = spares-more r.slots r.segments views right refl
            (spares-kept r.slots r.segments r.segments s.views id v left
            here refl (λ y. refl) r.spares);
        idle_words = r.idle_words;
        room = r.room;
        door = r.door;
        shown = r.shown;
        slots = r.slots;
        segments = r.segments;
        noted = λ j u e. ⊎_elim
            (λ q. set_all (λ i y. IsPrefix y.seen r.log) s.views id left k.sees.seen
            (λ i y apart at. r.noted i y at) j u q)
            (λ (q : (j ≡ length views) × (right ≡ u)). subst (λ (y : View E S). IsPrefix y.seen r.log) q.1 k.sees.other)
            (at_end views right u j e);
        each_segment = λ j u e. ⊎_elim
            (λ q. set_all (λ i y. KnowsSegments r.slots r.segments y) s.views id left
            (record {
              seen = (r.each_segment id v here).seen;
              slots_are = λ on. (r.each_segment id v here).slots_are (omega arith);
              made = (r.each_segment id v here).made;
            })
            (λ i y apart at. r.each_segment i y at) j u q)
            (λ (q : (j ≡ length views) × (right ≡ u)). subst (λ y. KnowsSegments r.slots r.segments y) q.1
            (record {
              seen = (r.each_segment id v here).seen;
              slots_are = λ on. (r.each_segment id v here).slots_are (omega arith);
              made = (r.each_segment id v here).made;
            }))
            (at_end views right u j e);
        each_view = λ j u e live. ⊎_elim
            (λ q. set_all P s.views id left
            (λ on. record {
              sees = record {
                seen = k.sees.seen;
                other = (r.log, refl);
                handed_in = k.sees.handed_in;
                other_handed_in = (r.handed, refl);
                mine = k.sees.mine;
                theirs = λ n h. absurd h;
              };
              below = λ n h. k.below n (has_left n v.own v.others (only-left n v.own h));
              light = λ z. refl;
              parted = λ n h g. g;
              own = k.own;
              stands = k.stands;
              resting = k.resting;
              second = λ z. absurd (omega arith);
              crew = k.crew;
              alone = λ z. absurd (off z);
              limit_is = k.limit_is;
              cells_are = k.cells_are;
              passes_are = k.passes_are;
              opening_is = k.opening_is;
              payload_fits = k.payload_fits;
            })
            (λ i y apart at on. r.each_view i y at on) j u q live)
            (λ (q : (j ≡ length views) × (right ≡ u)). subst (P j) q.1
            (λ on. record {
              sees = record {
                seen = k.sees.other;
                other = (r.log, refl);
                handed_in = k.sees.other_handed_in;
                other_handed_in = (r.handed, refl);
                mine = k.sees.theirs;
                theirs = λ n h. absurd h;
              };
              below = λ n h. k.below n (has_right n v.own v.others (only-left n v.others h));
              light = λ z. refl;
              parted = λ n h g. g;
              own = second.own;
              stands = stands-spares r.hidden v.second_number v.second [] [] [] second.stands;
              resting = second.resting;
              second = λ z. absurd (omega arith);
              crew = k.crew;
              alone = λ z. absurd (off z);
              limit_is = k.limit_is;
              cells_are = k.cells_are;
              passes_are = k.passes_are;
              opening_is = k.opening_is;
              payload_fits = second.payload_fits;
            }) live)
            (at_end views right u j e);
        apart = apart-cut s.views id v left right r.apart here (λ n h. only-left n v.own h)
            (λ n h. only-left n v.others h) k.parted;
        unnamed = r.unnamed;
        unused = r.unused;
        kept = λ n low. kept-cut n (r.kept n low);
        tip = tip-cut r.tip;
        shelf = shelf-end primitive.opens r.handed r.live s.homes views right refl shut
            (shelf-set primitive.opens r.handed r.live s.homes s.views id v left here (omega arith)
            (record { live = omega arith; laid = refl; keeps = keeps-same primitive.opens v }) r.shelf);
        tied = r.tied;
        aware = λ j u e live. ⊎_elim
            (λ q. set_all (λ i y. 0 < y.weight
            → IsAware object.gives primitive.opens (length s.homes) r.log y) s.views id left
            (λ on. aware-single object.gives primitive.opens (length s.homes) r.log v level
            (r.aware id v here (omega arith)))
            (λ i y apart at on. r.aware i y at on) j u q live)
            (λ (q : (j ≡ length views) × (right ≡ u)).
            subst (IsAware object.gives primitive.opens (length s.homes) r.log) q.1
            (aware-cut object.gives primitive.opens (length s.homes) r.log v (omega arith)
            (r.aware id v here (omega arith))))
            (at_end views right u j e);
        spent = λ j u e none. ⊎_elim
            (λ q. spent-set object primitive passes limit s.views id left (omega arith) r.spent j u q none)
            (λ (q : (j ≡ length views) × (right ≡ u)). let w : right.weight ≡ u.weight =
            ap (λ (x : View E S). x.weight) q.1 in
            absurd (omega arith))
            (at_end views right u j e);
      }
    where
      is-view : (j : ℕ) (u : View E S) → get_elem? s.views j ≡ some u → j ≡ id → u ≡ v
      is-view j u there at = one_there s.views id u v (subst (λ i. get_elem? s.views i ≡ some u) at there) here

      kept-cut : (n : ℕ) → IsKept s.views n → IsKept (set s.views id (single v) ++ cut_off v ∷ []) n
      kept-cut n old = dite (ℕ_discrete old.place id)
          (λ (at : old.place ≡ id). ⊎_elim
          (λ (h : Has n v.own). record {
            place = id;
            view = single v;
            there = at_longer (set s.views id (single v)) (cut_off v ∷ []) id (single v)
                (set_there s.views id v (single v) here);
            live = omega arith;
            has = has_left n v.own [] h;
          })
          (λ (h : Has n v.others). record {
            place = length (set s.views id (single v));
            view = cut_off v;
            there = at_last (set s.views id (single v)) (cut_off v) (length (set s.views id (single v))) refl;
            live = omega arith;
            has = has_left n v.others [] h;
          })
          (has_append n v.own v.others
          (subst (λ (x : View E S). Has n (all_own x)) (is-view old.place old.view old.there at) old.has)))
          (λ (apart : old.place ≢ id). record {
            place = old.place;
            view = old.view;
            there = at_longer (set s.views id (single v)) (cut_off v ∷ []) old.place old.view
                (set_else s.views id old.place (single v) apart ∙ old.there);
            live = old.live;
            has = old.has;
          })

      tip-cut : Tip r.log s.views → Tip r.log (set s.views id (single v) ++ cut_off v ∷ [])
      tip-cut old = dite (ℕ_discrete old.place id)
          (λ (at : old.place ≡ id).
          let is : old.view ≡ v = is-view old.place old.view old.there at in ⊎_elim
          (λ q. record {
            place = id;
            view = single v;
            there = at_longer (set s.views id (single v)) (cut_off v ∷ []) id (single v)
                (set_there s.views id v (single v) here);
            live = omega arith;
            sees = inl (ap (λ (x : View E S). x.seen) (sym is) ∙ q);
          })
          (λ q. record {
            place = length (set s.views id (single v));
            view = cut_off v;
            there = at_last (set s.views id (single v)) (cut_off v) (length (set s.views id (single v))) refl;
            live = omega arith;
            sees = inl (ap (λ (x : View E S). x.other) (sym is) ∙ q.1);
          })
          old.sees)
          (λ (apart : old.place ≢ id). record {
            place = old.place;
            view = old.view;
            there = at_longer (set s.views id (single v)) (cut_off v ∷ []) old.place old.view
                (set_else s.views id old.place (single v) apart ∙ old.there);
            live = old.live;
            sees = old.sees;
          })
