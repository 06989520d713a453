-- A pass is met away: the join of two views, and the step on the crew's word that counts one of them out.
use Rattle.std.proofs.Common.{◌≡◌, ◌≢◌, ℕ, ◌+◌, ◌-◌, ◌*◌, ◌%◌, ◌^◌, ◌<◌, ◌≤◌, List, [], ◌++◌, set, sym, refl, ap, ◌∙◌, subst, ⊎_elim, inl, inr, arith, length-set, Option, Some, None, length}
use Rattle.std.specs.Prelude.{slice_index}
use Rattle.std.proofs.lemmas.List.{append-nil}
use mathlib.Core.Option.{none, some}
use mathlib.Core.Logic.{dite}
use native.Mathlib.Decide.{ℕ_discrete}
use lib.ListN.{get_elem?}
use Rattle.atomic_table.specs.Table.{State, Me, step, keeps, Allows, Joins}
use Rattle.atomic_table.proofs.Lists.{at_set, set_else}
use Rattle.cqs_core.specs.declared.doings.Doing.TheVariants as doing
use Rattle.cqs_slots.proofs.Loads.{sees-same}
use Rattle.cqs_rule_laws.specs.declared.view.View.{View}
use Rattle.cqs_rule_laws.specs.declared.view.Facts.{Facts}
use Rattle.cqs_rule_laws.specs.Segments.{KnowsSegments}
use Rattle.cqs_rule_laws.proofs.Segments.{knows-nothing}
use Rattle.cqs_rule_laws.proofs.Spares.{spares-kept, spares-joined}
use Rattle.cqs_rule_laws.proofs.ToRetire.{leave-kept, leave-joined}
use Rattle.cqs_rule_laws.proofs.Duties.{counted-kept, counted-joined}
use Rattle.cqs_rule_laws.specs.Hidden.{hands_over}
use Rattle.cqs_rule_laws.specs.Layout.{client_words}
use Rattle.cqs_rule_laws.specs.Lists.{Has, IsPrefix}
use Rattle.cqs_rule_laws.specs.Views.{all_own, weight, IsSpent, Tip, first_facts, single, joined, spent, has_both, has_none}
use Rattle.cqs_rule_laws.specs.Ruled.{Ruled, IsKept, Knows, Stands, cell_count}
use Rattle.cqs_rule_laws.specs.Client.{IsClient}
use Rattle.cqs_rule_laws.specs.Object.{Object, Primitive}
use Rattle.cqs_rule_laws.specs.declared.view.Has.{Has as OwnHas}
use Rattle.cqs_rule_laws.specs.Crew.{met_by}
use Rattle.cqs_rule_laws.proofs.Words.{this-word, client-below}
use Rattle.cqs_rule_laws.proofs.Lines.{waits-short}
use Rattle.cqs_rule_laws.proofs.Lists.{set_there, one_there, set_all, total_set, one_of, two_of, has_append, has_left, has_right}
use Rattle.cqs_rule_laws.proofs.Advance.{rests-on, stands-spares, spent-set, is-inside}
use Rattle.cqs_rule_laws.proofs.Shelves.{keeps-same, shelf-set, shelf-live, shelf-joined}
use Rattle.cqs_rule_laws.proofs.Tells.{inside-of}
use Rattle.cqs_rule_laws.proofs.CrewWords.{crew-met, off, only-left, counters-stay, cells-stay, idle-stay}
use Rattle.cqs_rule_laws.proofs.CrewHeld.{handed-else, handed-from, handed-to}
use Rattle.cqs_rule_laws.proofs.CrewViews.{apart-set, apart-joined, kept-set, knows-on}
use Rattle.cqs_rule_laws.specs.Given.{IsAware}
use Rattle.cqs_rule_laws.proofs.Given.{aware-joined, aware-whole}

module _ {E S : Type 0} (object : Object E) (primitive : Primitive E S) (passes limit : ℕ)
    (client : IsClient object primitive) where
  abbrev R : State (Option S) (View E S) → Type 0
  R = Ruled object primitive passes limit

  -- the view of an idle pass takes in that of another idle one, and gets what it holds
  pub joins : (id other : ℕ) (v u : View E S) → v.weight ≡ 1 → u.weight ≡ 1 → v.facts.doing ≡ doing.Idle
      → u.facts.doing ≡ doing.Idle → v.facts.open_slot ≡ None → u.facts.open_slot ≡ None
      → Joins R id v other u (joined v u) spent
  joins id other v u one one' idle idle' shut bare s r here apart there =
      let w = joined v u in
      let mid : List (View E S) = set s.views id w in
      let k = r.each_view id v here (omega arith) in
      let p = r.each_view other u at-other (omega arith) in
      let none_v : v.others ≡ [] = k.light (omega arith) in
      let none_u : u.others ≡ [] = p.light (omega arith) in
      let t = total_set weight s.views id v w here in
      let t' = total_set weight mid other u spent there in
      let l = r.crew.live_is in
      let from = u.number in
      let to = v.number in
      let gave : OwnHas = has_none u.facts.has in
      let got : OwnHas = has_both v.facts.has u.facts.has in
      let d = hands_over r.hidden from gave to got in
      let mine : Has to (all_own v) = has_left to v.own v.others k.own in
      let its : Has from (all_own u) = has_left from u.own u.others p.own in
      let differ : from ≢ to =
      λ same. apart (r.apart other id u v from at-other here its (subst (λ z. Has z (all_own v)) (sym same) mine)) in
      let else-stands : (j : ℕ) (x : View E S) → j ≢ id → j ≢ other → get_elem? s.views j ≡ some x
      → (n : ℕ) (f : Facts) → Has n (all_own x) → Stands r.hidden n f → Stands d n f =
      λ j x a b e n f h stands. handed-else r.hidden from to gave got n f
      (λ same. b (r.apart j other x u n e at-other h (subst (λ z. Has z (all_own u)) (sym same) its)))
      (λ same. a (r.apart j id x v n e here h (subst (λ z. Has z (all_own v)) (sym same) mine))) stands in
      let Aware : ℕ → View E S → Type 0 =
      λ j x. 0 < x.weight → IsAware object.gives primitive.opens (length s.homes) r.log x in
      let P : ℕ → View E S → Type 0 =
      λ j x. 0 < x.weight → Knows object d r.log r.handed r.made r.live passes limit
      (cell_count passes limit primitive.values) primitive.opening x in
      record {
        hidden = d;
        log = r.log;
        handed = r.handed;
        made = r.made;
        live = r.live;
        crew = record {
          word = r.crew.word;
          some_made = r.crew.some_made;
          few = r.crew.few;
          live_few = r.crew.live_few;
          live_is = omega arith;
        };
        counters = record { suspends = r.counters.suspends; resumes = r.counters.resumes };
        cells = record {
          shows = r.cells.shows;
          sound = r.cells.sound;
          made = r.cells.made;
          fits = r.cells.fits;
          bare = r.cells.bare;
        };
        settled = r.settled;
        finals = r.finals;
        all_settled = r.all_settled;
        suits = r.suits;
        counted = counted-joined (λ (x : View E S). x.facts.duties) r.segments r.settled s.views id other v u w spent
            here
            at-other (λ e. apart (sym e)) refl refl r.counted;
        to_leave = leave-joined r.segments s.views id other v u w spent here at-other (λ e. apart (sym e)) refl
            r.to_leave;
        spares = spares-joined r.slots r.segments s.views id other v u w
            spent here at-other (λ e. apart (sym e)) refl refl r.spares;
        idle_words = r.idle_words;
        room = record {
          few_passes = r.room.few_passes;
          low_limit = r.room.low_limit;
          few_values = r.room.few_values;
          doing = r.room.doing;
          has = length-set (set r.hidden.has from gave) to got ∙ (length-set r.hidden.has from gave ∙ r.room.has);
          may_draw = r.room.may_draw;
          ground = r.room.ground;
          resumes = r.room.resumes;
        };
        door = r.door;
        shown = client.hands r.hidden from to u.facts.has v.facts.has
            (client_words s.words) r.log r.handed r.shown differ
            (p.stands.doing ∙ ap Some idle') (k.stands.doing ∙ ap Some idle) p.stands.has k.stands.has;
        slots = r.slots;
        segments = r.segments;
        noted = set_all (λ j x. IsPrefix x.seen r.log) mid other spent (r.log, refl)
            (λ j x b e. set_all (λ i y. IsPrefix y.seen r.log) s.views id w (r.noted id v here)
            (λ i y a at. r.noted i y at) j x e);
        each_segment = set_all (λ j x. KnowsSegments r.slots r.segments x) mid other spent
            (record {
              seen = knows-nothing r.segments;
              slots_are = λ on. absurd (omega arith);
              made = λ _. omega arith;
            })
            (λ j x b e. set_all (λ i y. KnowsSegments r.slots r.segments y) s.views id w
            (record {
              seen = (r.each_segment id v here).seen;
              slots_are = λ on. (r.each_segment id v here).slots_are (omega arith);
              made = (r.each_segment id v here).made;
            })
            (λ i y a at. r.each_segment i y at) j x e);
        each_view = set_all P mid other spent (λ live. absurd (omega arith))
            (λ j x b e. set_all (λ i y. i ≢ other → P i y) s.views id w
            (λ not live. record {
              sees = record {
                seen = k.sees.seen;
                other = p.sees.seen;
                handed_in = k.sees.handed_in;
                other_handed_in = p.sees.handed_in;
                mine = k.sees.mine;
                theirs = p.sees.mine;
              };
              below = λ n h. ⊎_elim (λ q. k.below n (has_left n v.own v.others q))
                  (λ q. p.below n (has_left n u.own u.others q))
                  (has_append n v.own u.own h);
              light = λ z. absurd (omega arith);
              parted = λ n h g.
                  apart (r.apart other id u v n at-other here (has_left n u.own u.others g)
                  (has_left n v.own v.others h));
              own = k.own;
              stands = stands-spares d to (record v.facts { has = got }) w.facts.spare_slots w.facts.duties
                  w.facts.to_retire
                  (handed-to r.hidden from to gave got v.facts differ k.stands);
              resting = λ n h away. rests-on r.hidden d n
                  (λ f stands. handed-else r.hidden from to gave got n f
                  (λ same. apart (r.apart other id u v n at-other here (subst (λ z. Has z (all_own u)) (sym same) its)
                  (has_left n v.own v.others h)))
                  away stands)
                  (k.resting n h away);
              second = λ z. record {
                own = p.own;
                stands = handed-from r.hidden from to gave got u.facts differ p.stands;
                resting = λ n h away. rests-on r.hidden d n
                    (λ f stands. handed-else r.hidden from to gave got n f away
                    (λ same. apart (r.apart other id u v n at-other here (has_left n u.own u.others h)
                    (subst (λ z. Has z (all_own v)) (sym same) mine)))
                    stands)
                    (p.resting n h away);
                payload_fits = p.payload_fits;
              };
              crew = k.crew;
              alone = λ z. absurd (off z);
              limit_is = k.limit_is;
              cells_are = k.cells_are;
              passes_are = k.passes_are;
              opening_is = k.opening_is;
              payload_fits = k.payload_fits;
            })
            (λ i y a at not live. knows-on object r.hidden d r.log r.handed r.made r.live r.made r.live passes limit
            (cell_count passes limit primitive.values) primitive.opening y
            (omega arith) (else-stands i y a not at) (r.each_view i y at live).crew (λ z. refl) refl
            (r.each_view i y at live))
            j x e b);
        apart = apart-joined s.views id other v u w r.apart here at-other apart refl refl;
        spent = set_all (λ j x. x.weight ≡ 0 → IsSpent x) mid other spent
            (λ z. record { numberless = λ n h. h; dutiless = refl; retireless = refl })
            (λ j x b e. spent-set object primitive passes limit s.views id w (omega arith) r.spent j x e);
        unnamed = r.unnamed;
        unused = λ n above low. handed-else r.hidden from to gave got n (first_facts 0)
            (λ same. let b = p.below from its in omega arith) (λ same. let b = k.below to mine in omega arith)
            (r.unused n above low);
        kept = λ n low. kept-joined n none_u none_v (r.kept n low);
        tip = tip-joined r.tip;
        shelf = shelf-joined primitive.opens r.handed r.live s.homes s.views id other v u w spent here at-other apart
            (omega arith) (omega arith) (omega arith) refl refl shut bare shut
            (λ j o. client.slots.gathers v.facts.has u.facts.has j o) r.shelf;
        tied = r.tied;
        aware = λ j x e live. set_all Aware mid other spent (λ z. absurd (omega arith))
            (λ i y apart at on. set_all Aware s.views id w
            (λ z. aware-joined object.gives primitive.opens (length s.homes) r.log v u (omega arith) (omega arith)
            (λ m o. client.slots.gathered v.facts.has u.facts.has m o)
            (λ m o. client.slots.bare u.facts.has m o)
            (r.aware id v here (omega arith)) (r.aware other u at-other (omega arith)))
            (λ m x differs there z. r.aware m x there z) i y at on) j x e live;
      }
    where
      at-other : get_elem? s.views other ≡ some u
      at-other = ⊎_elim (λ (t : (other ≡ id) × (joined v u ≡ u)). absurd (apart t.0)) (λ t. t.1)
          (at_set s.views id other (joined v u) u there)

      stays : get_elem? (set (set s.views id (joined v u)) other spent) id ≡ some (joined v u)
      stays = set_else (set s.views id (joined v u)) other id spent (λ e. apart (sym e))
          ∙ set_there s.views id v (joined v u) here

      else-there : (j : ℕ) (x : View E S) → j ≢ id → j ≢ other → get_elem? s.views j ≡ some x
          → get_elem? (set (set s.views id (joined v u)) other spent) j ≡ some x
      else-there j x a b e =
          set_else (set s.views id (joined v u)) other j spent b ∙ (set_else s.views id j (joined v u) a ∙ e)

      is-view : (i j : ℕ) (x y : View E S) → get_elem? s.views j ≡ some x → j ≡ i → get_elem? s.views i ≡ some y → x ≡ y
      is-view i j x y e at e' = one_there s.views i x y (subst (λ m. get_elem? s.views m ≡ some x) at e) e'

      kept-joined : (n : ℕ) → u.others ≡ [] → v.others ≡ [] → IsKept s.views n
          → IsKept (set (set s.views id (joined v u)) other spent) n
      kept-joined n bare bare' old = dite (ℕ_discrete old.place id)
          (λ (at : old.place ≡ id). record {
            place = id;
            view = joined v u;
            there = stays;
            live = omega arith;
            has = has_left n v.own u.own (only-left n v.own (subst (λ l. Has n (v.own ++ l)) bare'
                (subst (λ (x : View E S). Has n (all_own x))
                (is-view id old.place old.view v old.there at here) old.has)));
          })
          (λ (a : old.place ≢ id). dite (ℕ_discrete old.place other)
          (λ (at : old.place ≡ other). record {
            place = id;
            view = joined v u;
            there = stays;
            live = omega arith;
            has = has_right n v.own u.own (only-left n u.own (subst (λ l. Has n (u.own ++ l)) bare
                (subst (λ (x : View E S). Has n (all_own x))
                (is-view other old.place old.view u old.there at at-other) old.has)));
          })
          (λ (b : old.place ≢ other). record {
            place = old.place;
            view = old.view;
            there = else-there old.place old.view a b old.there;
            live = old.live;
            has = old.has;
          }))

      tip-joined : Tip r.log s.views → Tip r.log (set (set s.views id (joined v u)) other spent)
      tip-joined old = dite (ℕ_discrete old.place id)
          (λ (at : old.place ≡ id).
          let is : old.view ≡ v = is-view id old.place old.view v old.there at here in
          let w : old.view.weight ≡ v.weight = ap (λ (x : View E S). x.weight) is in record {
            place = id;
            view = joined v u;
            there = stays;
            live = omega arith;
            sees = ⊎_elim (λ q. inl (ap (λ (x : View E S). x.seen) (sym is) ∙ q))
                (λ q. let two : old.view.weight ≡ 2 = q.0 in absurd (omega arith)) old.sees;
          })
          (λ (a : old.place ≢ id). dite (ℕ_discrete old.place other)
          (λ (at : old.place ≡ other).
          let is : old.view ≡ u = is-view other old.place old.view u old.there at at-other in
          let w : old.view.weight ≡ u.weight = ap (λ (x : View E S). x.weight) is in record {
            place = id;
            view = joined v u;
            there = stays;
            live = omega arith;
            sees = ⊎_elim (λ q. inr (refl, ap (λ (x : View E S). x.seen) (sym is) ∙ q))
                (λ q. let two : old.view.weight ≡ 2 = q.0 in absurd (omega arith)) old.sees;
          })
          (λ (b : old.place ≢ other). record {
            place = old.place;
            view = old.view;
            there = else-there old.place old.view a b old.there;
            live = old.live;
            sees = old.sees;
          }))

  -- the step on the crew's word for a pass that was joined away, which is idle, holds nothing, and has no wait
  pub meets : (slots id : ℕ) (me : Me (Option S) (View E S)) → me.0.weight ≡ 2 → me.0.second.doing ≡ doing.Idle
      → me.0.second.has.held ≡ 0 → me.0.second.has.further ≡ 0 → me.0.second.has.slots ≡ [] → me.0.second.waits ≡ []
      → Allows R slots id me 0 (λ n. (n + (2 ^ 64 - 1)) % 2 ^ 64) (met_by object (step slots 0 1 0 none) me)
  meets slots id me two idle empty owes_none slotless waitless s r _ here small =
      let v = me.0 in
      let k = r.each_view id v here (omega arith) in
      let second = k.second (omega arith) in
      let n = slice_index s.words 0 in
      let x = (n + (2 ^ 64 - 1)) % 2 ^ 64 in
      let w : View E S = record (single v) { crew = n; seen = r.log; handed = r.handed; own = v.own ++ v.others } in
      let few = r.crew.few in
      let low = r.room.few_passes in
      let more = r.crew.live_few in
      let word : n ≡ r.made * 4294967296 + r.live = r.crew.word in
      let l = r.crew.live_is in
      let some_live = one_of weight s.views id v here in
      let few-made : r.made < 4294967296 = omega arith in
      let P : ℕ → View E S → Type 0 =
      λ j u. 0 < u.weight → Knows object r.hidden r.log r.handed r.made (r.live - 1) passes limit
      (cell_count passes limit primitive.values) primitive.opening u in (
        w,
        keeps,
        tt,
        record {
          hidden = r.hidden;
          log = r.log;
          handed = r.handed;
          made = r.made;
          live = r.live - 1;
          crew = record {
            word = this-word s.words 0 x (let wide = r.cells.shows.wide in omega arith) ∙ omega arith;
            some_made = r.crew.some_made;
            few = r.crew.few;
            live_few = omega arith;
            live_is = let t = total_set weight s.views id v w here in omega arith;
          };
          counters = counters-stay r.hidden.queue s.words x r.counters;
          cells = cells-stay r.segments r.hidden r.slots s.words x r.cells;
          settled = r.settled;
          finals = r.finals;
          all_settled = r.all_settled;
          suits = r.suits;
          counted = counted-kept (λ (x : View E S). x.facts.duties) r.segments r.settled s.views id v w here refl
              r.counted;
          to_leave = leave-kept r.segments s.views id v w here refl r.to_leave;
          spares = spares-kept r.slots r.segments r.segments s.views id v
              w here refl (λ y. refl) r.spares;
          idle_words = idle-stay s.words x r.idle_words;
          room = r.room;
          door = r.door;
          shown = subst (λ l. primitive.shows r.hidden l r.log r.handed)
              (sym (client-below s.words 0 x (omega arith))) r.shown;
          slots = r.slots;
          segments = r.segments;
          noted = set_all (λ j u. IsPrefix u.seen r.log) s.views id w ([], sym (append-nil _))
              (λ j u apart at. r.noted j u at);
          each_segment = set_all (λ j u. KnowsSegments r.slots r.segments u) s.views id w
              (record {
                seen = (r.each_segment id v here).seen;
                slots_are = λ on. (r.each_segment id v here).slots_are (omega arith);
                made = (r.each_segment id v here).made;
              })
              (λ j u apart at. r.each_segment j u at);
          each_view = set_all P s.views id w
              (λ live. record {
                sees = record {
                  seen = ([], sym (append-nil _));
                  other = (r.log, refl);
                  handed_in = ([], sym (append-nil _));
                  other_handed_in = (r.handed, refl);
                  mine = λ j h. refl;
                  theirs = λ j h. absurd h;
                };
                below = λ j h. k.below j (only-left j (v.own ++ v.others) h);
                light = λ z. refl;
                parted = λ j h g. g;
                own = has_left v.number v.own v.others k.own;
                stands = k.stands;
                resting = λ j h away. ⊎_elim (λ q. k.resting j q away)
                    (λ q. dite (ℕ_discrete j v.second_number)
                    (λ same. record {
                      facts = v.second;
                      stands = subst (λ z. Stands r.hidden z v.second) (sym same) second.stands;
                      idle = idle;
                      empty = empty;
                      owes_none = owes_none;
                      slotless = slotless;
                      waitless = waitless;
                    })
                    (λ a. second.resting j q a))
                    (has_append j v.own v.others h);
                second = λ z. absurd (omega arith);
                crew = crew-met r.made r.live n more few-made (omega arith) (inr r.crew.word);
                alone = λ z. absurd (off z);
                limit_is = k.limit_is;
                cells_are = k.cells_are;
                passes_are = k.passes_are;
                opening_is = k.opening_is;
                payload_fits = k.payload_fits;
              })
              (λ j u apart at live.
              let p = r.each_view j u at live in
              knows-on object r.hidden r.hidden r.log r.handed r.made r.live r.made (r.live - 1) passes limit
              (cell_count passes limit primitive.values) primitive.opening u
              (omega arith) (λ i f h stands. stands) (crew-met r.made r.live u.crew more few-made (omega arith) p.crew)
              (λ a. let was = p.alone a in let both =
              two_of weight s.views j id u v apart at here in absurd (omega arith))
              refl p);
          apart = apart-set s.views id v w r.apart here (λ j h. inl (only-left j (v.own ++ v.others) h));
          spent = spent-set object primitive passes limit s.views id w (omega arith) r.spent;
          unnamed = r.unnamed;
          unused = r.unused;
          kept = λ j under. kept-set s.views id v w j here (omega arith) (λ h. has_left j (v.own ++ v.others) [] h)
              (r.kept j under);
          tip = record {
            place = id;
            view = w;
            there = set_there s.views id v w here;
            live = omega arith;
            sees = inl refl;
          };
          shelf = shelf-live primitive.opens r.handed r.live (r.live - 1) s.homes (set s.views id w)
              (λ j u at on i out single. absurd (omega arith))
              (shelf-set primitive.opens r.handed r.live s.homes s.views id v w here (omega arith)
              (record { live = omega arith; laid = refl; keeps = keeps-same primitive.opens v }) r.shelf);
          tied = r.tied;
          aware = set_all (λ j u. 0 < u.weight
              → IsAware object.gives primitive.opens (length s.homes) r.log u) s.views id w
              (λ live. aware-whole object.gives primitive.opens (length s.homes) r.log w refl refl)
              (λ j u apart at live. r.aware j u at live);
        },
        (
          record {
            number = refl;
            weight = refl;
            facts_are = refl;
            own_is = refl;
            prefix = k.sees.seen;
            prefix_other = k.sees.other;
            handed_in = k.sees.handed_in;
            handed_in_other = k.sees.other_handed_in;
            mine = λ j h. sym (k.sees.mine j h);
            theirs = λ j h. sym (k.sees.theirs j h);
            made_none = refl;
            limit = refl;
            cells = refl;
            slots = refl;
            opening = refl;
            passes = refl;
            segments = sees-same v.segments;
          },
          refl,
          refl,
          record {
            legal = subst (λ z. object.legal z r.log) (sym k.opening_is)
                (client.legal_shown r.hidden (client_words s.words) r.log r.handed r.shown);
            unnamed = λ j above. let few = r.crew.few in let are = k.passes_are in r.unnamed j (omega arith);
            own = has_left v.number v.own v.others k.own;
            held = client.held_fits r.hidden (client_words s.words) r.log r.handed v.number v.facts.has r.shown
                k.stands.has;
            few = subst (λ z. v.facts.has.held ≤ object.most z) (sym k.opening_is)
                (client.slots.few r.hidden (client_words s.words) r.log r.handed v.number v.facts.has r.shown
                k.stands.has);
            known = subst (λ z. object.knows z v.facts.has) (sym k.opening_is)
                (client.slots.known r.hidden (client_words s.words) r.log r.handed v.number v.facts.has r.shown
                k.stands.has);
            inside = is-inside w (cell_count passes limit primitive.values) k.cells_are
                (inside-of passes limit primitive.values r.hidden v.number v.facts.doing r.room
                (client.sound r.hidden (client_words s.words) r.log r.handed r.shown) k.stands.doing)
                (λ j h. let drawn = (k.stands.waits j h).drawn in let g = r.room.ground in omega arith)
                k.stands.once (waits-short object primitive passes limit s r id v here (omega arith)) k.payload_fits
                (r.each_segment id v here).made;
          },
          refl,
        ),
      )
