-- A value is handed in: the pass that may open its slot leaves it there for whom the slot comes to next.
use Rattle.std.proofs.Common.{◌≡◌, ◌≢◌, ◌⊎◌, ℕ, ◌<◌, ◌==◌, true, List, [], ◌∷◌, ◌++◌, length, set, sym, refl, ap, ◌∙◌, subst, ⊎_elim, inl, arith, Option, Some, None, if◌then◌else◌}
use Rattle.std.proofs.lemmas.List.{append-nil}
use mathlib.Core.Option.{some}
use mathlib.Core.Option as maybe
use mathlib.Core.Logic.{dite}
use native.Mathlib.Decide.{ℕ_discrete}
use lib.ListN.{get_elem?}
use Rattle.atomic_table.specs.Table.{State}
use Rattle.atomic_table.proofs.Lists.{set_else}
use Rattle.cqs_rule_laws.specs.declared.view.Opening.{Opening}
use Rattle.cqs_rule_laws.specs.declared.view.View.{View}
use Rattle.cqs_rule_laws.specs.Client.{IsClient}
use Rattle.cqs_rule_laws.specs.Given.{AreTied, IsAware, AreAware}
use Rattle.cqs_rule_laws.specs.Hidden.{Hidden}
use Rattle.cqs_rule_laws.specs.Layout.{client_words}
use Rattle.cqs_rule_laws.specs.Lists.{Has, IsPrefix}
use Rattle.cqs_rule_laws.specs.Object.{Object, Primitive}
use Rattle.cqs_rule_laws.specs.Ruled.{Ruled, RuledAhead, Knows, IsKept, cell_count}
use Rattle.cqs_rule_laws.specs.Segments.{KnowsSegments}
use Rattle.cqs_rule_laws.proofs.Spares.{spares-kept}
use Rattle.cqs_rule_laws.proofs.ToRetire.{leave-kept}
use Rattle.cqs_rule_laws.proofs.Duties.{counted-kept}
use Rattle.cqs_rule_laws.specs.Slots.{laid_in, taken_off, or_else, handed_in, MayOpen, Shelf}
use Rattle.cqs_rule_laws.specs.Views.{all_own, weight, Tip}
use Rattle.cqs_rule_laws.proofs.Advance.{spent-set, stands-out, still-apart}
use Rattle.cqs_rule_laws.proofs.Lists.{chosen, passed-by, set_there, one_there, set_all, total_set, two_of, longer, has_left}
use Rattle.cqs_rule_laws.proofs.Shelves.{back}

module _ {S : Type 0} where
  -- what is taken off is laid there no more, and the rest is
  pub off-here : (k : ℕ) (l : List (ℕ × Option S)) → laid_in (taken_off k l) k ≡ None
  off-here k [] = refl
  off-here k (x ∷ xs) = dite (ℕ_discrete x.0 k)
      (λ (same : x.0 ≡ k).
      ap (λ z. laid_in z k) (chosen x.0 k (taken_off k xs) (x ∷ taken_off k xs) same) ∙ off-here k xs)
      (λ (apart : x.0 ≢ k).
      ap (λ z. laid_in z k) (passed-by x.0 k (taken_off k xs) (x ∷ taken_off k xs) apart)
      ∙ (passed-by x.0 k (Some x.1) (laid_in (taken_off k xs) k) apart ∙ off-here k xs))

  pub off-else : (k j : ℕ) (l : List (ℕ × Option S)) → j ≢ k → laid_in (taken_off k l) j ≡ laid_in l j
  off-else k j [] apart = refl
  off-else k j (x ∷ xs) apart = dite (ℕ_discrete x.0 k)
      (λ (same : x.0 ≡ k).
      ap (λ z. laid_in z j) (chosen x.0 k (taken_off k xs) (x ∷ taken_off k xs) same)
      ∙ (off-else k j xs apart
      ∙ sym (passed-by x.0 j (Some x.1) (laid_in xs j) (λ e. apart (sym e ∙ same)))))
      (λ (other : x.0 ≢ k).
      ap (λ z. laid_in z j) (passed-by x.0 k (taken_off k xs) (x ∷ taken_off k xs) other)
      ∙ ap (λ z. if x.0 == j then Some x.1 else z) (off-else k j xs apart))

  -- the value handed in last
  or-some : (a : Option S) (y : S) → or_else (Some y) a ≡ Some y
  or-some a y = refl

  pub handed-here : (l : List (ℕ × S)) (k : ℕ) (y : S) → handed_in (l ++ (k, y) ∷ []) k ≡ Some y
  handed-here [] k y = ap (λ z. or_else None z) (chosen k k (Some y) None refl)
  handed-here (x ∷ xs) k y = ap (λ z. or_else z (if x.0 == k then Some x.1 else None)) (handed-here xs k y)

  pub handed-else : (l : List (ℕ × S)) (k j : ℕ) (y : S) → j ≢ k → handed_in (l ++ (k, y) ∷ []) j ≡ handed_in l j
  handed-else [] k j y apart = ap (λ z. or_else None z) (passed-by k j (Some y) None (λ e. apart (sym e)))
  handed-else (x ∷ xs) k j y apart =
      ap (λ z. or_else z (if x.0 == j then Some x.1 else None)) (handed-else xs k j y apart)

-- the view with another slot open, other values seen to be handed in, and other things laid into slots
abbrev pub turned : {E S : Type 0} → View E S → Option ℕ → List (ℕ × S) → List (ℕ × Option S) → View E S
turned v out handed laid =
    record v { facts = record v.facts { open_slot = out }; handed = handed; laid = laid }

module _ {E S : Type 0} (object : Object E) where
  -- more is handed in, beside a pass that isn't alone
  knows-more : (c : Hidden) (log : List E) (handed handed' : List (ℕ × S)) (made live passes limit cells : ℕ)
      (opening : Opening) (u : View E S) → ((h : List (ℕ × S)) → IsPrefix h handed → IsPrefix h handed')
      → (u.alone ≡ true → live ≡ 1 → ⊥)
      → Knows object c log handed made live passes limit cells opening u
      → Knows object c log handed' made live passes limit cells opening u
  knows-more c log handed handed' made live passes limit cells opening u more two k = record {
    sees = record {
      seen = k.sees.seen;
      other = k.sees.other;
      handed_in = more u.handed k.sees.handed_in;
      other_handed_in = more u.other_handed k.sees.other_handed_in;
      mine = k.sees.mine;
      theirs = k.sees.theirs;
    };
    below = k.below;
    light = k.light;
    parted = k.parted;
    own = k.own;
    stands = k.stands;
    resting = k.resting;
    second = k.second;
    crew = k.crew;
    alone = λ a. absurd (two a (k.alone a).0);
    limit_is = k.limit_is;
    cells_are = k.cells_are;
    passes_are = k.passes_are;
    opening_is = k.opening_is;
    payload_fits = k.payload_fits;
  }

  -- the pass sees more values handed in, all of them where it is alone, and turns its slots
  knows-turned : (c : Hidden) (log : List E) (handed handed' : List (ℕ × S)) (made live passes limit cells : ℕ)
      (opening : Opening) (v : View E S) (out : Option ℕ) (h : List (ℕ × S)) (laid : List (ℕ × Option S))
      → ((u : List (ℕ × S)) → IsPrefix u handed → IsPrefix u handed') → IsPrefix h handed'
      → (v.alone ≡ true → h ≡ handed')
      → Knows object c log handed made live passes limit cells opening v
      → Knows object c log handed' made live passes limit cells opening (turned v out h laid)
  knows-turned c log handed handed' made live passes limit cells opening v out h laid more seen whole k = record {
    sees = record {
      seen = k.sees.seen;
      other = k.sees.other;
      handed_in = seen;
      other_handed_in = more v.other_handed k.sees.other_handed_in;
      mine = k.sees.mine;
      theirs = k.sees.theirs;
    };
    below = k.below;
    light = k.light;
    parted = k.parted;
    own = k.own;
    stands = stands-out c v.number v.facts out k.stands;
    resting = k.resting;
    second = λ two. let t = k.second two in
        record { own = t.own; stands = t.stands; resting = t.resting; payload_fits = t.payload_fits };
    crew = k.crew;
    alone = λ a. let was = k.alone a in (was.0, was.1, was.2, whole a, was.4);
    limit_is = k.limit_is;
    cells_are = k.cells_are;
    passes_are = k.passes_are;
    opening_is = k.opening_is;
    payload_fits = k.payload_fits;
  }

module _ {E S : Type 0} (object : Object E) (primitive : Primitive E S) (passes limit : ℕ)
    (client : IsClient object primitive) where
  abbrev R : State (Option S) (View E S) → Type 0
  R = Ruled object primitive passes limit

  -- a slot may be opened by one pass at most
  pub one-opens : (s : State (Option S) (View E S)) (r : R s) (i j : ℕ) (u v : View E S) (k : ℕ)
      → get_elem? s.views i ≡ some u → get_elem? s.views j ≡ some v → 0 < u.weight → 0 < v.weight
      → MayOpen primitive.opens r.live u k → MayOpen primitive.opens r.live v k → i ≡ j
  one-opens s r i j u v k here there alive alive' a b = ⊎_elim
      (λ (o : primitive.opens u.facts.has k). ⊎_elim
      (λ (o' : primitive.opens v.facts.has k).
      let mine = r.each_view i u here alive in
      let theirs = r.each_view j v there alive' in
      let same = client.slots.apart r.hidden (client_words s.words) r.log r.handed u.number v.number k u.facts.has
      v.facts.has r.shown mine.stands.has theirs.stands.has o o' in
      r.apart i j u v u.number here there (has_left u.number u.own u.others mine.own)
      (subst (λ n. Has n (all_own v)) (sym same) (has_left v.number v.own v.others theirs.own)))
      lone b)
      lone a
    where
      lone : r.live ≡ 1 → i ≡ j
      lone one = dite (ℕ_discrete i j) (λ (same : i ≡ j). same)
          (λ (apart : i ≢ j).
          let two = two_of weight s.views i j u v apart here there in
          let l = r.crew.live_is in absurd (omega arith))

  -- the rule, where values were handed in ahead of the entries that are to follow
  abbrev pub Ahead : (ℕ → ℕ) → State (Option S) (View E S) → Type 0
  Ahead ahead = RuledAhead object primitive passes limit ahead

  -- the rule where a view turns its slots, and no word changes
  pub reshelf : (ahead : ℕ → ℕ) (s : State (Option S) (View E S)) (r : R s) (id : ℕ) (v : View E S) (out : Option ℕ)
      (h handed : List (ℕ × S)) (laid : List (ℕ × Option S)) (homes : List (maybe.Option (Option S)))
      → get_elem? s.views id ≡ some v → 0 < v.weight
      → ((u : List (ℕ × S)) → IsPrefix u r.handed → IsPrefix u handed) → IsPrefix h handed
      → (v.alone ≡ true → h ≡ handed)
      → primitive.shows r.hidden (client_words s.words) r.log handed
      → (shelf : Shelf primitive.opens handed r.live homes (set s.views id (turned v out h laid)))
      → length homes ≡ length s.homes → AreTied object.gives (length s.homes) ahead r.log handed
      → (t : Ahead ahead (record { words = s.words; homes = homes; views = set s.views id (turned v out h laid) }))
      × (t.handed ≡ handed) × ((k : ℕ) → t.shelf.lies k ≡ shelf.lies k)
  reshelf ahead s r id v out h handed laid homes here alive more seen whole shown shelf long tied = (
    record {
      hidden = r.hidden;
      log = r.log;
      handed = handed;
      made = r.made;
      live = r.live;
      crew = record {
        word = r.crew.word;
        some_made = r.crew.some_made;
        few = r.crew.few;
        live_few = r.crew.live_few;
        live_is = let total = total_set weight s.views id v w here in let l = r.crew.live_is in omega arith;
      };
      counters = record { suspends = r.counters.suspends; resumes = r.counters.resumes };
      cells = record {
        shows = r.cells.shows;
        sound = r.cells.sound;
        made = r.cells.made;
        fits = r.cells.fits;
        bare = r.cells.bare;
      };
      settled = r.settled;
      finals = r.finals;
      all_settled = r.all_settled;
      suits = r.suits;
      counted = counted-kept (λ (x : View E S). x.facts.duties) r.segments r.settled s.views id v w here refl r.counted;
      to_leave = leave-kept r.segments s.views id v w here refl r.to_leave;
      spares = spares-kept r.slots r.segments r.segments s.views id v w
          here refl (λ y. refl) r.spares;
      idle_words = record { none = r.idle_words.none };
      room = r.room;
      door = r.door;
      shown = shown;
      each_view = set_all P s.views id w
          (λ live. knows-turned object r.hidden r.log r.handed handed r.made r.live passes limit
          (cell_count passes limit primitive.values) primitive.opening v out h laid more seen whole
          (r.each_view id v here alive))
          (λ j u apart at live. knows-more object r.hidden r.log r.handed handed r.made r.live passes limit
          (cell_count passes limit primitive.values) primitive.opening u more
          (λ a one. let both = two_of weight s.views j id u v apart at here in
          let l = r.crew.live_is in omega arith)
          (r.each_view j u at live));
      apart = still-apart object primitive passes limit s.views id v w here refl r.apart;
      spent = spent-set object primitive passes limit s.views id w alive r.spent;
      unnamed = r.unnamed;
      kept = λ n low. kept-set n (r.kept n low);
      unused = r.unused;
      tip = tip-set r.tip;
      shelf = shelf;
      tied = λ k low. tied k (omega arith);
      aware = subst (λ n. AreAware object.gives primitive.opens n r.log (set s.views id w)) (sym long)
          (set_all (λ j u. 0 < u.weight → IsAware object.gives primitive.opens (length s.homes) r.log u) s.views id w
          (λ live. let a = r.aware id v here alive in record { mine = a.mine; second = a.second })
          (λ j u apart at live. r.aware j u at live));
      slots = r.slots;
      segments = r.segments;
      noted = set_all (λ j u. IsPrefix u.seen r.log) s.views id w (r.noted id v here) (λ j u apart at. r.noted j u at);
      each_segment = set_all (λ j u. KnowsSegments r.slots r.segments u) s.views id w
          (record {
            seen = (r.each_segment id v here).seen;
            slots_are = λ on. (r.each_segment id v here).slots_are (omega arith);
            made = (r.each_segment id v here).made;
          })
          (λ j u apart at. r.each_segment j u at);
    },
    refl,
    λ k. refl,
  )
    where
      w : View E S
      w = turned v out h laid

      P : ℕ → View E S → Type 0
      P j u = 0 < u.weight → Knows object r.hidden r.log handed r.made r.live passes limit
          (cell_count passes limit primitive.values) primitive.opening u

      is-view : (j : ℕ) (u : View E S) → get_elem? s.views j ≡ some u → j ≡ id → u ≡ v
      is-view j u at same = one_there s.views id u v (subst (λ i. get_elem? s.views i ≡ some u) same at) here

      kept-set : (n : ℕ) → IsKept s.views n
          → IsKept (set s.views id w) n
      kept-set n old = dite (ℕ_discrete old.place id)
          (λ (at : old.place ≡ id). record {
            place = id;
            view = w;
            there = set_there s.views id v w here;
            live = alive;
            has = subst (λ (x : View E S). Has n (all_own x)) (is-view old.place old.view old.there at) old.has;
          })
          (λ (apart : old.place ≢ id). record {
            place = old.place;
            view = old.view;
            there = set_else s.views id old.place w apart ∙ old.there;
            live = old.live;
            has = old.has;
          })

      tip-set : Tip r.log s.views → Tip r.log (set s.views id w)
      tip-set old = dite (ℕ_discrete old.place id)
          (λ (at : old.place ≡ id).
          let is = is-view old.place old.view old.there at in record {
            place = id;
            view = w;
            there = set_there s.views id v w here;
            live = alive;
            sees = subst (λ (x : View E S). (x.seen ≡ r.log) ⊎ ((x.weight ≡ 2) × (x.other ≡ r.log))) is old.sees;
          })
          (λ (apart : old.place ≢ id). record {
            place = old.place;
            view = old.view;
            there = set_else s.views id old.place w apart ∙ old.there;
            live = old.live;
            sees = old.sees;
          })

  -- what lies in the slot k when y is handed in
  abbrev lying : (ℕ → Option S) → ℕ → S → ℕ → Option S
  lying lies k y j = if k == j then Some y else lies j

  -- the view that hands in y
  abbrev pub giving : View E S → List (ℕ × S) → ℕ → S → View E S
  giving v handed k y = record v { handed = handed ++ (k, y) ∷ []; laid = taken_off k v.laid }

  -- the value stands where it is: laid by the pass, or in the slot that it has open and where it laid nothing
  abbrev pub IsThere : View E S → ℕ → S → Type 0
  IsThere v k y = (laid_in v.laid k ≡ Some (Some y)) ⊎ ((v.facts.open_slot ≡ Some k) × (laid_in v.laid k ≡ None))

  -- the rule where the value is handed in, before any word changes
  pub hand-in : (ahead : ℕ → ℕ) (s : State (Option S) (View E S)) (r : R s) (id : ℕ) (v : View E S) (k : ℕ) (y : S)
      → get_elem? s.views id ≡ some v → 0 < v.weight → IsThere v k y
      → AreTied object.gives (length s.homes) ahead r.log (r.handed ++ (k, y) ∷ [])
      → (t : Ahead ahead (record { words = s.words; homes = s.homes; views = set s.views id (giving v r.handed k y) }))
      × (t.handed ≡ r.handed ++ (k, y) ∷ []) × (t.shelf.lies k ≡ Some y)
  hand-in ahead s r id v k y here alive there tied =
      let t = reshelf ahead s r id v v.facts.open_slot handed handed (taken_off k v.laid) s.homes here alive
      (λ u before. longer u r.handed ((k, y) ∷ []) before) ([], sym (append-nil handed)) (λ _. refl)
      (client.slots.hands_in r.hidden (client_words s.words) r.log r.handed k y r.shown) shelf refl tied in
      (t.0, t.1, t.2 k ∙ chosen k k (Some y) (r.shelf.lies k) refl)
    where
      handed : List (ℕ × S)
      handed = r.handed ++ (k, y) ∷ []

      w : View E S
      w = giving v r.handed k y

      L : ℕ → View E S → Type 0
      L j u = 0 < u.weight → (i : ℕ) (x : Option S) → laid_in u.laid i ≡ Some x
          → (lying r.shelf.lies k y i ≡ x) × primitive.opens u.facts.has i × (i < length s.homes)

      -- the pass may open the slot
      opener : MayOpen primitive.opens r.live v k
      opener = ⊎_elim (λ is. inl (r.shelf.laid id v here alive k (Some y) is).1)
          (λ out. r.shelf.opened id v here alive k out.0) there

      else-lies : (j : ℕ) → j ≢ k → lying r.shelf.lies k y j ≡ r.shelf.lies j
      else-lies j apart = passed-by k j (Some y) (r.shelf.lies j) (λ e. apart (sym e))

      home : (j : ℕ) → j < length s.homes
          → ((i : ℕ) (u : View E S) → get_elem? (set s.views id w) i ≡ some u → 0 < u.weight
          → u.facts.open_slot ≡ Some j → ⊥)
          → get_elem? s.homes j ≡ some (some (lying r.shelf.lies k y j))
      home j low none =
          let was = back primitive.opens s.views id v w (λ u. u.facts.open_slot ≡ Some j → ⊥) here alive (λ q. q)
          none in
          let old = r.shelf.home j low was in dite (ℕ_discrete j k)
          (λ (same : j ≡ k). ⊎_elim
          (λ (is : laid_in v.laid k ≡ Some (Some y)).
          old ∙ ap (λ z. some (some z)) (ap r.shelf.lies same
          ∙ ((r.shelf.laid id v here alive k (Some y) is).0 ∙ sym (chosen k j (Some y) (r.shelf.lies j) (sym same)))))
          (λ (out : (v.facts.open_slot ≡ Some k) × (laid_in v.laid k ≡ None)).
          absurd (none id w (set_there s.views id v w here) alive (out.0 ∙ ap Some (sym same))))
          there)
          (λ (apart : j ≢ k). old ∙ ap (λ z. some (some z)) (sym (else-lies j apart)))

      mine-laid : L id w
      mine-laid live i x is = dite (ℕ_discrete i k)
          (λ (same : i ≡ k).
          absurd (never (sym (off-here k v.laid) ∙ (ap (laid_in (taken_off k v.laid)) (sym same) ∙ is))))
          (λ (apart : i ≢ k).
          let t = r.shelf.laid id v here alive i x (sym (off-else k i v.laid apart) ∙ is) in
          (else-lies i apart ∙ t.0, t.1, t.2))
        where
          never : None ≡ Some x → ⊥
          never e = cc

      others-laid : (j : ℕ) (u : View E S) → j ≢ id → get_elem? s.views j ≡ some u → L j u
      others-laid j u away at live i x is =
          let t = r.shelf.laid j u at live i x is in dite (ℕ_discrete i k)
          (λ (same : i ≡ k).
          absurd (away (one-opens s r j id u v k at here live alive
          (inl (subst (primitive.opens u.facts.has) same t.1)) opener)))
          (λ (apart : i ≢ k). (else-lies i apart ∙ t.0, t.1, t.2))

      last : (j : ℕ)
          → ((i : ℕ) (u : View E S) → get_elem? (set s.views id w) i ≡ some u → 0 < u.weight
          → laid_in u.laid j ≡ None)
          → lying r.shelf.lies k y j ≡ handed_in handed j
      last j none = dite (ℕ_discrete j k)
          (λ (same : j ≡ k).
          chosen k j (Some y) (r.shelf.lies j) (sym same)
          ∙ (sym (handed-here r.handed k y) ∙ ap (handed_in handed) (sym same)))
          (λ (apart : j ≢ k).
          else-lies j apart ∙ (r.shelf.last j
          (back primitive.opens s.views id v w (λ u. laid_in u.laid j ≡ None) here alive
          (λ bare. sym (off-else k j v.laid apart) ∙ bare) none)
          ∙ sym (handed-else r.handed k j y apart)))

      shelf : Shelf primitive.opens handed r.live s.homes (set s.views id w)
      shelf = record {
        lies = lying r.shelf.lies k y;
        home = home;
        opened = set_all (λ j u. 0 < u.weight → (i : ℕ) → u.facts.open_slot ≡ Some i
            → MayOpen primitive.opens r.live u i) s.views id w
            (λ live i out. r.shelf.opened id v here alive i out)
            (λ j u apart at live i out. r.shelf.opened j u at live i out);
        laid = set_all L s.views id w mine-laid others-laid;
        last = last;
      }
