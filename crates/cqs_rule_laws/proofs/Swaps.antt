-- A slot is taken from its home, and put back.
use Rattle.std.proofs.Common.{◌≡◌, ◌≢◌, ◌⊎◌, ℕ, ◌<◌, ◌==◌, true, List, [], ◌∷◌, ◌++◌, length, set, sym, refl, ap, ◌∙◌, subst, ⊎_elim, inl, inr, arith, length-set, Option, Some, None, if◌then◌else◌, zero, suc, append_assoc, slice_get}
use Rattle.std.specs.Prelude.{slice_index, slice_set}
use Rattle.std.proofs.lemmas.List.{append-nil, set-get_or}
use Rattle.std.proofs.lemmas.Option.{same_Some}
use mathlib.Core.Option.{some, none}
use mathlib.Core.Logic.{dite}
use native.Mathlib.Decide.{ℕ_discrete}
use lib.ListN.{get_elem?}
use Rattle.atomic_table.specs.Table.{State, Me, Act, takes, gives, rest, homes_after, step, stepped, Allows}
use Rattle.atomic_table.proofs.Lists.{set_else, set_here}
use Rattle.cqs_slots.specs.Told.{SeesMore}
use Rattle.cqs_rule_laws.specs.declared.view.Facts.{Facts}
use Rattle.cqs_rule_laws.specs.declared.view.View.{View}
use Rattle.cqs_rule_laws.specs.Alone.{TellsAlone}
use Rattle.cqs_rule_laws.specs.Client.{IsClient}
use Rattle.cqs_rule_laws.specs.Given.{values_for, times_given}
use Rattle.cqs_rule_laws.specs.Inside.{IsInside}
use Rattle.cqs_rule_laws.specs.Lists.{Has, IsPrefix}
use Rattle.cqs_rule_laws.specs.Object.{Object, Primitive}
use Rattle.cqs_rule_laws.specs.Ruled.{Ruled}
use Rattle.cqs_rule_laws.specs.Saw.{Saw, IsLive}
use Rattle.cqs_rule_laws.specs.Slots.{laid_in, handed_in, taken_off, LaysNone, MayOpen, Shelf}
use Rattle.cqs_rule_laws.specs.SlotSteps.{TookOut, PutBack, Swapped, HandedIn, took_out, put_back, filled}
use Rattle.cqs_rule_laws.proofs.Handing.{turned, one-opens, reshelf, hand-in, giving, off-here, off-else}
use Rattle.cqs_rule_laws.proofs.Lists.{chosen, passed-by, set_there, one_there, set_all, prefix-then}
use Rattle.cqs_rule_laws.proofs.Given.{same-homes, one-seen, last-tied, tied-first}
use Rattle.cqs_rule_laws.proofs.Shelves.{back, never-open}

module _ {A : Type 0} where
  pub set_twice : (l : List A) (i : ℕ) (a b : A) → set (set l i a) i b ≡ set l i b
  set_twice [] i a b = refl
  set_twice (x ∷ xs) zero a b = refl
  set_twice (x ∷ xs) (suc i) a b = ap (λ l. x ∷ l) (set_twice xs i a b)

-- a slot was taken out and put back
pub swapped-then : {E S : Type 0} (k : ℕ) (laid items : List (ℕ × Option S)) (v u w : View E S) → TookOut k v u items
    → PutBack laid u w → v.facts.open_slot ≡ None → Swapped laid v w
swapped-then {E} {S} k laid items v u w took put shut = record {
  is = put.is ∙ (ap (λ (z : View E S). record z {
    facts = record z.facts { open_slot = None };
    handed = w.handed;
    laid = laid;
  }) took.is
      ∙ ap (λ (o : Option ℕ). record v {
        facts = record v.facts { open_slot = o };
        handed = w.handed;
        laid = laid;
      }) (sym shut));
  more = prefix-then v.handed u.handed w.handed took.more put.more;
}

-- what holds of a pass holds after a swap
module _ {E S : Type 0} (laid : List (ℕ × Option S)) (v w : View E S) (swap : Swapped laid v w) where
  pub inside-swapped : IsInside v → IsInside w
  inside-swapped i = subst (λ (z : View E S). IsInside z) (sym swap.is)
      (record { number = i.number; waits = i.waits; once = i.once; few = i.few; payload = i.payload; made = i.made })

  pub live-swapped : (object : Object E) → IsLive object v → IsLive object w
  live-swapped object l = subst (λ (z : View E S). IsLive object z) (sym swap.is) (record {
    legal = l.legal;
    unnamed = l.unnamed;
    own = l.own;
    held = l.held;
    few = l.few;
    known = l.known;
    inside = record {
      number = l.inside.number;
      waits = l.inside.waits;
      once = l.inside.once;
      few = l.inside.few;
      payload = l.inside.payload;
      made = l.inside.made;
    };
  })

  pub alone-swapped : {C : Type 0} (primitive : C → Primitive E S) → TellsAlone primitive v → TellsAlone primitive w
  alone-swapped primitive told = subst (λ (z : View E S). TellsAlone primitive z) (sym swap.is) (λ one alone.
      let a = told one alone in record {
        client = a.client;
        opening_is = a.opening_is;
        hidden = a.hidden;
        words = a.words;
        handed = a.handed;
        shown = a.shown;
        stands = a.stands;
        others = a.others;
        places = a.places;
        drawn = a.drawn;
      })

-- a pass that handed something in just before its step saw what it would have seen without
pub saw-given : {E S : Type 0} (object : Object E) (v g w : View E S) {facts : Facts} {es : List E}
    → Saw object g facts es w → (same : g ≡ record v { handed = g.handed; laid = g.laid })
    → IsPrefix v.handed g.handed → LaysNone v.laid g.laid → Saw object v facts es w
saw-given {E} {S} object v g w {facts} {es} t same more less = record {
  between = t.between;
  seen = t.seen ∙ ap (λ (u : View E S). (u.seen ++ t.between) ++ es) same;
  silent = λ n h. t.silent n (subst (λ (u : View E S). Has n u.own) (sym same) h);
  facts_are = t.facts_are;
  same = record {
    number = t.same.number ∙ ap (λ u. u.number) same;
    weight = t.same.weight ∙ ap (λ u. u.weight) same;
    own = t.same.own ∙ ap (λ u. u.own) same;
    crew = t.same.crew ∙ ap (λ u. u.crew) same;
    alone = t.same.alone ∙ ap (λ u. u.alone) same;
    made = t.same.made ∙ ap (λ u. u.made) same;
    drawn = t.same.drawn ∙ ap (λ u. u.drawn) same;
    limit = t.same.limit ∙ ap (λ u. u.limit) same;
    cells = t.same.cells ∙ ap (λ u. u.cells) same;
    slots = t.same.slots ∙ ap (λ u. u.slots) same;
    passes = t.same.passes ∙ ap (λ u. u.passes) same;
    opening = t.same.opening ∙ ap (λ u. u.opening) same;
    segments = subst (λ (u : View E S). SeesMore u.segments w.segments) same t.same.segments;
  };
  handed = (
    more.0 ++ t.handed.0,
    t.handed.1 ∙ (ap (λ l. l ++ t.handed.0) more.1
        ∙ append_assoc v.handed more.0 t.handed.0),
  );
  unlaid = λ j bare. t.unlaid j (less j bare);
  sole = λ a. t.sole (ap (λ (u : View E S). u.alone) same ∙ a);
}

-- what was laid nowhere isn't taken off
pub taken_none : {S : Type 0} (k : ℕ) (l : List (ℕ × Option S)) → laid_in l k ≡ None → taken_off k l ≡ l
taken_none k [] e = refl
taken_none {S} k (x ∷ xs) e = dite (ℕ_discrete x.0 k)
    (λ (same : x.0 ≡ k). absurd (some-none (sym (chosen x.0 k (Some x.1) (laid_in xs k) same) ∙ e)))
    (λ (apart : x.0 ≢ k). passed-by x.0 k (taken_off k xs) (x ∷ taken_off k xs) apart
    ∙ ap (λ z. x ∷ z) (taken_none k xs (sym (passed-by x.0 k (Some x.1) (laid_in xs k) apart) ∙ e)))
  where
    some-none : Some x.1 ≡ None → ⊥
    some-none q = cc

-- what was laid nowhere is laid nowhere when a slot is taken off
pub none-off : {S : Type 0} (k : ℕ) (l : List (ℕ × Option S)) → LaysNone l (taken_off k l)
none-off k l j bare = dite (ℕ_discrete j k)
    (λ (same : j ≡ k). ap (laid_in (taken_off k l)) same ∙ off-here k l)
    (λ (apart : j ≢ k). off-else k j l apart ∙ bare)

-- what lies in the slot that was taken last
abbrev first-of : {S : Type 0} → List (ℕ × Option S) → Option S
first-of [] = None
first-of (x ∷ xs) = x.1

module _ {E S : Type 0} (object : Object E) (primitive : Primitive E S) (passes limit : ℕ)
    (client : IsClient object primitive) where
  abbrev R : State (Option S) (View E S) → Type 0
  R = Ruled object primitive passes limit

  -- the pass turns its slots, by a step that changes no word
  turns : (s : State (Option S) (View E S)) (r : R s) (id : ℕ) (cs : List (ℕ × Option S)) (v : View E S)
      (out : Option ℕ) (laid : List (ℕ × Option S)) (act : Act (Option S))
      → get_elem? s.views id ≡ some v → 0 < v.weight
      → Shelf primitive.opens r.handed r.live (homes_after s.homes cs act)
      (set s.views id (turned v out r.handed laid))
      → R (stepped s 0 (slice_index s.words 0) id cs (turned v out r.handed laid) act)
  turns s r id cs v out laid act here alive shelf =
      subst (λ (words : List ℕ). R (record {
        words = words;
        homes = homes_after s.homes cs act;
        views = set s.views id (turned v out r.handed laid);
      })) (sym (set-get_or s.words 0 0))
      (reshelf object primitive passes limit client (λ k. 0) s r id v out r.handed r.handed laid
      (homes_after s.homes cs act) here alive
      (λ u before. before) ([], sym (append-nil r.handed)) (λ _. refl) r.shown shelf
      (same-homes s.homes cs act) r.tied).0

  -- a pass that may open the slot takes it from its home
  pub takes-out : (slots id k : ℕ) (me : Me (Option S) (View E S)) → me.0.weight ≡ 1 → me.0.facts.open_slot ≡ None
      → me.1 ≡ [] → k < slots → primitive.opens me.0.facts.has k ⊎ (me.0.alone ≡ true)
      → Allows R slots id me 0 (λ n. n) (took_out object k (step slots 0 0 0 none) me)
  takes-out slots id k me one shut bare low may s r homes here small =
      let v = me.0 in
      let y = r.shelf.lies k in
      let w = turned v (Some k) r.handed v.laid in
      let opener : MayOpen primitive.opens r.live v k =
      ⊎_elim inl (λ a. inr ((r.each_view id v here (omega arith)).alone a).0) may in
      let nobody : (j : ℕ) (u : View E S) → get_elem? s.views j ≡ some u → 0 < u.weight
      → u.facts.open_slot ≡ Some k → ⊥ = λ j u at alive out.
      let same = one-opens object primitive passes limit client s r j id u v k at here alive (omega arith)
      (r.shelf.opened j u at alive k out) opener in
      never-open v k shut (ap (λ (x : View E S). x.facts.open_slot)
      (sym (one_there s.views id u v (subst (λ i. get_elem? s.views i ≡ some u) same at) here)) ∙ out) in
      let there : get_elem? s.homes k ≡ some (some y) = r.shelf.home k (omega arith) nobody in
      let long = length-set s.homes k none in
      let t = turns s r id me.1 v (Some k) v.laid (takes k y) here (omega arith) (record {
        lies = r.shelf.lies;
        home = λ j inside free. dite (ℕ_discrete j k)
            (λ (same : j ≡ k). absurd (free id w (set_there s.views id v w here) (omega arith) (ap Some (sym same))))
            (λ (apart : j ≢ k).
            set_else s.homes k j none apart ∙ r.shelf.home j (omega arith)
            (back primitive.opens s.views id v w (λ u. u.facts.open_slot ≡ Some j → ⊥) here (omega arith)
            (λ _ out. never-open v j shut out) free));
        opened = set_all (λ j u. 0 < u.weight → (i : ℕ) → u.facts.open_slot ≡ Some i
            → MayOpen primitive.opens r.live u i) s.views id w
            (λ _ i out. let same : k ≡ i = same_Some k i out in
            subst (λ z. MayOpen primitive.opens r.live v z) same opener)
            (λ j u apart at. r.shelf.opened j u at);
        laid = set_all (λ j u. 0 < u.weight → (i : ℕ) (x : Option S) → laid_in u.laid i ≡ Some x
            → (r.shelf.lies i ≡ x) × primitive.opens u.facts.has i × (i < length (set s.homes k none))) s.views id w
            (λ _ i x is. let z = r.shelf.laid id v here (omega arith) i x is in (z.0, z.1, let h = z.2 in omega arith))
            (λ j u apart at alive i x is. let z = r.shelf.laid j u at alive i x is in
            (z.0, z.1, let h = z.2 in omega arith));
        last = λ i none. r.shelf.last i
            (back primitive.opens s.views id v w (λ u. laid_in u.laid i ≡ None) here (omega arith) (λ q. q) none);
      }) in (
        w,
        takes k y,
        there,
        t,
        (
          record {
            value = y;
            items_are = ap (λ l. (k, y) ∷ l) bare;
            mine = λ x is. (r.shelf.laid id v here (omega arith) k x is).0;
            last = λ is. r.shelf.last k (λ j u at alive. dite (ℕ_discrete j id)
                (λ (same : j ≡ id). ap (λ (x : View E S). laid_in x.laid k)
                (one_there s.views id u v (subst (λ i. get_elem? s.views i ≡ some u) same at) here) ∙ is)
                (λ (apart : j ≢ id). nothing (laid_in u.laid k) (λ x q.
                apart (one-opens object primitive passes limit client s r j id u v k at here alive (omega arith)
                (inl (r.shelf.laid j u at alive k x q).1) opener)) refl));
            is = refl;
            more = (r.each_view id v here (omega arith)).sees.handed_in;
            whole = λ a. sym ((r.each_view id v here (omega arith)).alone a).3;
          },
          λ z last.
              let seen : times_given object.gives v.seen k ≡ times_given object.gives r.log k = ⊎_elim
              (one-seen object.gives primitive.opens (length s.homes) r.log v one (r.aware id v here (omega arith)) k
              (omega arith))
              (λ a. ap (λ l. times_given object.gives l k) ((r.each_view id v here (omega arith)).alone a).2) may in
              subst (λ n. slice_get (values_for k r.handed) n ≡ Some z) (sym seen)
              (last-tied object.gives (length s.homes) r.log r.handed k z (omega arith) r.tied last),
        ),
      )
    where
      nothing : (o : Option (Option S)) → ((x : Option S) → o ≡ Some x → ⊥) → {z : Option (Option S)} → z ≡ o → o ≡ None
      nothing None never same = refl
      nothing (Some x) never same = absurd (never x refl)

  -- a pass that has its slot open puts it back with what it has laid there
  pub puts-back : (slots id k : ℕ) (me : Me (Option S) (View E S)) → me.0.weight ≡ 1
      → me.0.facts.open_slot ≡ Some k → k < slots → primitive.opens me.0.facts.has k
      → (x : Option S) → me.1 ≡ (k, x) ∷ []
      → Allows R slots id me 0 (λ n. n) (put_back k (step slots 0 0 0 none) me)
  puts-back slots id k me one out low owns x is s r homes here small =
      let v = me.0 in
      let w = turned v None r.handed ((k, x) ∷ v.laid) in
      let lies : ℕ → Option S = λ j. if k == j then x else r.shelf.lies j in
      let long = length-set s.homes k (some x) in
      let else-lies : (j : ℕ) → j ≢ k → lies j ≡ r.shelf.lies j =
      λ j apart. passed-by k j x (r.shelf.lies j) (λ e. apart (sym e)) in
      let shelf : Shelf primitive.opens r.handed r.live (set s.homes k (some x)) (set s.views id w) = record {
        lies = lies;
        home = λ j inside free. dite (ℕ_discrete j k)
            (λ (same : j ≡ k).
            ap (get_elem? (set s.homes k (some x))) same ∙ (set_here s.homes k (some x) (omega arith)
            ∙ ap (λ z. some (some z)) (sym (chosen k j x (r.shelf.lies j) (sym same)))))
            (λ (apart : j ≢ k).
            set_else s.homes k j (some x) apart ∙ (r.shelf.home j (omega arith)
            (back primitive.opens s.views id v w (λ u. u.facts.open_slot ≡ Some j → ⊥) here (omega arith)
            (λ _ was. apart (same_Some j k (sym was ∙ out))) free)
            ∙ ap (λ z. some (some z)) (sym (else-lies j apart))));
        opened = set_all (λ j u. 0 < u.weight → (i : ℕ) → u.facts.open_slot ≡ Some i
            → MayOpen primitive.opens r.live u i) s.views id w
            (λ _ i q. absurd (never-open w i refl q))
            (λ j u apart at. r.shelf.opened j u at);
        laid = set_all (λ j u. 0 < u.weight → (i : ℕ) (z : Option S) → laid_in u.laid i ≡ Some z
            → (lies i ≡ z) × primitive.opens u.facts.has i × (i < length (set s.homes k (some x)))) s.views id w
            (λ _ i z q. dite (ℕ_discrete k i)
            (λ (same : k ≡ i).
            let found : x ≡ z = same_Some x z (sym (chosen k i (Some x) (laid_in v.laid i) same) ∙ q) in
            (chosen k i x (r.shelf.lies i) same ∙ found, subst (primitive.opens v.facts.has) same owns, omega arith))
            (λ (apart : k ≢ i).
            let old = r.shelf.laid id v here (omega arith) i z
            (sym (passed-by k i (Some x) (laid_in v.laid i) apart) ∙ q) in
            (else-lies i (λ e. apart (sym e)) ∙ old.0, old.1, let h = old.2 in omega arith)))
            (λ j u away at alive i z q.
            let old = r.shelf.laid j u at alive i z q in dite (ℕ_discrete i k)
            (λ (same : i ≡ k). absurd (away (one-opens object primitive passes limit client s r j id u v k at here alive
            (omega arith)
            (inl (subst (primitive.opens u.facts.has) same old.1)) (inl owns))))
            (λ (apart : i ≢ k). (else-lies i apart ∙ old.0, old.1, let h = old.2 in omega arith)));
        last = λ i none. dite (ℕ_discrete k i)
            (λ (same : k ≡ i). absurd (some-none x (sym (chosen k i (Some x) (laid_in v.laid i) same)
            ∙ none id w (set_there s.views id v w here) (omega arith))))
            (λ (apart : k ≢ i).
            else-lies i (λ e. apart (sym e)) ∙ r.shelf.last i
            (back primitive.opens s.views id v w (λ u. laid_in u.laid i ≡ None) here (omega arith)
            (λ q. sym (passed-by k i (Some x) (laid_in v.laid i) apart) ∙ q) none));
      } in
      let t = turns s r id ((k, x) ∷ []) v None ((k, x) ∷ v.laid) gives here (omega arith) shelf in (
        w,
        gives,
        tt,
        subst (λ (cs : List (ℕ × Option S)). R (stepped s 0 (slice_index s.words 0) id cs w gives)) (sym is) t,
        λ z q.
            let same : x ≡ z = ap first-of (sym is ∙ q) in (
              subst (λ u. PutBack ((k, u) ∷ v.laid) v w) same
                  (record { is = refl; more = (r.each_view id v here (omega arith)).sees.handed_in }),
              ap rest is,
            ),
      )
    where
      some-none : (z : Option S) → Some z ≡ None → ⊥
      some-none z q = cc

  -- a pass that is alone puts the slot back with the first value in it, which is handed in
  pub fills : (slots id k : ℕ) (me : Me (Option S) (View E S)) → me.0.weight ≡ 1
      → me.0.facts.open_slot ≡ Some k → k < slots → laid_in me.0.laid k ≡ None
      → me.0.alone ≡ true → handed_in me.0.handed k ≡ None
      → (y : S) → me.1 ≡ (k, Some y) ∷ []
      → Allows R slots id me 0 (λ n. n) (filled k (step slots 0 0 0 none) me)
  fills slots id k me one out low bare alone empty y is s r homes here small =
      let v = me.0 in
      let given = hand-in object primitive passes limit client (λ j. 0) s r id v k y here (omega arith)
      (inr (out, bare))
      (tied-first object.gives (length s.homes) r.log r.handed k y
      (ap (λ l. handed_in l k) (sym ((r.each_view id v here (omega arith)).alone alone).3) ∙ empty) r.tied) in
      let r' = given.0 in
      let g : View E S = giving object primitive passes limit client v r.handed k y in
      let views : List (View E S) = set s.views id g in
      let w = turned g None r'.handed g.laid in
      let here' : get_elem? views id ≡ some g = set_there s.views id v g here in
      let lies = r'.shelf.lies in
      let long = length-set s.homes k (some (Some y)) in
      let shelf : Shelf primitive.opens r'.handed r'.live (set s.homes k (some (Some y))) (set views id w) = record {
        lies = lies;
        home = λ j inside free. dite (ℕ_discrete j k)
            (λ (same : j ≡ k).
            ap (get_elem? (set s.homes k (some (Some y)))) same ∙ (set_here s.homes k (some (Some y)) (omega arith)
            ∙ ap (λ z. some (some z)) (sym given.2 ∙ ap lies (sym same))))
            (λ (apart : j ≢ k).
            set_else s.homes k j (some (Some y)) apart ∙ r'.shelf.home j (omega arith)
            (back primitive.opens views id g w (λ u. u.facts.open_slot ≡ Some j → ⊥) here' (omega arith)
            (λ _ was. apart (same_Some j k (sym was ∙ out))) free));
        opened = set_all (λ j u. 0 < u.weight → (i : ℕ) → u.facts.open_slot ≡ Some i
            → MayOpen primitive.opens r'.live u i) views id w
            (λ _ i q. absurd (never-open w i refl q))
            (λ j u apart at. r'.shelf.opened j u at);
        laid = set_all (λ j u. 0 < u.weight → (i : ℕ) (z : Option S) → laid_in u.laid i ≡ Some z
            → (lies i ≡ z) × primitive.opens u.facts.has i × (i < length (set s.homes k (some (Some y))))) views id w
            (λ _ i z q. let old = r'.shelf.laid id g here' (omega arith) i z q in
            (old.0, old.1, let h = old.2 in omega arith))
            (λ j u apart at alive i z q. let old = r'.shelf.laid j u at alive i z q in
            (old.0, old.1, let h = old.2 in omega arith));
        last = λ i none. r'.shelf.last i
            (back primitive.opens views id g w (λ u. laid_in u.laid i ≡ None) here' (omega arith) (λ q. q) none);
      } in
      let s' : State (Option S) (View E S) = record { words = s.words; homes = s.homes; views = views } in
      let t = turns s' r' id ((k, Some y) ∷ []) g None g.laid gives here' (omega arith) shelf in (
        w,
        gives,
        tt,
        subst (λ (z : List (View E S) × List (ℕ × Option S)). R (record {
          words = slice_set s.words 0 (slice_index s.words 0);
          homes = homes_after s.homes z.1 gives;
          views = z.0;
        })) (λ i. (set_twice s.views id g w i, sym is i)) t,
        λ z q.
            let same : y ≡ z = same_Some y z (ap first-of (sym is ∙ q)) in (
              record {
                is = ap (λ l. turned v None r'.handed l) (taken_none k v.laid bare);
                more = prefix-then v.handed r.handed r'.handed (r.each_view id v here (omega arith)).sees.handed_in
                    ((k, y) ∷ [], given.1);
              },
              subst (λ u. HandedIn k u v w) same (record {
                before = r.handed;
                is = given.1;
                old = (r.each_view id v here (omega arith)).sees.handed_in;
                whole = λ a. sym ((r.each_view id v here (omega arith)).alone a).3;
                off = off-here k v.laid;
              }),
              ap rest is,
            ),
      )
