-- Passes that tell each other, one after the other, all that they have seen: what the one has seen then is the history
-- of all.
use Rattle.std.proofs.Common.{◌≡◌, ◌≢◌, ℕ, ◌+◌, ◌<◌, ◌≤◌, true, List, [], ◌∷◌, ◌++◌, Some, length, set, slice_get, refl, sym, ap, ◌∙◌, subst, arith, append_assoc}
use Rattle.std.proofs.lemmas.List.{append-nil, append_cancel_left, length-set}
use Rattle.std.proofs.lemmas.List.Elements.{filter-append}
use Rattle.std.proofs.lemmas.Option.{same_Some}
use mathlib.Core.Logic.{dite}
use native.Mathlib.Decide.{ℕ_discrete}
use Rattle.cqs_core.proofs.Places.{get-set_here, get-set_else, get-below}
use Rattle.cqs_rule_laws.specs.declared.client.ClientWords.{Ghosts}
use Rattle.cqs_rule_laws.specs.declared.view.View.{View}
use Rattle.cqs_rule_laws.specs.CallRule.{Course}
use Rattle.cqs_rule_laws.specs.Crew.{MadeNone}
use Rattle.cqs_rule_laws.specs.Lists.{Has, IsPrefix, part}
use Rattle.cqs_rule_laws.specs.Object.{Object}
use Rattle.cqs_rule_laws.specs.Saw.{Saw}
use Rattle.cqs_rule_laws.specs.Views.{as_before}
use Rattle.cqs_rule_laws.proofs.Calls.{same-here, same-then}
use Rattle.cqs_rule_laws.proofs.Lists.{prefix-then}
use Rattle.cqs_rule.specs.declared.queue.Pass.{Pass}
use Rattle.cqs_rule.specs.declared.queue.Queue.{Queue}
use Rattle.cqs_rule.specs.Histories.{StandsIn, GoesOnBy, AreOf, IsHistoryOf, HaveLookedOn}
use Rattle.cqs_rule.specs.Passes.{pass_view, IsOf}
use Rattle.cqs_rule.specs.Seats.{HasLookedOn}

-- of two lists that make none, the first is none
nothing-first : {A : Type 0} (xs ys : List A) → xs ++ ys ≡ [] → xs ≡ []
nothing-first [] ys none = refl
nothing-first (x ∷ xs) ys none = absurd (cc)

module _ {E S : Type 0} (object : Object E) where
  -- a pass that has made no step has looked on
  pub looked-none : (v : View E S) → Saw object v v.facts [] (as_before v v)
  looked-none v = record {
    between = [];
    seen = sym (append-nil (v.seen ++ []) ∙ append-nil v.seen);
    silent = λ n h. refl;
    facts_are = refl;
    same = record {
      number = refl;
      weight = refl;
      own = refl;
      crew = refl;
      alone = refl;
      made = refl;
      drawn = refl;
      limit = refl;
      cells = refl;
      slots = refl;
      passes = refl;
      opening = refl;
      segments = (same-here v).segments;
    };
    handed = ([], sym (append-nil v.handed));
    unlaid = λ j bare. bare;
    sole = λ a. refl;
  }

  -- a pass that has looked on twice has looked on
  pub looked-then : (v u w : View E S) → Saw object v v.facts [] (as_before v u) → (v.alone ≡ true → u.alone ≡ true)
      → Saw object u u.facts [] (as_before u w) → Saw object v v.facts [] (as_before v w)
  looked-then v u w p stays q = record {
    between = p.between ++ q.between;
    seen = q.seen
        ∙ ap (λ l. l ++ []) (ap (λ l. l ++ q.between) (p.seen ∙ append-nil _)
        ∙ append_assoc v.seen p.between q.between);
    silent = λ n h. filter-append (object.names n) p.between q.between
        ∙ ((λ i. p.silent n h i ++ q.silent n (subst (Has n) (sym p.same.own) h) i));
    facts_are = q.facts_are ∙ p.facts_are;
    same = same-then v (as_before v u) (as_before v w) p.same (record {
      number = q.same.number;
      weight = refl;
      own = q.same.own;
      crew = refl;
      alone = refl;
      made = refl;
      drawn = refl;
      limit = q.same.limit;
      slots = q.same.slots;
      cells = q.same.cells;
      passes = q.same.passes;
      opening = q.same.opening;
      segments = q.same.segments;
    });
    handed = prefix-then v.handed u.handed w.handed p.handed q.handed;
    unlaid = λ j bare. q.unlaid j (p.unlaid j bare);
    sole = λ a. (λ i. p.sole a i ++ q.sole (stays a) i);
  }

  -- its calls stand in what it has seen then
  pub looked-stands : (v w : View E S) → Saw object v v.facts [] (as_before v w) → StandsIn object w.seen v
  looked-stands v w saw = record {
    begins = (saw.between ++ [], saw.seen ∙ append_assoc v.seen saw.between []);
    once = λ n h.
        ap (part object.names n) (saw.seen ∙ append-nil (v.seen ++ saw.between))
        ∙ (filter-append (object.names n) v.seen saw.between
        ∙ (ap (λ l. part object.names n v.seen ++ l) (saw.silent n h) ∙ append-nil (part object.names n v.seen)));
  }

  -- they stand in each history that goes on from what it had seen to what it has seen then
  pub between-stands : (history : List E) (v w : View E S) → IsPrefix v.seen history → IsPrefix history w.seen
      → Saw object v v.facts [] (as_before v w) → StandsIn object history v
  between-stands history v w begins ends saw = record {
    begins = begins;
    once = λ n h.
        let parts : begins.0 ++ ends.0 ≡ saw.between =
        append_cancel_left v.seen (begins.0 ++ ends.0) saw.between
        (sym (append_assoc v.seen begins.0 ends.0) ∙ (ap (λ l. l ++ ends.0) (sym begins.1)
        ∙ (sym ends.1 ∙ (saw.seen ∙ append-nil (v.seen ++ saw.between))))) in
        let none : part object.names n begins.0 ≡ [] =
        nothing-first (part object.names n begins.0) (part object.names n ends.0)
        (sym (filter-append (object.names n) begins.0 ends.0) ∙ (ap (part object.names n) parts ∙ saw.silent n h)) in
        ap (part object.names n) begins.1
        ∙ (filter-append (object.names n) v.seen begins.0
        ∙ (ap (λ l. part object.names n v.seen ++ l) none ∙ append-nil (part object.names n v.seen)));
  }

  -- what a pass has done in a course stands in each history in which it stands after that
  pub course-goes-on : (history : List E) (v w : View E S) (own : List E) → Course object v own w
      → StandsIn object history w → GoesOnBy object history v own
  course-goes-on history v w own c stands = record {
    more = c.more ++ rest;
    begins = stands.begins.1 ∙ (ap (λ l. l ++ rest) c.seen ∙ append_assoc v.seen c.more rest);
    once = λ n h.
        filter-append (object.names n) c.more rest
        ∙ ((λ i. c.mine n h i ++ unnamed n (c.kept n h) i) ∙ append-nil (part object.names n own));
  }
    where
      rest : List E
      rest = stands.begins.0

      unnamed : (n : ℕ) → Has n w.own → part object.names n rest ≡ []
      unnamed n h = append_cancel_left (part object.names n w.seen) (part object.names n rest) []
          (sym (filter-append (object.names n) w.seen rest)
          ∙ (ap (part object.names n) (sym stands.begins.1)
          ∙ (stands.once n h ∙ sym (append-nil (part object.names n w.seen)))))

module _ {C S E : Type 0} {g : Ghosts C S E} where
  -- all that the first passes had seen has come to v, and no pass has made a step
  pub record HaveTold (n : ℕ) (v : View E S) (ps qs : List (Pass C S E g)) : Type 0 where
    pub many : length qs ≡ length ps
    pub same : (i : ℕ) (p q : Pass C S E g) → slice_get ps i ≡ Some p → slice_get qs i ≡ Some q
        → pass_view q ≡ pass_view p
    pub told : (i : ℕ) (p : Pass C S E g) → i < n → slice_get ps i ≡ Some p → IsPrefix (pass_view p).seen v.seen

  -- all that was seen at v has come to the first passes, and the others have made no step
  pub record HaveHeard (n : ℕ) (v : View E S) (ps qs : List (Pass C S E g)) : Type 0 where
    pub many : length qs ≡ length ps
    pub told : (i : ℕ) (p : Pass C S E g) → slice_get ps i ≡ Some p → IsPrefix (pass_view p).seen v.seen
    pub heard : (i : ℕ) (p : Pass C S E g) → i < n → slice_get ps i ≡ Some p → StandsIn g.object v.seen (pass_view p)
    pub looked : (i : ℕ) (p q : Pass C S E g) → i < n → slice_get ps i ≡ Some p → slice_get qs i ≡ Some q
        → HasLookedOn p q × ((pass_view p).alone ≡ true → (pass_view q).alone ≡ true)
        × MadeNone (pass_view p) (pass_view q)
    pub rest : (i : ℕ) (p q : Pass C S E g) → n ≤ i → slice_get ps i ≡ Some p → slice_get qs i ≡ Some q
        → pass_view q ≡ pass_view p

  pub told-none : (v : View E S) (ps : List (Pass C S E g)) → HaveTold 0 v ps ps
  told-none v ps = record {
    many = refl;
    same = λ i p q got now. ap pass_view (same_Some q p (sym now ∙ got));
    told = λ i p low. absurd (omega arith);
  }

  pub told-more : (n : ℕ) (v w : View E S) (ps qs : List (Pass C S E g)) (o o' : Pass C S E g) → HaveTold n v ps qs
      → slice_get qs n ≡ Some o → pass_view o' ≡ pass_view o → IsPrefix v.seen w.seen
      → IsPrefix (pass_view o).seen w.seen → HaveTold (n + 1) w ps (set qs n o')
  told-more n v w ps qs o o' was there same on all = record {
    many = length-set qs n o' ∙ was.many;
    same = λ i p q got now. dite (ℕ_discrete i n)
        (λ (e : i ≡ n).
        let is : q ≡ o' = same_Some q o' (sym now ∙ (ap (slice_get (set qs n o')) e ∙ get-set_here qs n o o' there)) in
        ap pass_view is ∙ (same ∙ was.same i p o got (ap (slice_get qs) e ∙ there)))
        (λ (other : i ≢ n).
        was.same i p q got (sym (get-set_else qs n i o' (λ e. other (sym e))) ∙ now));
    told = λ i p low got. dite (ℕ_discrete i n)
        (λ (e : i ≡ n).
        subst (λ (x : View E S). IsPrefix x.seen w.seen)
        (was.same i p o got (ap (slice_get qs) e ∙ there)) all)
        (λ (other : i ≢ n). prefix-then (pass_view p).seen v.seen w.seen (was.told i p (omega arith) got) on);
  }

  pub heard-none : (n : ℕ) (v : View E S) (ps qs : List (Pass C S E g)) → HaveTold n v ps qs → length ps ≤ n
      → HaveHeard 0 v ps qs
  heard-none n v ps qs was all = record {
    many = was.many;
    told = λ i p got. was.told i p (let low = get-below ps i p got in omega arith) got;
    heard = λ i p low. absurd (omega arith);
    looked = λ i p q low. absurd (omega arith);
    rest = λ i p q high got now. was.same i p q got now;
  }

  pub heard-more : (n : ℕ) (v w : View E S) (ps qs : List (Pass C S E g)) (o o' : Pass C S E g) → HaveHeard n v ps qs
      → slice_get qs n ≡ Some o → HasLookedOn o o' → ((pass_view o).alone ≡ true → (pass_view o').alone ≡ true)
      → MadeNone (pass_view o) (pass_view o') → IsPrefix v.seen (pass_view o').seen → w ≡ v
      → HaveHeard (n + 1) w ps (set qs n o')
  heard-more n v w ps qs o o' was there looked kept unmade all is =
      subst (λ x. HaveHeard (n + 1) x ps (set qs n o')) (sym is) (record {
        many = length-set qs n o' ∙ was.many;
        told = was.told;
        heard = λ i p low got. dite (ℕ_discrete i n)
            (λ (e : i ≡ n).
            between-stands g.object v.seen (pass_view p) (pass_view o') (was.told i p got) all
            (subst (λ (x : View E S). Saw g.object x x.facts [] (as_before x (pass_view o'))) (begun i p e got) looked))
            (λ (other : i ≢ n). was.heard i p (omega arith) got);
        looked = λ i p q low got now. dite (ℕ_discrete i n)
            (λ (e : i ≡ n).
            let here : q ≡ o' =
            same_Some q o' (sym now ∙ (ap (slice_get (set qs n o')) e ∙ get-set_here qs n o o' there)) in
            subst (λ (x : Pass C S E g). HasLookedOn p x × ((pass_view p).alone ≡ true → (pass_view x).alone ≡ true)
            × MadeNone (pass_view p) (pass_view x))
            (sym here)
            (subst (λ (x : View E S). Saw g.object x x.facts [] (as_before x (pass_view o'))
            × (x.alone ≡ true → (pass_view o').alone ≡ true) × MadeNone x (pass_view o')) (begun i p e got)
            (looked, kept, unmade)))
            (λ (other : i ≢ n).
            was.looked i p q (omega arith) got (sym (get-set_else qs n i o' (λ e. other (sym e))) ∙ now));
        rest = λ i p q high got now.
            was.rest i p q (omega arith) got (sym (get-set_else qs n i o' (λ e. omega arith)) ∙ now);
      })
    where
      begun : (i : ℕ) (p : Pass C S E g) → i ≡ n → slice_get ps i ≡ Some p → pass_view o ≡ pass_view p
      begun i p e got = was.rest i p o (omega arith) got (ap (slice_get qs) e ∙ there)

  pub heard-all : (n : ℕ) (v : View E S) (ps qs : List (Pass C S E g)) → HaveHeard n v ps qs → length ps ≤ n
      → HaveLookedOn ps qs
  heard-all n v ps qs was all = record {
    many = was.many;
    each = λ i p q got now.
        (was.looked i p q (let low = get-below ps i p got in omega arith) got now).0;
    kept = λ i p q got now.
        (was.looked i p q (let low = get-below ps i p got in omega arith) got now).1;
    made_none = λ i p q got now.
        (was.looked i p q (let low = get-below ps i p got in omega arith) got now).2;
  }

  pub history-all : (n : ℕ) (p h : Pass C S E g) (ps qs : List (Pass C S E g)) → HasLookedOn p h
      → g.object.legal (pass_view h).opening (pass_view h).seen → HaveHeard n (pass_view h) ps qs → length ps ≤ n
      → IsHistoryOf (pass_view h) p ps
  history-all n p h ps qs looked legal was all = record {
    legal = legal;
    first = looked-stands g.object (pass_view p) (pass_view h) looked;
    others = λ i o got. was.heard i o (let low = get-below ps i o got in omega arith) got;
  }

  -- one of them was set anew
  pub of-set : (q : Queue C S E) (ps : List (Pass C S E g)) (n : ℕ) (o o' : Pass C S E g) → AreOf q ps
      → slice_get ps n ≡ Some o → IsOf q o' → AreOf q (set ps n o')
  of-set q ps n o o' are there is i p got = dite (ℕ_discrete i n)
      (λ (e : i ≡ n).
      let here : p ≡ o' = same_Some p o' (sym got ∙ (ap (slice_get (set ps n o')) e ∙ get-set_here ps n o o' there)) in
      subst (IsOf q) (sym here) is)
      (λ (other : i ≢ n). are i p (sym (get-set_else ps n i o' (λ e. other (sym e))) ∙ got))
