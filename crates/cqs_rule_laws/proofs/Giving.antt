-- A step on a word of the client by which the pass gives a slot away: the value that lies there is handed in by the
-- same step.
use Rattle.std.proofs.Common.{◌≡◌, ℕ, ◌<◌, Bool, List, [], ◌∷◌, set, sym, refl, ap, ◌∙◌, subst, arith, inl, Option, Some, None, length}
use Rattle.std.specs.Prelude.{slice_index, slice_set}
use Rattle.std.proofs.lemmas.Option.{same_Some}
use mathlib.Core.Option.{none}
use Rattle.atomic_table.specs.Table.{State, Me, keeps, step, Allows}
use Rattle.cqs_rule_laws.specs.declared.view.View.{View}
use Rattle.cqs_rule_laws.specs.Client.{IsClient}
use Rattle.cqs_rule_laws.specs.Events.{Event, Moves}
use Rattle.cqs_rule_laws.specs.Layout.{client_place}
use Rattle.cqs_rule_laws.specs.Object.{Object, Primitive}
use Rattle.cqs_rule_laws.specs.Ruled.{Ruled}
use Rattle.cqs_rule_laws.specs.Slots.{laid_in, handed_in}
use Rattle.cqs_rule_laws.specs.SlotSteps.{GivesAway, HandedBy, given_by}
use Rattle.cqs_rule_laws.proofs.Handing.{hand-in, giving, off-here, handed-here}
use Rattle.cqs_rule_laws.proofs.Given.{once, once-owned, tied-ahead, last-tied}
use Rattle.cqs_rule_laws.proofs.Lists.{set_there, longer}
use Rattle.cqs_rule_laws.proofs.Moves.{moved}
use Rattle.cqs_rule_laws.proofs.Swaps.{set_twice, saw-given, none-off}

module _ {C E S : Type 0} (object : Object E) (primitive : C → Primitive E S) (passes limit : ℕ) (x : C)
    (client : IsClient object (primitive x)) (event : Event E) (made : ℕ → Bool) where
  pub gives : (slots id : ℕ) (me : Me (Option S) (View E S)) (i first : ℕ) (f : ℕ → ℕ) (slot : ℕ)
      → me.0.weight ≡ 1
      → me.0.facts.open_slot ≡ None → i < 4
      → GivesAway object (primitive x) slots event made slot me.0
      → Moves object (primitive x) event made me.0.number me.0.facts i f
      → Allows (Ruled object (primitive x) passes limit) slots id me (client_place i) f
      (given_by object primitive event made slot (step slots (client_place i) first 0 none) me)
  gives slots id me i first f slot one shut few give law s r homes here small =
      let v = me.0 in
      let y = give.lies.value in
      let known = r.each_view id v here (omega arith) in
      let owns = (r.shelf.laid id v here (omega arith) slot (Some y) give.lies.laid).1 in
      let t = hand-in object (primitive x) passes limit client (once slot) s r id v slot y here (omega arith)
      (inl give.lies.laid)
      (tied-ahead object.gives (length s.homes) r.log v.handed r.handed slot y give.lies.last known.sees.handed_in
      give.lies.filled r.tied) in
      let g : View E S = giving object (primitive x) passes limit client v r.handed slot y in
      let s' : State (Option S) (View E S) =
      record { words = s.words; homes = s.homes; views = set s.views id g } in
      let more = longer v.handed r.handed ((slot, y) ∷ []) known.sees.handed_in in
      let m = moved object primitive passes limit x client event made slots id (g, me.1) i f
      (record {
        one = one;
        shut = shut;
        stay = λ n k z low is o. give.others n k z is o;
        given = give.gives;
        mine = λ k some. once-owned slot k ((primitive x).opens v.facts.has) owns some;
      }) few law s' t.0 homes
      (set_there s.views id v g here) small in
      let w = m.0 in
      let told = m.2 in (
        w,
        keeps,
        tt,
        subst (λ (views : List (View E S)). Ruled object (primitive x) passes limit (record {
          words = slice_set s.words (client_place i) (f (slice_index s.words (client_place i)));
          homes = s.homes;
          views = views;
        })) (set_twice s.views id g w) m.1,
        (
          record { saw = saw-given object v g w told.0.saw refl more (none-off slot v.laid); was = told.0.was },
          refl,
          told.2,
          λ z q.
              let same : y ≡ z = same_Some y z (same_Some (Some y) (Some z) (sym give.lies.laid ∙ q)) in
              subst (λ u. HandedBy object slot u v w) same (record {
                handed = (record {
                  before = r.handed;
                  is = m.3 ∙ t.1;
                  old = known.sees.handed_in;
                  whole = λ a. sym (known.alone a).3;
                  off = ap (λ l. laid_in l slot) m.4 ∙ off-here slot v.laid;
                });
                numbered = last-tied object.gives slots w.seen w.handed slot y
                    (let low = (r.shelf.laid id v here (omega arith) slot (Some y) give.lies.laid).2 in omega arith) m.5
                    (ap (λ l. handed_in l slot) (m.3 ∙ t.1) ∙ handed-here r.handed slot y);
              }),
        ),
      )

  -- the same at a word's place, by what the step computes of the word found
  pub gives-at : (slots id : ℕ) (me : Me (Option S) (View E S)) (i place first : ℕ) (f g : ℕ → ℕ) (slot : ℕ)
      → me.0.weight ≡ 1
      → me.0.facts.open_slot ≡ None → i < 4
      → place ≡ client_place i → ((n : ℕ) → g n ≡ f n)
      → GivesAway object (primitive x) slots event made slot me.0
      → Moves object (primitive x) event made me.0.number me.0.facts i f
      → Allows (Ruled object (primitive x) passes limit) slots id me place g
      (given_by object primitive event made slot (step slots place first 0 none) me)
  gives-at slots id me i place first f g slot one shut few is same give law =
      subst (λ (z : ℕ × (ℕ → ℕ)). Allows (Ruled object (primitive x) passes limit) slots id me z.0 z.1
      (given_by object primitive event made slot (step slots z.0 first 0 none) me))
      (λ j. (sym is j, λ n. sym (same n) j)) (gives slots id me i first f slot one shut few give law)
