-- The loads of the crew's word: what a pass finds there, and that all others rest where it is alone.
use Rattle.std.proofs.Common.{◌≡◌, ◌≢◌, ℕ, ◌+◌, ◌<◌, ◌≤◌, Bool, true, List, [], ◌++◌, sym, refl, ◌∙◌, subst, ⊎_elim, inr, arith, eq-eqb, Option}
use Rattle.std.specs.Prelude.{slice_index, ◌==◌}
use Rattle.std.proofs.lemmas.List.{append-nil}
use Rattle.std.proofs.lemmas.Bool.{eqb-true, cases_lt}
use mathlib.Core.Option.{none, some}
use mathlib.Core.Logic.{dite}
use native.Mathlib.Decide.{ℕ_discrete}
use lib.ListN.{get_elem?}
use Rattle.atomic_table.specs.Table.{State, Me, step, stepped, keeps, Allows}
use Rattle.cqs_rule_laws.specs.declared.view.Drawn.{Drawn}
use Rattle.cqs_rule_laws.specs.declared.view.View.{View}
use Rattle.cqs_rule_laws.specs.Drawn.{draws_in}
use Rattle.cqs_rule_laws.specs.Hidden.{Hidden}
use Rattle.cqs_rule_laws.specs.Layout.{client_words}
use Rattle.cqs_rule_laws.specs.Lists.{Has}
use Rattle.cqs_rule_laws.specs.Views.{all_own, weight, grown, first_facts, live_in}
use Rattle.cqs_rule_laws.specs.Ruled.{Ruled, IsKept, Rests, Stands}
use Rattle.cqs_rule_laws.specs.Client.{IsClient}
use Rattle.cqs_rule_laws.specs.Object.{Object, Primitive}
use Rattle.cqs_rule_laws.specs.Saw.{Saw, IsLive}
use Rattle.cqs_rule_laws.specs.Crew.{counted_by, counted_after}
use Rattle.cqs_rule_laws.proofs.Lists.{one_there, two_of, longer}
use Rattle.cqs_rule_laws.proofs.Advance.{advance}
use Rattle.cqs_rule_laws.proofs.Others.{others-same}
use Rattle.cqs_rule_laws.proofs.WordStays.{still}
use Rattle.cqs_rule_laws.proofs.Shelves.{keeps-same}
use Rattle.cqs_rule_laws.proofs.Tells.{steps}
use Rattle.cqs_rule_laws.proofs.CrewWords.{crew-of, only-left}
use Rattle.cqs_rule_laws.proofs.CrewHeld.{live-before}

module _ {E S : Type 0} (object : Object E) (primitive : Primitive E S) (passes limit : ℕ)
    (client : IsClient object primitive) where
  abbrev R : State (Option S) (View E S) → Type 0
  R = Ruled object primitive passes limit

  -- where one pass is live, every other number rests
  pub sole-rests : (s : State (Option S) (View E S)) (r : R s) (id : ℕ) (v : View E S) → get_elem? s.views id ≡ some v
      → v.weight ≡ 1 → r.live ≡ 1 → (n : ℕ) → n ≢ v.number → n < passes → Rests r.hidden n
  sole-rests s r id v here one sole n other low =
      ⊎_elim
      (λ (below : n < r.made). was (r.kept n below))
      (λ (above : r.made ≤ n). record {
        facts = first_facts 0;
        stands = r.unused n above low;
        idle = refl;
        empty = refl;
        owes_none = refl;
        slotless = refl;
        waitless = refl;
      })
      (cases_lt n r.made)
    where
      was : IsKept s.views n → Rests r.hidden n
      was kept = dite (ℕ_discrete kept.place id)
          (λ (at : kept.place ≡ id).
          let k = r.each_view id v here (omega arith) in
          let is : kept.view ≡ v =
          one_there s.views id kept.view v (subst (λ j. get_elem? s.views j ≡ some kept.view) at kept.there) here in
          let has : Has n (all_own v) = subst (λ (x : View E S). Has n (all_own x)) is kept.has in
          let none : v.others ≡ [] = k.light (omega arith) in
          k.resting n (only-left n v.own (subst (λ l. Has n (v.own ++ l)) none has)) other)
          (λ (apart : kept.place ≢ id).
          let two = two_of weight s.views kept.place id kept.view v apart kept.there here in
          let l = r.crew.live_is in let some = kept.live in absurd (omega arith))

  -- and so it is where a pass knows that it is alone
  pub alone-rests : (s : State (Option S) (View E S)) (r : R s) (id : ℕ) (v : View E S) → get_elem? s.views id ≡ some v
      → 0 < v.weight → v.alone ≡ true → (n : ℕ) → n ≢ v.number → n < passes → Rests r.hidden n
  alone-rests s r id v here live alone =
      let one = (r.each_view id v here live).alone alone in sole-rests s r id v here one.1 one.0

  -- what is told of a pass that is alone follows from what the client shows
  abbrev pub TellsSole : (View E S → Type 0) → Type 0
  TellsSole told = (c : Hidden) (words : List ℕ) (w : View E S) → primitive.shows c words w.seen w.handed
      → primitive.opening ≡ w.opening
      → Stands c w.number w.facts → ((n : ℕ) → n ≢ w.number → n < w.passes → Rests c n) → told w

  -- the pass only looks at the crew's word
  pub looks : (s : State (Option S) (View E S)) (r : R s) (id : ℕ) (me : Me (Option S) (View E S)) (alone : Bool)
      (drawn : Drawn)
      → get_elem? s.views id ≡ some me.0 → me.0.weight ≡ 1 → (alone ≡ true → r.live ≡ 1)
      → (alone ≡ true → r.hidden.queue.resumes + drawn.own ≡ drawn.all + draws_in me.0.facts.found)
      → R (stepped s 0 (slice_index s.words 0) id me.1
      (record (grown me.0 me.0.facts (r.log ++ []) r.handed) {
        crew = slice_index s.words 0;
        alone = alone;
        drawn = drawn;
      }) keeps)
      × Saw object me.0 me.0.facts [] (grown me.0 me.0.facts (r.log ++ []) r.handed)
      × IsLive object (grown me.0 me.0.facts (r.log ++ []) r.handed)
  looks s r id me alone drawn here one sole knows =
      let v = me.0 in
      let k = r.each_view id v here (omega arith) in
      let n = slice_index s.words 0 in
      let t = still object primitive passes limit client s r v 0 r.hidden v.facts
      r.counters r.cells r.room r.door r.shown (others-same r.hidden v.number) k.stands k.payload_fits
      (keeps-same primitive.opens v) refl refl refl refl r.finals r.all_settled in (
        advance object primitive passes limit s r id me.1 v 0 n r.hidden [] v.facts n alone drawn here one
            (inr r.crew.word) sole knows t,
        (steps object primitive passes limit client s r id me 0 n r.hidden [] v.facts here one t).1,
        (steps object primitive passes limit client s r id me 0 n r.hidden [] v.facts here one t).2,
      )

  -- A load of the crew's word. Where the pass has a note of what another had seen, it has then seen all that.
  pub counts-after : (told : View E S → Type 0) (slots id : ℕ) (me : Me (Option S) (View E S)) → me.0.weight ≡ 1
      → TellsSole told
      → Allows R slots id me 0 (λ n. n) (counted_after object told (step slots 0 0 0 none) me)
  counts-after told slots id me one tells s r _ here small =
      let v = me.0 in
      let k = r.each_view id v here (omega arith) in
      let n = slice_index s.words 0 in
      let few = r.crew.few in
      let more = r.crew.live_few in
      let room = r.room.few_passes in
      let l = crew-of n r.made r.live r.crew.word (omega arith) in
      let b : Bool = live_in n == 1 in
      let is_one : b ≡ true → r.live ≡ 1 = λ e. sym l.0 ∙ eqb-true (live_in n) 1 e in
      let drawn : Drawn = record { all = r.hidden.queue.resumes; own = draws_in v.facts.found } in
      let w : View E S = record (grown v v.facts (r.log ++ []) r.handed) { crew = n; alone = b; drawn = drawn } in
      let t = looks s r id me b drawn here one is_one (λ a. refl) in (
        w,
        keeps,
        tt,
        t.0,
        (
          (
            record {
              crew = refl;
              weight = one;
              alone = refl;
              kept = λ a. eq-eqb (live_in n) 1 (l.0 ∙ (k.alone a).0);
              made_none = refl;
              saw = t.1;
            },
            refl,
            live-before object v w t.2,
            λ a. tells r.hidden (client_words s.words) w
                (subst (λ h. primitive.shows r.hidden (client_words s.words) h r.handed) (sym (append-nil r.log))
                r.shown)
                (sym k.opening_is) k.stands
                (λ m other low.
                sole-rests s r id v here one (is_one a) m other (let same = k.passes_are in omega arith)),
          ),
          longer v.other r.log [] k.sees.other,
        ),
      )

  -- a load of the crew's word
  pub counts : (told : View E S → Type 0) (slots id : ℕ) (me : Me (Option S) (View E S)) → me.0.weight ≡ 1
      → TellsSole told
      → Allows R slots id me 0 (λ n. n) (counted_by object told (step slots 0 0 0 none) me)
  counts told slots id me one tells s r room here small =
      let t = counts-after told slots id me one tells s r room here small in (t.0, t.1, t.2, t.3, t.4.0)
