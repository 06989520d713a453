-- An element is put: a number is drawn to resume at, and the value that lies in the element's slot is handed in by the
-- same step.
use Rattle.std.proofs.Common.{◌≡◌, ◌≢◌, ℕ, ◌+◌, ◌<◌, ◌^◌, ◌%◌, List, [], ◌∷◌, length, set, sym, refl, ap, ◌∙◌, subst, arith, inl, Option, Some, None}
use Rattle.std.specs.Prelude.{slice_index, slice_set}
use Rattle.std.proofs.lemmas.Option.{same_Some}
use mathlib.Core.Option.{none}
use Rattle.atomic_table.specs.Table.{State, Me, keeps, step, stepped, Allows}
use Rattle.cqs_core.specs.declared.doings.Doing.TheVariants as doing
use Rattle.cqs_core.specs.QueueStages as stage
use Rattle.cqs_core.specs.QueueSteps.{puts, one_element}
use Rattle.cqs_rule_laws.specs.declared.view.View.{View}
use Rattle.cqs_rule_laws.specs.Client.{IsClient}
use Rattle.cqs_rule_laws.specs.Lists.{Has}
use Rattle.cqs_rule_laws.specs.Manner.{Suits}
use Rattle.cqs_rule_laws.specs.Object.{Object, Primitive}
use Rattle.cqs_rule_laws.specs.Ruled.{Ruled}
use Rattle.cqs_rule_laws.specs.Slots.{laid_in, handed_in, taken_off}
use Rattle.cqs_rule_laws.specs.SlotSteps.{HandedBy, LaysValue, put_by}
use Rattle.cqs_rule_laws.proofs.Counters.{ReachesFew, reached-so}
use Rattle.cqs_rule_laws.proofs.Handing.{hand-in, giving, off-here, handed-here}
use Rattle.cqs_rule_laws.proofs.Given.{once, once-owned, tied-ahead, last-tied}
use Rattle.cqs_rule_laws.proofs.Lists.{passed-by, set_there, longer}
use Rattle.cqs_rule_laws.proofs.Shelves.{never-open}
use Rattle.cqs_rule_laws.proofs.Swaps.{set_twice, saw-given, none-off}

never : {A : Type 0} {x : A} → None ≡ Some x → ⊥
never e = cc

-- nothing is laid into the slot that is this
unlike : {S : Type 0} (l : List (ℕ × Option S)) (slot k : ℕ) (x : Option S) → laid_in l slot ≡ None
    → laid_in l k ≡ Some x → k ≢ slot
unlike l slot k x unlaid is = λ (same : k ≡ slot). never (sym unlaid ∙ (ap (laid_in l) (sym same) ∙ is))

-- an idle pass with this element in hand, and with no slot open
pub record MayPut {E S : Type 0} (primitive : Primitive E S) (slots element : ℕ) (v : View E S) : Type 0 where
  pub one : v.weight ≡ 1
  pub shut : v.facts.open_slot ≡ None
  pub suits : Suits primitive.manner puts
  pub idle : v.facts.doing ≡ doing.Idle
  pub has : Has element v.facts.has.slots
  pub fits : element < 2 ^ 20
  pub value : element < slots → LaysValue element v

module _ {E S : Type 0} (object : Object E) (primitive : Primitive E S) (passes limit : ℕ)
    (client : IsClient object primitive) where
  few-reached : (element : ℕ) (v : View E S) → v.facts.doing ≡ doing.Idle → Has element v.facts.has.slots
      → Suits primitive.manner puts → ReachesFew object primitive passes limit client v
  few-reached element v idle has suits h words log handed shown does there =
      client.begins_few h words log handed v.number v.facts.has one_element element shown (does ∙ ap Some idle) there
      has tt suits

  pub put : (slots id : ℕ) (me : Me (Option S) (View E S)) (element : ℕ) → MayPut primitive slots element me.0
      → Allows (Ruled object primitive passes limit) slots id me 32 (λ n. (n + 1) % 2 ^ 64)
      (put_by object element (step slots 32 1 0 none) me)
  put slots id me element may s r homes here small =
      let t = chosen (laid_in me.0.laid element) refl in (t.0, keeps, tt, t.1, t.2)
    where
      v : View E S
      v = me.0

      Told : Type 0
      Told = (w : View E S)
          × Ruled object primitive passes limit
          (stepped s 32 ((slice_index s.words 32 + 1) % 2 ^ 64) id me.1 w keeps)
          × put_by object element (step slots 32 1 0 none) me (slice_index s.words 32) (w, me.1)

      -- nothing lies there
      bare : laid_in v.laid element ≡ None → Told
      bare unlaid =
          let m = reached-so object primitive passes limit client slots id me puts stage.idle one_element element refl
          may.one may.suits may.idle (λ k. refl) may.has may.fits
          (record {
            laid = λ k x is. unlike v.laid element k x unlaid is;
            out = λ k out. absurd (never-open v k may.shut out);
            given = λ k low. passed-by element k 1 0 (λ same. never (sym unlaid ∙ (may.value (omega arith)).laid));
            mine = λ k some. absurd (omega arith);
          }) (few-reached element v may.idle may.has may.suits) s r homes here small in
          let told = m.2 in
          (m.0, m.1, (told.0, told.1, told.2, told.3, told.4, λ y is. absurd (never (sym unlaid ∙ is))))

      full : (y : S) → laid_in v.laid element ≡ Some (Some y) → Told
      full y laid =
          let one = may.one in
          let known = r.each_view id v here (omega arith) in
          let stood = r.shelf.laid id v here (omega arith) element (Some y) laid in
          let lies = may.value (let low = stood.2 in omega arith) in
          let t = hand-in object primitive passes limit client (once element) s r id v element y here (omega arith)
          (inl laid)
          (tied-ahead object.gives (length s.homes) r.log v.handed r.handed element y lies.last known.sees.handed_in
          lies.filled r.tied) in
          let g : View E S = giving object primitive passes limit client v r.handed element y in
          let s' : State (Option S) (View E S) =
          record { words = s.words; homes = s.homes; views = set s.views id g } in
          let more = longer v.handed r.handed ((element, y) ∷ []) known.sees.handed_in in
          let m = reached-so object primitive passes limit client slots id (g, me.1) puts stage.idle one_element element
          refl may.one may.suits may.idle (λ k. refl) may.has may.fits
          (record {
            laid = λ k x is. unlike (taken_off element v.laid) element k x (off-here element v.laid) is;
            out = λ k out. absurd (never-open v k may.shut out);
            given = λ k low. refl;
            mine = λ k some. once-owned element k (primitive.opens v.facts.has) stood.1 some;
          }) (few-reached element g may.idle may.has may.suits) s' t.0 homes (set_there s.views id v g here) small in
          let w = m.0 in
          let told = m.2 in (
            w,
            subst (λ (views : List (View E S)). Ruled object primitive passes limit (record {
              words = slice_set s.words 32 ((slice_index s.words 32 + 1) % 2 ^ 64);
              homes = s.homes;
              views = views;
            })) (set_twice s.views id g w) m.1,
            (
              saw-given object v g w told.0 refl more (none-off element v.laid),
              refl,
              told.2,
              told.3,
              told.4,
              λ z q.
                  let same : y ≡ z = same_Some y z (same_Some (Some y) (Some z) (sym laid ∙ q)) in
                  subst (λ u. HandedBy object element u v w) same (record {
                    handed = (record {
                      before = r.handed;
                      is = m.3 ∙ t.1;
                      old = known.sees.handed_in;
                      whole = λ a. sym (known.alone a).3;
                      off = ap (λ l. laid_in l element) m.4 ∙ off-here element v.laid;
                    });
                    numbered = last-tied object.gives slots w.seen w.handed element y
                        (let low = stood.2 in omega arith) m.5
                        (ap (λ l. handed_in l element) (m.3 ∙ t.1) ∙ handed-here r.handed element y);
                  }),
            ),
          )

      lies : (x : Option S) → laid_in v.laid element ≡ Some x → Told
      lies x is =
          let one = may.one in
          let low : element < length s.homes = (r.shelf.laid id v here (omega arith) element x is).2 in
          let value = may.value (subst (λ z. element < z) homes low) in
          full value.value value.laid

      chosen : (o : Option (Option S)) → laid_in v.laid element ≡ o → Told
      chosen None is = bare is
      chosen (Some x) is = lies x is
