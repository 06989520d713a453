-- A pass that is alone knows at each step that every other number rests.
use Rattle.std.proofs.Common.{◌≡◌, ℕ, Option, false, sym, ◌∙◌, subst, arith}
use mathlib.Core.Option.{some}
use lib.ListN.{get_elem?}
use Rattle.atomic_table.specs.Table.{State, Me, Allows}
use Rattle.cqs_rule_laws.specs.declared.view.View.{View}
use Rattle.cqs_rule_laws.specs.Alone.{TellsAlone}
use Rattle.cqs_rule_laws.specs.Client.{IsClient}
use Rattle.cqs_rule_laws.specs.Layout.{client_words}
use Rattle.cqs_rule_laws.specs.Object.{Object, Primitive}
use Rattle.cqs_rule_laws.specs.Ruled.{Ruled}
use Rattle.cqs_rule_laws.proofs.CrewLooks.{alone-rests}
use Rattle.cqs_rule_laws.proofs.Lists.{set_there}

-- nothing is told of a pass that isn't
pub not-alone : {C E S : Type 0} (primitive : C → Primitive E S) (v : View E S) → v.alone ≡ false
    → TellsAlone primitive v
not-alone primitive v other = λ one alone. absurd (cc (other, alone))

module _ {C E S : Type 0} (object : Object E) (all : C → Primitive E S) (passes limit : ℕ) (x : C)
    (client : IsClient object (all x)) where
  abbrev R : State (Option S) (View E S) → Type 0
  R = Ruled object (all x) passes limit

  -- between any two steps
  pub alone-now : (s : State (Option S) (View E S)) → R s → (id : ℕ) (v : View E S) → get_elem? s.views id ≡ some v
      → TellsAlone all v
  alone-now s r id v here = λ one alone.
      let k = r.each_view id v here (omega arith) in
      record {
        client = x;
        opening_is = sym k.opening_is;
        hidden = r.hidden;
        words = client_words s.words;
        handed = r.handed;
        shown = subst (λ l. (all x).shows r.hidden (client_words s.words) l r.handed) (sym (k.alone alone).2) r.shown;
        stands = k.stands;
        others = λ n other low.
            alone-rests object (all x) passes limit client s r id v here (omega arith) alone n other
            (let same = k.passes_are in omega arith);
        places = r.room.doing ∙ sym k.passes_are;
        drawn = (k.alone alone).4;
      }

  -- so each step that keeps the rule tells this besides
  pub tells-alone : (slots id : ℕ) (me : Me (Option S) (View E S)) (word : ℕ) (f : ℕ → ℕ)
      (told : ℕ → Me (Option S) (View E S) → Type 0)
      → Allows (Ruled object (all x) passes limit) slots id me word f told
      → Allows (Ruled object (all x) passes limit) slots id me word f (λ n me'. told n me' × TellsAlone all me'.0)
  tells-alone slots id me word f told allowed s r homes here small =
      let t = allowed s r homes here small in (
        t.0,
        t.1,
        t.2,
        t.3,
        (t.4, alone-now _ t.3 id t.0 (set_there s.views _ _ t.0 here)),
      )
