-- A slot is taken out, what lies in it is exchanged, and it is put back.
use Rattle.std.proofs.Common.{◌≡◌, ◌∙◌, ℕ, List, [], ◌∷◌, Option, None, Some, ap, sym, subst}
use Rattle.atomic_table.specs.Table.{rest}
use Rattle.cqs_rule_laws.specs.declared.view.View.{View}
use Rattle.cqs_rule_laws.specs.SlotSteps.{TookOut, PutBack, Swapped, LayIn, LayLast, KnowsLast, HandedIn}
use Rattle.cqs_rule_laws.specs.Given.{IsLastGiven, times_given}
use Rattle.cqs_rule_laws.specs.Object.{Object}
use Rattle.cqs_rule_laws.proofs.Given.{values-stay}
use Rattle.cqs_rule_laws.proofs.Lists.{prefix-then}
use Rattle.cqs_rule_laws.proofs.Swaps.{swapped-then}

-- what lies in the first of such slots
abbrev value_in : {S : Type 0} → List (ℕ × Option S) → Option S
value_in [] = None
value_in (item ∷ items) = item.1

module _ {E S : Type 0} (k : ℕ) (v u : View E S) (items : List (ℕ × Option S)) (took : TookOut k v u items) where
  module _ (x : Option S) (w : View E S) (me : View E S × List (ℕ × Option S))
      (is : me ≡ (u, (k, x) ∷ rest items)) where
    pub only-by : me.1 ≡ (k, x) ∷ []
    only-by = ap (λ m. m.1) is ∙ ap (λ l. (k, x) ∷ rest l) took.items_are

    -- another value was put there
    abbrev PutsBack : Type 0
    PutsBack = (y : Option S) → me.1 ≡ (k, y) ∷ [] → PutBack ((k, y) ∷ me.0.laid) me.0 w

    back-by : PutsBack → PutBack ((k, x) ∷ u.laid) u w
    back-by put = subst (λ (z : View E S). PutBack ((k, x) ∷ z.laid) z w) (ap (λ m. m.0) is) (put x only-by)

    pub swap-by : PutsBack → v.facts.open_slot ≡ None → Swapped ((k, x) ∷ v.laid) v w
    swap-by put shut = subst (λ l. Swapped ((k, x) ∷ l) v w) (ap (λ (z : View E S). z.laid) took.is)
        (swapped-then k ((k, x) ∷ u.laid) items v u w took (back-by put) shut)

    -- what was found is what lay there
    pub lay-by : PutsBack → (found : Option S) → items ≡ (k, found) ∷ rest items → LayIn k found v w
    lay-by put found was =
        let same : found ≡ took.value = ap value_in (sym was ∙ took.items_are) in record {
          mine = λ x e. same ∙ took.mine x e;
          handed = u.handed;
          since = took.more;
          seen = (back-by put).more;
          last = λ e. same ∙ took.last e;
        }

    -- and it is of the last entry seen that gave the slot away
    pub last-by : PutsBack → (found : Option S) → items ≡ (k, found) ∷ rest items → (object : Object E)
        → KnowsLast object k u → LayLast object k found v w
    last-by put found was object knows unlaid y is =
        let same : found ≡ took.value = ap value_in (sym was ∙ took.items_are) in
        let last : IsLastGiven object.gives k y u.seen u.handed =
        knows y (sym (took.last unlaid) ∙ (sym same ∙ is)) in
        subst (λ l. IsLastGiven object.gives k y l w.handed) (ap (λ (z : View E S). z.seen) took.is)
        (values-stay k u.handed w.handed (times_given object.gives u.seen k) y (back-by put).more last)

    -- the first value was put there
    pub fill-by : PutBack me.0.laid me.0 w → v.facts.open_slot ≡ None → Swapped v.laid v w
    fill-by put shut =
        let back : PutBack u.laid u w = subst (λ (z : View E S). PutBack z.laid z w) (ap (λ m. m.0) is) put in
        subst (λ l. Swapped l v w) (ap (λ (z : View E S). z.laid) took.is)
        (swapped-then k u.laid items v u w took back shut)

  pub handed-by : (y : S) (w : View E S) (me : View E S × List (ℕ × Option S)) → me ≡ (u, (k, Some y) ∷ rest items)
      → ((z : S) → me.1 ≡ (k, Some z) ∷ [] → HandedIn k z me.0 w) → HandedIn k y v w
  handed-by y w me is handed =
      let h : HandedIn k y u w =
      subst (λ (z : View E S). HandedIn k y z w) (ap (λ m. m.0) is) (handed y (only-by (Some y) w me is)) in record {
        before = h.before;
        is = h.is;
        old = prefix-then v.handed u.handed h.before took.more h.old;
        whole = λ a. h.whole (ap (λ (z : View E S). z.alone) took.is ∙ a) ∙ took.whole a;
        off = h.off;
      }
