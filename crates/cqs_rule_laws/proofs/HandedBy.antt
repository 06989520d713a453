-- A value that was handed in is still that of its entry after more was seen, and seen from before a claim.
use Rattle.std.proofs.Common.{◌≡◌, ◌∙◌, ℕ, true, List, [], ◌∷◌, ◌++◌, ap, sym, subst, Option, Some}
use Rattle.cqs_rule_laws.specs.declared.view.View.{View}
use Rattle.cqs_rule_laws.specs.Given.{IsLastGiven, times_given}
use Rattle.cqs_rule_laws.specs.Lists.{IsPrefix}
use Rattle.cqs_rule_laws.specs.Object.{Object}
use Rattle.cqs_rule_laws.specs.Slots.{LaysNone}
use Rattle.cqs_rule_laws.specs.SlotSteps.{HandedBy, Swapped, WasHandedBy}
use Rattle.cqs_rule_laws.proofs.Given.{values-stay}
use Rattle.cqs_rule_laws.proofs.Lists.{prefix-then}

module _ {E S : Type 0} (object : Object E) (slot : ℕ) (value : S) where
  pub was-handed : (v u w : View E S) (before : List E) (entry : E) → HandedBy object slot value v u
      → u.seen ≡ before ++ entry ∷ [] → IsPrefix v.seen before → object.names v.number entry ≡ true
      → object.gives entry ≡ Some slot → IsPrefix u.seen w.seen → IsPrefix u.handed w.handed → LaysNone u.laid w.laid
      → WasHandedBy object slot value v w
  was-handed v u w before entry by ends since own gives seen more less =
      let h = by.handed in record {
        handed = record {
          before = h.before;
          old = h.old;
          now = (more.0, more.1 ∙ ap (λ l. l ++ more.0) h.is);
          off = less slot h.off;
        };
        before = before;
        entry = entry;
        since = since;
        seen = subst (λ l. IsPrefix l w.seen) ends seen;
        own = own;
        gives = gives;
        numbered = subst (λ l. IsLastGiven object.gives slot value l w.handed) ends
            (values-stay slot u.handed w.handed (times_given object.gives u.seen slot) value more by.numbered);
      }

  pub was-left : (v t w : View E S) → t.handed ≡ v.handed → t.seen ≡ v.seen → t.number ≡ v.number
      → WasHandedBy object slot value t w → WasHandedBy object slot value v w
  was-left v t w handed seen number was = record {
    handed = record {
      before = was.handed.before;
      old = subst (λ l. IsPrefix l was.handed.before) handed was.handed.old;
      now = was.handed.now;
      off = was.handed.off;
    };
    before = was.before;
    entry = was.entry;
    since = subst (λ l. IsPrefix l was.before) seen was.since;
    seen = was.seen;
    own = ap (λ n. object.names n was.entry) (sym number) ∙ was.own;
    gives = was.gives;
    numbered = was.numbered;
  }

  -- the same, seen from before a swap
  pub was-swapped : (laid : List (ℕ × Option S)) (v t w : View E S) → Swapped laid v t
      → WasHandedBy object slot value t w → WasHandedBy object slot value v w
  was-swapped laid v t w swap was = record {
    handed = record {
      before = was.handed.before;
      old = prefix-then v.handed t.handed was.handed.before swap.more was.handed.old;
      now = was.handed.now;
      off = was.handed.off;
    };
    before = was.before;
    entry = was.entry;
    since = subst (λ (z : View E S). IsPrefix z.seen was.before) swap.is was.since;
    seen = was.seen;
    own = ap (λ (z : View E S). object.names z.number was.entry) (sym swap.is) ∙ was.own;
    gives = was.gives;
    numbered = was.numbered;
  }
