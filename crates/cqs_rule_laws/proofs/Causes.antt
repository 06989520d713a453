-- What a call found of the suspend counter and of a cell stays found while the call goes on.
use Rattle.std.proofs.Common.{◌≡◌, ℕ, ◌<◌, ◌≤◌, true, false, List, [], ◌∷◌, ◌++◌, sym, ap, ◌∙◌, subst, append_assoc, if◌then◌else◌}
use Rattle.std.specs.Prelude.{nat_lt}
use Rattle.std.proofs.lemmas.Bool.{le-ltb}
use Rattle.cqs_core.specs.declared.cells.CoreState.{CoreState}
use Rattle.cqs_rule_laws.specs.declared.view.Facts.{Facts}
use Rattle.cqs_rule_laws.specs.declared.view.Opening.{Opening}
use Rattle.cqs_rule_laws.specs.declared.view.Sighting.TheVariants.{Cell, Word}
use Rattle.cqs_rule_laws.specs.declared.view.View.{View}
use Rattle.cqs_rule_laws.specs.Causes.{cell_of, CellWasOnce, Counted, IsWorn, IsBelow}
use Rattle.cqs_rule_laws.specs.Exchanges.{HasCell}
use Rattle.cqs_rule_laws.specs.Facts.{facts_counted}
use Rattle.cqs_rule_laws.specs.Layout.{suspends_place}
use Rattle.cqs_rule_laws.specs.Lists.{IsPrefix}
use Rattle.cqs_rule_laws.specs.Object.{Object, Primitive}
use Rattle.cqs_rule_laws.specs.Saw.{Saw, WasShown}
use Rattle.cqs_rule_laws.proofs.Lists.{prefix-then}
use Rattle.cqs_rule_laws.proofs.Prefixes.{prefix-is, prefix-same, saw-prefix}

-- what a pass has seen and found goes on from what it had
pub record Onward {E S : Type 0} (u w : View E S) : Type 0 where
  pub seen : IsPrefix u.seen w.seen
  pub found : IsPrefix u.facts.found w.facts.found
  pub opening : w.opening ≡ u.opening

module _ {C E S : Type 0} (primitive : C → Primitive E S) where
  pub once-later : (at : CoreState) (k : ℕ) (v u w : View E S) → CellWasOnce primitive at k v u → Onward u w
      → CellWasOnce primitive at k v w
  once-later at k v u w o on = record {
    word = o.word;
    payload = o.payload;
    cell = o.cell;
    found = (
      o.found.0,
      o.found.1 ++ on.found.0,
      on.found.1 ∙ (ap (λ l. l ++ on.found.0) o.found.2
          ∙ (append_assoc v.facts.found _ on.found.0
          ∙ ap (λ l. v.facts.found ++ l) (append_assoc o.found.0 (Cell k o.word ∷ o.found.1) on.found.0))),
    );
    was = record {
      before = o.was.before;
      seen = prefix-then o.was.before u.seen w.seen o.was.seen on.seen;
      was = subst (λ (z : Opening). WasShown {S = S} primitive z (HasCell (cell_of k at o.payload)) o.was.before)
          (sym on.opening) o.was.was;
    };
  }

-- The counter was loaded as n, and nothing else was done.
module _ {E S : Type 0} (object : Object E) (drawn_in : List E → ℕ) (v u : View E S) (n : ℕ)
    (saw : Saw object v (facts_counted v.limit n v.facts) [] u) where
  pub counted : (w : View E S) → drawn_in u.seen ≡ n → IsPrefix u.seen w.seen → IsPrefix u.facts.found w.facts.found
      → Counted drawn_in v n u.seen w
  counted w drawn seen found = record {
    since = saw-prefix object v u _ _ saw;
    seen = seen;
    drawn = drawn;
    found = prefix-then _ u.facts.found w.facts.found (prefix-is _ _ (ap (λ (f : Facts). f.found) saw.facts_are)) found;
  }

  -- it was at the limit
  pub worn : drawn_in u.seen ≡ n → v.limit ≤ n → IsWorn drawn_in v u
  worn drawn high =
      let off : nat_lt n v.limit ≡ false = le-ltb n v.limit high in
      record {
        loaded = n;
        worn = high;
        counted = counted u drawn (prefix-same u.seen) (prefix-same u.facts.found);
        facts_are = saw.facts_are
            ∙ ap (λ b. record v.facts {
              may_draw = (if b then true else v.facts.may_draw);
              found = v.facts.found ++ Word suspends_place n ∷ [];
            }) off;
      }

  -- or below it
  pub below-later : (w : View E S) → drawn_in u.seen ≡ n → n < v.limit → IsPrefix u.seen w.seen
      → IsPrefix u.facts.found w.facts.found → IsBelow drawn_in v w
  below-later w drawn low seen found = record {
    loaded = n;
    before = u.seen;
    below = low;
    counted = counted w drawn seen found;
  }
