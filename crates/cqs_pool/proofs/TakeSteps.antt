-- A take is its steps: a load of the suspend counter, a claim of two spare slots, and a suspend that draws a number.
use Rattle.std.proofs.Common.{◌≡◌, ℕ, ◌<◌, true, List, [], ◌∷◌, ◌++◌, sym, refl, ap, ◌∙◌, subst, if◌then◌else◌, lt-ltb}
use Rattle.cqs_core.specs.declared.cells.CoreState.{CoreState}
use Rattle.cqs_core.specs.declared.cells.CoreState.TheVariants as state
use Rattle.cqs_core.specs.QueueSteps.{installs, takes, enters}
use Rattle.cqs_pool_object.specs.declared.entries.PoolEntry.{PoolEntry}
use Rattle.cqs_pool_object.specs.declared.entries.PoolEntry.TheVariants as entry
use Rattle.cqs_pool_object.specs.PoolEntries.{IsLegal}
use Rattle.cqs_rule_laws.specs.declared.view.Facts.{Facts}
use Rattle.cqs_rule_laws.specs.declared.view.Has.{Has as OwnHas}
use Rattle.cqs_rule_laws.specs.declared.view.Sighting.TheVariants.{Word}
use Rattle.cqs_rule_laws.specs.declared.view.View.{View}
use Rattle.cqs_rule_laws.specs.Called.{Called}
use Rattle.cqs_rule_laws.specs.Causes.{Counted}
use Rattle.cqs_rule_laws.specs.Layout.{suspends_place}
use Rattle.cqs_rule_laws.specs.Lists.{Has}
use Rattle.cqs_rule_laws.specs.Saw.{Saw}
use Rattle.cqs_rule.specs.Claims.{Claimed, Crowds}
use Rattle.cqs_rule_laws.proofs.Calls.{called-by, called-then, called-and}
use Rattle.cqs_rule_laws.proofs.Causes.{Onward, below-later, counted}
use Rattle.cqs_rule_laws.proofs.Lists.{prefix-then}
use Rattle.cqs_rule_laws.proofs.Prefixes.{prefix-is, saw-prefix}
use Rattle.cqs_rule.proofs.Claiming.{called-left, crowded-after, saw-left}
use Rattle.cqs_rule_laws.proofs.Rules.{call-rule, call-rule_own}
use Rattle.cqs_suspend.proofs.Sat.{Sat, sat-taken, sat-installed}
use Rattle.cqs_suspend.specs.Suspends.{EntersBy}
use Rattle.cqs_pool.specs.Answers.{facts_below, IsBelow, IsCrowded}
use Rattle.cqs_rule_laws.specs.CallRule.{IsReady}
use Rattle.cqs_pool.specs.Calls.{CallRule, Rests}
use Rattle.cqs_pool.specs.Causes.{primitive_of, drawn_in, CellWas}
use Rattle.cqs_pool.specs.Pool.{pool_object}
use Rattle.cqs_pool.proofs.Counters.{NextIs, next-count}

module _ {T : Type 0} where
  pub loaded-called : (v u : View PoolEntry T) (n : ℕ) → NextIs v n u → Called pool_object v [] [] u
  loaded-called v u n next = called-by pool_object v u _ [] next.saw

  -- the counter was loaded below the limit
  below-at : (v u : View PoolEntry T) (n : ℕ) → n < v.limit → NextIs v n u
      → Saw pool_object v (facts_below n v.facts) [] u
  below-at v u n low next =
      subst (λ b. Saw pool_object v (record v.facts {
        may_draw = (if b then true else v.facts.may_draw);
        found = v.facts.found ++ Word suspends_place n ∷ [];
      }) [] u) (lt-ltb n v.limit low) next.saw

  -- And then slots were claimed, until the pass had two spare.
  pub record Prepared (v t : View PoolEntry T) : Type 0 where
    pub called : Called pool_object v [] [] t
    pub below : (w : View PoolEntry T) → Onward t w → IsBelow v w
    pub number : t.number ≡ v.number
    pub has : t.facts.has ≡ v.facts.has
    pub waits : t.facts.waits ≡ v.facts.waits

  pub prepared : (v u t : View PoolEntry T) (n : ℕ) → n < v.limit → NextIs v n u → Claimed 2 u t → Prepared v t
  prepared v u t n low next claimed =
      let saw = next.saw in
      let left = saw-left pool_object u t claimed.left.0 t.facts.spare_slots u.facts.duties claimed.left.1 in
      record {
        called = called-then pool_object v u t _ [] [] [] (called-by pool_object v u _ [] saw) left;
        below = λ w on. below-later pool_object drawn_in v u n saw w (next-count v u n next) low
            (prefix-then u.seen t.seen w.seen (saw-prefix pool_object u t _ _ left) on.seen)
            (prefix-then u.facts.found t.facts.found w.facts.found
            (prefix-is _ _ (ap (λ (f : Facts). f.found) left.facts_are)) on.found);
        number = left.same.number ∙ saw.same.number;
        has = ap (λ (f : Facts). f.has) left.facts_are ∙ ap (λ (f : Facts). f.has) saw.facts_are;
        waits = ap (λ (f : Facts). f.waits) left.facts_are ∙ ap (λ (f : Facts). f.waits) saw.facts_are;
      }

  -- or no slot was free
  pub is-crowded : (v u w : View PoolEntry T) (n : ℕ) → n < v.limit → NextIs v n u → Crowds 2 u w → IsCrowded v w
  is-crowded v u w n low next c =
      let left = saw-left pool_object u w c.heads c.spares u.facts.duties c.left in
      let seen : u.seen ≡ w.seen = ap (λ (z : View PoolEntry T). z.seen) (sym c.left.is) in
      record {
        loaded = n;
        below = low;
        counted = subst (λ l. Counted drawn_in v n l w) seen
            (counted pool_object drawn_in v u n next.saw w (next-count v u n next)
            (saw-prefix pool_object u w _ _ left) (prefix-is _ _ (ap (λ (f : Facts). f.found) left.facts_are)));
        crowded = crowded-after pool_object 2 (facts_below n v.facts) v u w (below-at v u n low next) refl refl c;
      }

  pub crowded-called : (v u w : View PoolEntry T) (n : ℕ) → NextIs v n u → Crowds 2 u w
      → Called pool_object v [] [] w
  crowded-called v u w n next c = called-left pool_object v u w _ c.spares u.facts.duties next.saw (c.heads, c.left)

  rests-so : (v u w : View PoolEntry T) (k e : ℕ) (own : List PoolEntry) (has : OwnHas) (waits : List ℕ)
      (at : CoreState) → Prepared v u → IsReady v.facts → has.further ≡ u.facts.has.further
      → Sat pool_object primitive_of enters at k e own has waits u w → Rests v has.slots waits w
  rests-so v u w k e own has waits at p r same s = record {
    ready = record {
      idle = s.idle;
      further = ap (λ (h : OwnHas). h.further) s.has_is
          ∙ (same ∙ (ap (λ (h : OwnHas). h.further) p.has ∙ r.further));
    };
    elements_are = ap (λ (h : OwnHas). h.slots) s.has_is;
    waits_are = s.waits_are;
  }

  -- the element that stood there was taken
  pub took-called : (v u w : View PoolEntry T) (k e : ℕ) → Prepared v u
      → EntersBy pool_object primitive_of takes 2 k e u w → Has v.number v.own → IsLegal w.opening.size w.seen
      → CallRule v (entry.Enter v.number k ∷ []) (entry.Deliver k e ∷ []) w
  took-called v u w k e p s own legal =
      call-rule pool_object v w (entry.Enter v.number k ∷ []) (entry.Deliver k e ∷ [])
      (subst (λ z. Called pool_object v (entry.Enter z k ∷ entry.Deliver k e ∷ []) (entry.Deliver k e ∷ []) w)
      p.number (called-and pool_object v u w _ _ _ _ p.called s.called))
      (λ n. refl, tt) (λ n. refl, tt) own legal

  pub took-below : (v u w : View PoolEntry T) (k e : ℕ) → Prepared v u
      → EntersBy pool_object primitive_of takes 2 k e u w → IsBelow v w
  took-below v u w k e p t =
      p.below w (sat-taken pool_object primitive_of enters 2 k e u w t).onward

  pub took-cell : (u w : View PoolEntry T) (k e : ℕ) → EntersBy pool_object primitive_of takes 2 k e u w
      → (cell : CellWas state.Value k (entry.Deliver k e ∷ []) w) × (cell.payload ≡ e)
  took-cell u w k e t = (sat-taken pool_object primitive_of enters 2 k e u w t).cell

  pub took-rests : (v u w : View PoolEntry T) (k e : ℕ) → Prepared v u → IsReady v.facts
      → EntersBy pool_object primitive_of takes 2 k e u w → Rests v (e ∷ v.facts.has.slots) v.facts.waits w
  took-rests v u w k e p r t =
      subst (λ (z : List ℕ × List ℕ). Rests v (e ∷ z.0) z.1 w)
      (λ i. (ap (λ (h : OwnHas). h.slots) p.has i, p.waits i))
      (rests-so v u w k e _ _ _ state.Value p r refl (sat-taken pool_object primitive_of enters 2 k e u w t))

  -- the caller waits
  pub waits-called : (v u w : View PoolEntry T) (k : ℕ) → Prepared v u
      → EntersBy pool_object primitive_of installs 0 k 0 u w → Has v.number v.own → IsLegal w.opening.size w.seen
      → CallRule v (entry.Enter v.number k ∷ []) [] w
  waits-called v u w k p s own legal =
      call-rule_own pool_object v w (entry.Enter v.number k ∷ []) []
      (subst (λ z. Called pool_object v (entry.Enter z k ∷ []) [] w) p.number
      (called-and pool_object v u w _ _ _ _ p.called s.called))
      (λ n. refl, tt) own legal

  pub waits-below : (v u w : View PoolEntry T) (k : ℕ) → Prepared v u
      → EntersBy pool_object primitive_of installs 0 k 0 u w → IsBelow v w
  waits-below v u w k p t =
      p.below w (sat-installed pool_object primitive_of enters 0 k 0 u w t).onward

  pub waits-cell : (u w : View PoolEntry T) (k : ℕ) → EntersBy pool_object primitive_of installs 0 k 0 u w
      → CellWas state.Empty k [] w
  waits-cell u w k t = (sat-installed pool_object primitive_of enters 0 k 0 u w t).cell.0

  pub waits-rests : (v u w : View PoolEntry T) (k : ℕ) → Prepared v u → IsReady v.facts
      → EntersBy pool_object primitive_of installs 0 k 0 u w
      → Rests v v.facts.has.slots (v.facts.waits ++ k ∷ []) w
  waits-rests v u w k p r t =
      subst (λ (z : List ℕ × List ℕ). Rests v z.0 (z.1 ++ k ∷ []) w)
      (λ i. (ap (λ (h : OwnHas). h.slots) p.has i, p.waits i))
      (rests-so v u w k 0 _ _ _ state.Empty p r refl (sat-installed pool_object primitive_of enters 0 k 0 u w t))
