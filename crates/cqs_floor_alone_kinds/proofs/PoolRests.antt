-- What the only caller of a pool is after a call, and what its calls find.
use Rattle.std.proofs.Common.{◌≡◌, ◌⊎◌, ℕ, ◌+◌, ◌<◌, ◌≤◌, true, List, [], ◌++◌, ap, sym, ◌∙◌, subst, arith}
use Rattle.std.specs.List.{fold}
use Rattle.std.proofs.lemmas.List.Sums.{fold-append, sum_by-append}
use Rattle.cqs_core.specs.Keyed as keyed
use Rattle.cqs_core.proofs.Counts.{bit}
use Rattle.cqs_pool_object.specs.declared.entries.PoolEntry.{PoolEntry}
use Rattle.cqs_pool_object.specs.PoolEntries.{after_entry, object_after}
use Rattle.cqs_pool_object.specs.PoolObject as plain
use Rattle.cqs_pool.specs.Alone.{IsOnlyCaller}
use Rattle.cqs_pool.specs.Calls.{CallRule, Rests, plain_after}
use Rattle.cqs_pool.specs.Causes.{drawn_in, is_enter}
use Rattle.cqs_rule_laws.specs.declared.config.Place.{Place}
use Rattle.cqs_rule_laws.specs.declared.view.Opening.{Opening}
use Rattle.cqs_rule_laws.specs.declared.view.View.{View}
use Rattle.cqs_rule_laws.specs.Lists.{Has}
use Rattle.cqs_rule_laws.specs.Views.{IsSame}
use Rattle.cqs_rule_laws.proofs.Places.{goes-same, known-still}
use Rattle.cqs_floor_alone_kinds.specs.SolePool.{IsResting}
use Rattle.cqs_floor_alone_kinds.specs.Waits.{WaitsAt}

module _ {T : Type 0} where
  -- what a pass that is alone has seen after a call
  pub went : (v w : View PoolEntry T) (own further : List PoolEntry) → CallRule v own further w → v.alone ≡ true
      → w.seen ≡ v.seen ++ (own ++ further)
  went v w own further rule alone =
      rule.called.seen ∙ ap (λ es. v.seen ++ es) (rule.called.sole alone)

  -- A pass went from v to w: it has seen these entries more, has these elements in hand and these waits, and is the
  -- only caller still.
  pub record Comes (v w : View PoolEntry T) (entries : List PoolEntry) (slots waits : List ℕ) : Type 0 where
    pub same : IsSame v w
    pub seen : w.seen ≡ v.seen ++ entries
    pub rests : Rests v slots waits w
    pub only : IsOnlyCaller w

  module _ (v w : View PoolEntry T) (entries : List PoolEntry) (same : IsSame v w) (seen : w.seen ≡ v.seen ++ entries)
    where
      pub plain-next : plain_after w ≡ fold after_entry (plain_after v) entries
      plain-next =
          ap (λ (o : Opening). object_after o.size w.seen) same.opening
          ∙ ap (object_after v.opening.size) seen
          ∙ fold-append after_entry (plain.opening v.opening.size) v.seen entries

      -- a wait that is still among the pass's waits is its own on
      pub has-next : (wait : Place) → WaitsAt v wait → Has wait.index w.facts.waits → WaitsAt w wait
      has-next wait has there = record {
        open_yet = there;
        place = known-still v w wait (goes-same v w same) has.place;
      }

  -- the pass rests after it
  pub rests-next : (v w : View PoolEntry T) (entries : List PoolEntry) (slots waits : List ℕ)
      (c : Comes v w entries slots waits) (size room room' : ℕ) → IsResting v size room
      → ((fold after_entry (plain_after v) entries).way ≡ []) ⊎ ((fold after_entry (plain_after v) entries).line ≡ [])
      → drawn_in entries + room' ≤ room
      → ((k : ℕ) → Has k waits → k < (fold after_entry (plain_after v) entries).next)
      → IsResting w size room'
  rests-next v w entries slots waits c size room room' rests still few drawn =
      let is = plain-next v w entries c.same c.seen in
      let counted : drawn_in w.seen ≡ drawn_in v.seen + drawn_in entries =
      ap drawn_in c.seen ∙ sum_by-append (λ e. bit (is_enter e)) v.seen entries in
      record {
        size_is = ap (λ (o : Opening). o.size) c.same.opening ∙ rests.size_is;
        most = rests.most;
        few = omega (arith, c.same.limit, rests.few);
        number = c.same.number ∙ rests.number;
        only = c.only;
        ready = c.rests.ready;
        still = subst (λ (o : plain.Pool). (o.way ≡ []) ⊎ (o.line ≡ [])) (sym is) still;
        below = omega (arith, counted, rests.below, few, c.same.limit);
        drawn = λ k has. subst (λ (o : plain.Pool). k < o.next) (sym is)
            (drawn k (subst (Has k) c.rests.waits_are has));
      }
