-- What the pass of one round of a barrier that is alone is after a call, by the call's entries.
use Rattle.std.proofs.Common.{◌≡◌, ℕ, true, List, [], ◌∷◌, ◌++◌, refl, ap, sym, ◌∙◌}
use Rattle.std.specs.List.{fold}
use Rattle.std.proofs.lemmas.List.Sums.{fold-append}
use Rattle.cqs_barrier_object.specs.declared.entries.BarrierEntry.{BarrierEntry}
use Rattle.cqs_barrier_object.specs.declared.entries.BarrierEntry.TheVariants as entry
use Rattle.cqs_barrier_object.specs.BarrierEntries.{after_entry, object_after}
use Rattle.cqs_barrier_object.specs.BarrierObject.{Barrier, opening}
use Rattle.cqs_barrier_object.specs.SoleCaller.{delivers}
use Rattle.cqs_barrier.specs.Calls.{CallRule, IsMine, Rests, plain_after}
use Rattle.cqs_barrier.proofs.AloneOrder.{Legal, legal-alone}
use Rattle.cqs_rule_laws.specs.declared.view.Opening.{Opening}
use Rattle.cqs_rule_laws.specs.declared.view.View.{View}
use Rattle.cqs_rule.specs.Passes.{pass_view}
use Rattle.cqs_rule_laws.specs.Views.{IsSame}
use Rattle.cqs_rule_laws.proofs.Places.{goes-same, known-still}
use Rattle.cqs_floor_alone_kinds.specs.declared.round_sole.RoundSole.{RoundSole}
use Rattle.cqs_floor_alone_kinds.specs.SoleRound.{ComesTo}

-- deliveries leave the remaining number
pub delivered-remaining : (ks : List ℕ) (o : Barrier) → (fold after_entry o (delivers ks)).remaining ≡ o.remaining
delivered-remaining [] o = refl
delivered-remaining (k ∷ ks) o = delivered-remaining ks (after_entry o (entry.Deliver k))

module _ {T : Type 0} (v w : View BarrierEntry T) where
  -- the plain barrier then
  pub plain-next : (entries : List BarrierEntry) → IsSame v w → w.seen ≡ v.seen ++ entries
      → plain_after w ≡ fold after_entry (plain_after v) entries
  plain-next entries same seen =
      ap (λ (o : Opening). object_after o.size w.seen) same.opening
      ∙ ap (object_after v.opening.size) seen
      ∙ fold-append after_entry (opening v.opening.size) v.seen entries

  -- what a call of a pass that is alone tells
  pub told : (own further : List BarrierEntry) → CallRule v own further w → v.alone ≡ true
      → Legal v (own ++ further) w
  told own further rule alone = legal-alone v w (own ++ further) rule.called rule.legal alone

-- the round comes to it so
pub comes-to : (x y : RoundSole) (entries : List BarrierEntry) (held : ℕ) (waits : List ℕ)
    → IsMine y.barrier y.pass → IsSame (pass_view x.pass) (pass_view y.pass)
    → (pass_view y.pass).seen ≡ (pass_view x.pass).seen ++ entries
    → Rests (pass_view x.pass) held waits (pass_view y.pass)
    → held ≡ (fold after_entry (plain_after (pass_view x.pass)) entries).remaining
    → ComesTo entries waits x y
comes-to x y entries held waits mine same seen rests holds = record {
  mine = mine;
  same = same;
  seen = seen;
  ready = rests.ready;
  waits_are = rests.waits_are;
  holds = rests.held_is
      ∙ (holds ∙ ap (λ (o : Barrier). o.remaining)
      (sym (plain-next (pass_view x.pass) (pass_view y.pass) entries same seen)));
  keeps = λ wait has there. record {
    open_yet = there;
    place = known-still (pass_view x.pass) (pass_view y.pass) wait (goes-same _ _ same) has.place;
  };
}
