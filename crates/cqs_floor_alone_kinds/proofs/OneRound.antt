-- One round of a barrier after a call, by what the call left of its pass.
use Rattle.std.proofs.Common.{◌≡◌, ℕ, ◌+◌, ◌<◌, ◌≤◌, List, [], ◌∷◌, ◌++◌, map, refl, ap, sym, ◌∙◌, subst, arith}
use Rattle.std.specs.List.{fold}
use Rattle.std.proofs.lemmas.List.Elements.{filter-append}
use Rattle.cqs_core.specs.QueueLine.{Waiting}
use Rattle.cqs_barrier_object.specs.declared.entries.BarrierEntry.{BarrierEntry}
use Rattle.cqs_barrier_object.specs.declared.entries.BarrierEntry.TheVariants as entry
use Rattle.cqs_barrier_object.specs.BarrierEntries.{after_entry}
use Rattle.cqs_barrier_object.specs.BarrierObject.{Barrier}
use Rattle.cqs_barrier_object.specs.SoleCaller.{delivers, numbers_of}
use Rattle.cqs_barrier.specs.Calls.{plain_after}
use Rattle.cqs_rule_laws.specs.declared.view.Opening.{Opening}
use Rattle.cqs_rule_laws.specs.declared.view.View.{View}
use Rattle.cqs_rule_laws.specs.Lists.{Has}
use Rattle.cqs_rule.specs.Passes.{pass_view}
use Rattle.cqs_floor_alone_kinds.specs.declared.round_sole.RoundSole.{RoundSole}
use Rattle.cqs_floor_alone_kinds.specs.SoleRound.{ComesTo, IsFundedRound, is_news, news}
use Rattle.cqs_floor_alone_kinds.specs.SoleRounds.{seen_of}
use Rattle.cqs_floor_alone_kinds.proofs.RoundRests.{plain-next}

-- deliveries are news, and each who waits has one
pub news-delivers : (ks : List ℕ) → news (delivers ks) ≡ delivers ks
news-delivers [] = refl
news-delivers (k ∷ ks) = ap (λ es. entry.Deliver k ∷ es) (news-delivers ks)

pub delivers-line : (line : List Waiting)
    → delivers (numbers_of line) ≡ map (λ (w : Waiting). entry.Deliver w.wait) line
delivers-line [] = refl
delivers-line (w ∷ line) = ap (λ es. entry.Deliver w.wait ∷ es) (delivers-line line)

-- deliveries leave the next number
pub delivered-next : (ks : List ℕ) (o : Barrier)
    → (fold after_entry o (delivers ks)).waiters.next ≡ o.waiters.next
delivered-next [] o = refl
delivered-next (k ∷ ks) o = delivered-next ks _

-- it has room for fewer arrivals as well
pub funded-less : (x : RoundSole) (parties room room' : ℕ) → room' ≤ room → IsFundedRound parties room x
    → IsFundedRound parties room' x
funded-less x parties room room' less funded = record {
  mine = funded.mine;
  rests = record {
    size_is = funded.rests.size_is;
    number = funded.rests.number;
    alone = funded.rests.alone;
    ready = funded.rests.ready;
    holds = funded.rests.holds;
    below = omega (arith, funded.rests.below, less);
    drawn = funded.rests.drawn;
  };
}

module _ (x y : RoundSole) (entries : List BarrierEntry) (waits : List ℕ) (c : ComesTo entries waits x y) where
  abbrev v : View BarrierEntry (Unit {0})
  v = pass_view x.pass

  abbrev w : View BarrierEntry (Unit {0})
  w = pass_view y.pass

  -- the plain barrier then
  abbrev then_is : Barrier
  then_is = fold after_entry (plain_after v) entries

  pub object-next : plain_after w ≡ then_is
  object-next = plain-next v w entries c.same c.seen

  pub seen-next : seen_of y ≡ seen_of x ++ news entries
  seen-next = ap news c.seen ∙ filter-append is_news v.seen entries

  -- the pass rests after it
  pub funded-next : (parties room room' : ℕ) → IsFundedRound parties room x
      → then_is.waiters.next + room' ≤ (plain_after v).waiters.next + room
      → ((k : ℕ) → Has k waits → k < then_is.waiters.next) → IsFundedRound parties room' y
  funded-next parties room room' funded few drawn =
      let next = ap (λ (o : Barrier). o.waiters.next) object-next in
      record {
        mine = c.mine;
        rests = record {
          size_is = ap (λ (o : Opening). o.size) c.same.opening ∙ funded.rests.size_is;
          number = c.same.number ∙ funded.rests.number;
          alone = c.same.alone ∙ funded.rests.alone;
          ready = c.ready;
          holds = c.holds;
          below = omega (arith, next, funded.rests.below, few, c.same.limit);
          drawn = λ k has. subst (λ (o : Barrier). k < o.waiters.next) (sym object-next)
              (drawn k (subst (Has k) c.waits_are has));
        };
      }
