use Rattle.std.proofs.Common.{◌<◌, Some, ap, sym, subst}
use Rattle.cqs_rule_laws.specs.Lists.{Has}
use Rattle.cqs_rule.specs.Passes.{pass_view, IsOf}
use Rattle.cqs_rule_laws.proofs.HandedBy.{was-left, was-swapped}
use Rattle.cqs_pool.specs.Pool.{pool_object}
use Rattle.cqs_pool_values.specs.Pools.{IsFilled, AreFilled}
use Rattle.cqs_pool_values.specs.Values.{in_slot}
use Rattle.cqs_pool_values.proofs.Values.{all-filled, laid-swapped, lays-value, tidy-swapped, tidy-left, tidy-put, ends-slots}
use Rattle.cqs_pool_values.proofs.opening.ValuePool.put.Goals as goal

pub put-requires-clause-full : goal.put-requires-clause-full
put-requires-clause-full g c = λ κs lives.
    let e = c.args.item.element.number in
    let v = pass_view c.args.pass.now in
    let left = c.in-Ok.ensures.claimed.left.1 in
    let b = c.requires.belongs in
    let low = b.mine.live.known.low e c.requires.has in
    lays-value e (in_slot c.args.item.value) (pass_view c.claim_spares.new.pass) (pass_view c.lay.new.pass)
    c.lay.ensures.laid
    (subst (IsFilled e) (sym (ap (λ z. z.handed) left.is)) (b.filled e (subst (λ o. e < o.size) b.mine.opening low)))

pub returns-clause-handed : goal.returns-clause-handed
returns-clause-handed g c =
    let e = c.args.item.element.number in
    let y = in_slot c.args.item.value in
    let swap = c.lay.ensures.laid in
    let h = c.in-Ok-put.ensures.handed y
    (laid-swapped e (Some y) (pass_view c.claim_spares.new.pass) (pass_view c.lay.new.pass) swap) in
    let is = c.in-Ok.ensures.claimed.left.1.is in
    was-left pool_object e y _ (pass_view c.claim_spares.new.pass) _
    (ap (λ z. z.handed) is) (ap (λ z. z.seen) is) (ap (λ z. z.number) is)
    (was-swapped pool_object e y _ (pass_view c.claim_spares.new.pass) _ _ swap h)

pub returns-clause-belongs : goal.returns-clause-belongs
returns-clause-belongs g c =
    let e = c.args.item.element.number in
    let v = pass_view c.args.pass.now in
    let t = pass_view c.claim_spares.new.pass in
    let u = pass_view c.lay.new.pass in
    let w = pass_view c.put.new.pass in
    let b = c.requires.belongs in
    let left = c.in-Ok.ensures.claimed.left.1 in
    let swap = c.lay.ensures.laid in
    let h = (returns-clause-handed g c).handed in
    let rule = c.in-Ok-put.ensures.called.called in record {
      mine = c.put.ensures.belongs;
      filled = all-filled _ _ _
          (all-filled _ _ _ (subst (AreFilled _) (sym (ap (λ z. z.handed) left.is)) b.filled) swap.more) rule.handed;
      tidy = tidy-put e u w
          (tidy-swapped e (Some (in_slot c.args.item.value)) t u (tidy-left v t _ _ _ b.tidy left)
          (subst (λ z. Has e z.facts.has.slots) (sym left.is) c.requires.has) swap) rule.unlaid
          (ends-slots u w _ _ _ _ c.in-Ok-put.ensures.ends) h.off;
    }

-- each slot was seen not free
pub returns-in_default-clause-belongs : goal.returns-in_default-clause-belongs
returns-in_default-clause-belongs g c =
    let b = c.requires.belongs in
    let left = c.in_default.ensures.crowded.left in
    record {
      mine = subst (λ q. IsOf q c.claim_spares.new.pass) c.queue.ensures c.claim_spares.ensures.belongs;
      filled = subst (AreFilled _) (sym (ap (λ z. z.handed) left.is)) b.filled;
      tidy = tidy-left (pass_view c.args.pass.now) (pass_view c.claim_spares.new.pass) _ _ _ b.tidy left;
    }
