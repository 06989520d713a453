use Rattle.std.proofs.Common.{◌≡◌, ◌<◌, ◌∙◌, None, ap, sym, subst}
use Rattle.cqs_rule_laws.specs.Lists.{Has}
use Rattle.cqs_rule.specs.Passes.{pass_view, slots_of, IsOf}
use Rattle.cqs_rule_laws.specs.Slots.{laid_in}
use Rattle.cqs_pool_values.proofs.Values.{all-filled, lay-filled, low-slot, tidy-swapped}
use Rattle.cqs_rule_laws.specs.Given.{IsLastGiven}
use Rattle.cqs_pool.specs.Pool.{slot_given}
use Rattle.cqs_pool_values.specs.Values.{TookValue}
use Rattle.cqs_pool_values.proofs.opening.ValuePool.take_out.Goals as goal

pub unreachable-requires : goal.unreachable-requires
unreachable-requires g c =
    let v = pass_view c.args.pass.now in
    let e = c.number.result in
    let same = sym c.number.ensures in
    let mine = c.requires.mine in
    let low = mine.live.known.low e (subst (λ n. Has n v.facts.has.slots) same c.requires.has) in
    lay-filled e c.swap_slot.result _ _ c.swap_slot.ensures.lay
    (subst (λ n. laid_in v.laid n ≡ None) same c.requires.bare)
    (c.requires.filled e (subst (λ o. e < o.size) mine.opening low)) c.in-None.is

pub returns-clause-belongs : goal.returns-clause-belongs
returns-clause-belongs g c =
    let v = pass_view c.args.pass.now in
    let w = pass_view c.swap_slot.new.pass in
    let swap = c.swap_slot.ensures.swapped in record {
      mine = subst (λ q. IsOf q c.swap_slot.new.pass) c.queue.ensures c.swap_slot.ensures.belongs;
      filled = all-filled _ _ _ c.requires.filled swap.more;
      tidy = tidy-swapped c.number.result None v w c.requires.tidy
          (subst (λ n. Has n v.facts.has.slots) (sym c.number.ensures) c.requires.has) swap;
    }

pub swap_slot-requires-clause-slot : goal.swap_slot-requires-clause-slot
swap_slot-requires-clause-slot g c =
    let v = pass_view c.args.pass.now in
    let e = c.number.result in
    let mine = c.requires.mine in
    let has = subst (λ n. Has n v.facts.has.slots) (sym c.number.ensures) c.requires.has in
    subst (λ q. e < slots_of q) (sym c.queue.ensures)
    (low-slot e _ _ v mine.live.known has (mine.slots ∙ sym (ap (λ o. o.size) mine.opening)))

pub returns-clause-took : goal.returns-clause-took
returns-clause-took g c =
    let v = pass_view c.args.pass.now in
    let w = pass_view c.swap_slot.new.pass in
    let same = sym c.number.ensures in
    let lay = c.swap_slot.ensures.lay in
    let swap = c.swap_slot.ensures.swapped in
    let bare = subst (λ n. laid_in v.laid n ≡ None) same c.requires.bare in
    subst (λ n. TookValue n c.in-Some.field-0.value v w) c.number.ensures (record {
      handed = lay.handed;
      since = lay.since;
      seen = lay.seen;
      last = sym (lay.last bare) ∙ c.in-Some.is;
      put = subst (λ l. IsLastGiven slot_given c.number.result c.in-Some.field-0 l w.handed)
          (sym (ap (λ z. z.seen) swap.is)) (c.swap_slot.ensures.last bare c.in-Some.field-0 c.in-Some.is);
      swapped = swap;
    })
