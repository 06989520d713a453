use Rattle.std.proofs.Common.{◌<◌, ◌∙◌, ap, sym, subst}
use Rattle.cqs_rule_laws.specs.Lists.{Has}
use Rattle.cqs_rule.specs.Passes.{pass_view, slots_of, IsOf}
use Rattle.cqs_pool_values.proofs.Values.{low-slot}
use Rattle.cqs_pool_values.proofs.opening.ValuePool.lay.Goals as goal

pub returns-clause-belongs : goal.returns-clause-belongs
returns-clause-belongs g c = subst (λ q. IsOf q c.swap_slot.new.pass) c.queue.ensures c.swap_slot.ensures.belongs

pub swap_slot-requires-clause-slot : goal.swap_slot-requires-clause-slot
swap_slot-requires-clause-slot g c =
    let v = pass_view c.args.pass.now in
    let e = c.number.result in
    let mine = c.requires.belongs in
    let has = subst (λ n. Has n v.facts.has.slots) (sym c.number.ensures) c.requires.has in
    subst (λ q. e < slots_of q) (sym c.queue.ensures)
    (low-slot e _ _ v mine.live.known has (mine.slots ∙ sym (ap (λ o. o.size) mine.opening)))
