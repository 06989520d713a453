use Rattle.std.proofs.Common.{◌≡◌, ◌∙◌, ◌<◌, ap, sym, subst, length}
use mathlib.Core.Logic.{inl}
use Rattle.cqs_rule_laws.specs.declared.view.View.{View}
use Rattle.cqs_rule_laws.specs.Facts.{is_owing}
use Rattle.cqs_rule_laws.specs.Layout.{words_for}
use Rattle.cqs_rule_laws.proofs.Swaps.{inside-swapped, live-swapped, alone-swapped}
use Rattle.cqs_rule_laws.proofs.Tries.{none-slots}
use Rattle.cqs_rule.proofs.Slots.{swap-by, only-by, lay-by, last-by}
use Rattle.cqs_rule_laws.proofs.Places.{goes-swapped}
use Rattle.cqs_rule.proofs.Homes.{keeps-homes}
use Rattle.cqs_rule.proofs.Spared.{same-spares}
use Rattle.cqs_rule.proofs.queue.Queue.swap_slot.Goals as goal

pub put_back-requires-clause-item : goal.put_back-requires-clause-item
put_back-requires-clause-item g c = (
  c.args.value,
  only-by c.args.slot c.args.pass.now.seat.me.0 c.take_out.new.seat.me.0 c.take_out.new.seat.me.1
      c.take_out.ensures.took c.args.value c.args.pass.now.seat.me.0 c.exchange-found.new.seat.me
      c.exchange-found.ensures.3,
)

pub invariant_of-pass : goal.invariant_of-pass
invariant_of-pass g c =
    let p = c.args.pass.now in
    let v = p.seat.me.0 in
    let table : c.put_back.new.seat.table_id ≡ p.seat.table_id =
    c.put_back.ensures.table ∙ (c.exchange-found.ensures.0 ∙ c.take_out.ensures.table) in
    let swap = swap-by c.args.slot v c.take_out.new.seat.me.0 c.take_out.new.seat.me.1 c.take_out.ensures.took
    c.args.value c.put_back.new.seat.me.0 c.exchange-found.new.seat.me c.exchange-found.ensures.3
    c.put_back.ensures.put p.shut in
    let is = swap.is in record {
      live = (ap (λ z. z.weight) is ∙ p.live.0, ap length c.put_back.ensures.bare);
      number_is = ap (λ z. z.number) is ∙ p.number_is;
      held_is = ap (λ z. z.facts.has.held) is ∙ p.held_is;
      further_is = ap (λ z. z.facts.has.further) is ∙ p.further_is;
      spares_are = same-spares _ _ _ _ p.spares (ap (λ z. z.facts.spare_slots) is) (ap (λ z. z.slots) is) p.spares_are;
      homes_are = keeps-homes _ _ (goes-swapped _ _ _ swap) p.homes p.homes_are;
      counted = ap (λ z. z.facts.duties) is ∙ p.counted;
      retired = ap (λ z. z.facts.to_retire) is ∙ p.retired;
      shut = ap (λ z. z.facts.open_slot) is ∙ p.shut;
      owes_is = ap (λ z. is_owing z.facts.doing) is ∙ p.owes_is;
      waits_are = ap (λ (z : View _ _). length z.facts.waits) is ∙ p.waits_are;
      ticket_is = λ k e. p.ticket_is k (sym (ap (λ (z : View _ _). z.facts.doing) is) ∙ e);
      slots_are = ap (λ z. words_for z.slots) is ∙ (p.slots_are ∙ ap (λ t. t.words) (sym table));
      inside = inside-swapped _ _ _ swap p.inside;
      few_cells = subst (λ n. n < 137438953472) (sym (ap (λ z. z.cells) is)) p.few_cells;
    }

pub returns-clause-belongs : goal.returns-clause-belongs
returns-clause-belongs g c =
    let C = g.C.ClientWords in
    let p = c.args.pass.now in
    let v = p.seat.me.0 in
    let b = c.requires.belongs in
    let table : c.put_back.new.seat.table_id ≡ p.seat.table_id =
    c.put_back.ensures.table ∙ (c.exchange-found.ensures.0 ∙ c.take_out.ensures.table) in
    let swap = swap-by c.args.slot v c.take_out.new.seat.me.0 c.take_out.new.seat.me.1 c.take_out.ensures.took
    c.args.value c.put_back.new.seat.me.0 c.exchange-found.new.seat.me c.exchange-found.ensures.3
    c.put_back.ensures.put p.shut in
    let is = swap.is in record {
      table = table ∙ b.table;
      slots = b.slots;
      passes = ap (λ z. z.passes) is ∙ b.passes;
      limit = ap (λ z. z.limit) is ∙ b.limit;
      cells = ap (λ z. z.cells) is ∙ b.cells;
      mode = b.mode;
      ample = b.ample;
      looks = b.looks;
      live = live-swapped _ _ _ swap C.object b.live;
      opening = ap (λ z. z.opening) is ∙ b.opening;
      alone = alone-swapped _ _ _ swap C.primitive b.alone;
    }

pub take_out-requires-clause-table : goal.take_out-requires-clause-table
take_out-requires-clause-table g c = c.requires.belongs.table

pub take_out-requires-clause-one : goal.take_out-requires-clause-one
take_out-requires-clause-one g c = c.args.pass.now.live.0

pub take_out-requires-clause-shut : goal.take_out-requires-clause-shut
take_out-requires-clause-shut g c = c.args.pass.now.shut

pub take_out-requires-clause-bare : goal.take_out-requires-clause-bare
take_out-requires-clause-bare g c = none-slots _ c.args.pass.now.live.1

pub take_out-requires-clause-low : goal.take_out-requires-clause-low
take_out-requires-clause-low g c = c.requires.slot

pub take_out-requires-clause-may : goal.take_out-requires-clause-may
take_out-requires-clause-may g c = inl c.requires.holds

pub put_back-requires-clause-table : goal.put_back-requires-clause-table
put_back-requires-clause-table g c =
    c.exchange-found.ensures.0 ∙ (c.take_out.ensures.table ∙ c.requires.belongs.table)

pub put_back-requires-clause-one : goal.put_back-requires-clause-one
put_back-requires-clause-one g c =
    ap (λ m. m.0.weight) c.exchange-found.ensures.3
    ∙ (ap (λ z. z.weight) c.take_out.ensures.took.is ∙ c.args.pass.now.live.0)

pub put_back-requires-clause-out : goal.put_back-requires-clause-out
put_back-requires-clause-out g c =
    ap (λ m. m.0.facts.open_slot) c.exchange-found.ensures.3
    ∙ ap (λ z. z.facts.open_slot) c.take_out.ensures.took.is

pub put_back-requires-clause-low : goal.put_back-requires-clause-low
put_back-requires-clause-low g c = c.requires.slot

pub put_back-requires-clause-may : goal.put_back-requires-clause-may
put_back-requires-clause-may g c =
    let opens = (g.C.ClientWords.primitive c.args.self.now.table.shared.key.client).opens in
    subst (λ h. opens h c.args.slot)
    (sym (ap (λ m. m.0.facts.has) c.exchange-found.ensures.3 ∙ ap (λ z. z.facts.has) c.take_out.ensures.took.is))
    c.requires.holds

pub returns-clause-swapped : goal.returns-clause-swapped
returns-clause-swapped g c =
    let p = c.args.pass.now in
    let v = p.seat.me.0 in
    swap-by c.args.slot v c.take_out.new.seat.me.0 c.take_out.new.seat.me.1 c.take_out.ensures.took
    c.args.value c.put_back.new.seat.me.0 c.exchange-found.new.seat.me c.exchange-found.ensures.3
    c.put_back.ensures.put p.shut

pub returns-clause-lay : goal.returns-clause-lay
returns-clause-lay g c =
    lay-by c.args.slot c.args.pass.now.seat.me.0 c.take_out.new.seat.me.0 c.take_out.new.seat.me.1
    c.take_out.ensures.took
    c.args.value c.put_back.new.seat.me.0 c.exchange-found.new.seat.me c.exchange-found.ensures.3
    c.put_back.ensures.put c.exchange-found.result c.exchange-found.ensures.2

pub returns-clause-last : goal.returns-clause-last
returns-clause-last g c =
    last-by c.args.slot c.args.pass.now.seat.me.0 c.take_out.new.seat.me.0 c.take_out.new.seat.me.1
    c.take_out.ensures.took
    c.args.value c.put_back.new.seat.me.0 c.exchange-found.new.seat.me c.exchange-found.ensures.3
    c.put_back.ensures.put c.exchange-found.result c.exchange-found.ensures.2 g.C.ClientWords.object
    c.take_out.ensures.last
