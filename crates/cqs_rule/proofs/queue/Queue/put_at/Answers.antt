use Rattle.std.proofs.Common.{rules, ◌≡◌, ◌<◌, ◌∙◌, ap, sym, subst, length, arith, Some}
use Rattle.cqs_rule_laws.specs.Slots.{laid_in}
use Rattle.cqs_rule_laws.specs.SlotSteps.{HandedBy}
use Rattle.cqs_rule_laws.specs.Layout.{words_for}
use Rattle.cqs_rule_laws.proofs.CellPlaces.{resumes-inside}
use Rattle.cqs_rule_laws.proofs.Putting.{MayPut, put}
use Rattle.cqs_core.specs.QueueSteps.{puts, row_of}
use Rattle.cqs_rule.proofs.Numbers.{drawn-ticket}
use Rattle.cqs_rule.proofs.Homes.{same-homes}
use Rattle.cqs_rule.proofs.Spared.{same-spares}
use Rattle.cqs_rule.proofs.queue.Queue.put_at.Goals as goal

pub add_at-found-requires-clause-inside : goal.add_at-found-requires-clause-inside
add_at-found-requires-clause-inside g c =
    let v = c.args.pass.now.seat.me.0 in
    let low = resumes-inside v.cells in search rules

pub add_at-found-requires-clause-allowed : goal.add_at-found-requires-clause-allowed
add_at-found-requires-clause-allowed g c =
    let C = g.C.ClientWords in
    let x = c.args.self.now.table.shared.key.client in
    let v = c.args.pass.now.seat.me.0 in
    let slots = c.args.self.now.table.shared.table_id.slots in
    let may : MayPut (C.primitive x) slots c.args.element v = record {
      one = c.args.pass.now.live.0;
      shut = c.args.pass.now.shut;
      suits = c.requires.suits;
      idle = c.requires.idle;
      has = c.requires.has;
      fits = c.requires.fits;
      value = c.requires.value;
    } in
    put C.object (C.primitive x) _ _ (g.met.C.ClientWords.keeps x) slots c.args.pass.now.seat.id
    c.args.pass.now.seat.me g.K.Numbered.slot
    (subst (λ k. MayPut (C.primitive x) slots k v) c.requires.number may)

pub invariant_of-pass : goal.invariant_of-pass
invariant_of-pass g c =
    let p = c.args.pass.now in
    let e = c.add_at-found.ensures in
    let carries = e.told.3 in
    let same = e.told.0.same in
    let waits = carries.waits in
    let was = p.waits_are in record {
      live = (same.weight ∙ p.live.0, ap length e.told.1 ∙ p.live.1);
      number_is = same.number ∙ p.number_is;
      held_is = carries.held ∙ p.held_is;
      further_is = carries.further ∙ p.further_is;
      spares_are = same-spares _ _ _ _ p.spares carries.spares same.slots p.spares_are;
      homes_are = same-homes _ _ same p.homes p.homes_are;
      counted = ap (λ f. f.duties) e.told.0.facts_are ∙ p.counted;
      retired = ap (λ f. f.to_retire) e.told.0.facts_are ∙ p.retired;
      shut = carries.open_slot ∙ p.shut;
      owes_is = carries.owes;
      waits_are = omega arith;
      ticket_is = drawn-ticket g.C.ClientWords.object puts (row_of puts) g.K.Numbered.slot p.seat.me.0
          c.add_at-found.result
          c.add_at-found.new.seat.me.0 e.told.0;
      slots_are = ap words_for same.slots ∙ (p.slots_are ∙ ap (λ t. t.words) (sym e.table));
      inside = e.told.2.inside;
      few_cells = subst (λ n. n < 137438953472) (sym same.cells) p.few_cells;
    }

pub returns-clause-belongs : goal.returns-clause-belongs
returns-clause-belongs g c =
    let b = c.requires.belongs in
    let e = c.add_at-found.ensures in
    let same = e.told.0.same in record {
      table = e.table ∙ b.table;
      slots = b.slots;
      passes = same.passes ∙ b.passes;
      limit = same.limit ∙ b.limit;
      cells = same.cells ∙ b.cells;
      mode = b.mode;
      ample = b.ample;
      looks = b.looks;
      live = e.told.2;
      opening = same.opening ∙ b.opening;
      alone = e.alone;
    }

pub returns-clause-given : goal.returns-clause-given
returns-clause-given g c = λ y lies.
    subst (λ k. laid_in c.args.pass.now.seat.me.0.laid k ≡ Some (Some y)
    → HandedBy g.C.ClientWords.object k y c.args.pass.now.seat.me.0 c.add_at-found.new.seat.me.0)
    (sym c.requires.number) (c.add_at-found.ensures.told.5 y) lies
