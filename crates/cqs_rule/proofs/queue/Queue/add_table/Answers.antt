use Rattle.std.proofs.Common.{rules, ◌≡◌, ◌<◌, ◌∙◌, ap, sym, subst, length, unsigned_abs}
use Rattle.cqs_core.specs.QueueSteps.{row_of}
use Rattle.cqs_rule_laws.specs.Kinds.{change_of, further_then}
use Rattle.cqs_rule_laws.specs.Layout.{words_for}
use Rattle.cqs_rule_laws.proofs.Counters.{count, counter-low}
use Rattle.cqs_rule.proofs.Numbers.{draws}
use Rattle.cqs_rule.proofs.Homes.{same-homes}
use Rattle.cqs_rule.proofs.Spared.{same-spares}
use Rattle.cqs_rule.proofs.queue.Queue.add_table.Goals as goal

pub add_at-found-requires-clause-inside : goal.add_at-found-requires-clause-inside
add_at-found-requires-clause-inside g c =
    let low = counter-low _ _ _ _ c.requires.count c.args.pass.now.seat.me.0.cells in search rules

pub add_at-found-requires-clause-allowed : goal.add_at-found-requires-clause-allowed
add_at-found-requires-clause-allowed g c =
    let C = g.C.ClientWords in
    let x = c.args.self.now.table.shared.key.client in
    let client = g.met.C.ClientWords.keeps x in
    let is : c.unsigned_abs.result ≡ unsigned_abs c.args.by = search rules in
    count _ _ _ _ client c.args.self.now.table.shared.table_id.slots c.args.pass.now.seat.id
    c.args.pass.now.seat.me
    g.K.Kind.step c.args.word c.unsigned_abs.result c.args.by c.args.pass.now.live.0 is c.requires.suits
    c.requires.count c.requires.free

pub invariant_of-pass : goal.invariant_of-pass
invariant_of-pass g c =
    let s = g.K.Kind.step in
    let p = c.args.pass.now in
    let v = p.seat.me.0 in
    let e = c.add_at-found.ensures in
    let carries = e.told.3 in
    let counts = draws g.C.ClientWords.object s (row_of s) v.facts.has.payload v c.add_at-found.result
    c.add_at-found.new.seat.me.0 e.told.0 carries in
    let same = counts.same in
    let is = c.change-change.ensures in record {
      live = (same.weight ∙ p.live.0, ap length e.told.1 ∙ p.live.1);
      number_is = same.number ∙ p.number_is;
      held_is = counts.held ∙ p.held_is;
      further_is = carries.further
          ∙ (ap (further_then (change_of s)) p.further_is
          ∙ (ap (λ z. further_then z p.further) (sym is) ∙ sym c.further_after-pass.ensures));
      spares_are = same-spares _ _ _ _ p.spares carries.spares same.slots p.spares_are;
      homes_are = same-homes _ _ same p.homes p.homes_are;
      counted = counts.duties ∙ p.counted;
      retired = counts.to_retire ∙ p.retired;
      shut = carries.open_slot ∙ p.shut;
      owes_is = carries.owes ∙ ap (λ z. z.owes) (sym is);
      waits_are = counts.waits ∙ p.waits_are;
      ticket_is = counts.ticket;
      slots_are = ap words_for same.slots ∙ (p.slots_are ∙ ap (λ t. t.words) (sym e.table));
      inside = e.told.2.inside;
      few_cells = subst (λ n. n < 137438953472) (sym same.cells) p.few_cells;
    }

pub returns-clause-belongs : goal.returns-clause-belongs
returns-clause-belongs g c =
    let s = g.K.Kind.step in
    let v = c.args.pass.now.seat.me.0 in
    let b = c.requires.belongs in
    let e = c.add_at-found.ensures in
    let counts = draws g.C.ClientWords.object s (row_of s) v.facts.has.payload v c.add_at-found.result
    c.add_at-found.new.seat.me.0 e.told.0 e.told.3 in
    let same = counts.same in record {
      table = e.table ∙ b.table;
      slots = b.slots;
      passes = same.passes ∙ b.passes;
      limit = same.limit ∙ b.limit;
      cells = same.cells ∙ b.cells;
      mode = b.mode;
      ample = b.ample;
      looks = b.looks;
      live = e.told.2;
      opening = same.opening ∙ b.opening;
      alone = e.alone;
    }
