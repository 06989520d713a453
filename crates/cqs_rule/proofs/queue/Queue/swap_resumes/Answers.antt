use Rattle.std.proofs.Common.{◌<◌, ◌∙◌, ap, refl, sym, subst, length, arith}
use Rattle.cqs_rule_laws.specs.Layout.{words_for}
use Rattle.cqs_rule_laws.proofs.CellPlaces.{resumes-inside}
use Rattle.cqs_rule_laws.proofs.Jumps.{jumps}
use Rattle.cqs_rule.proofs.Homes.{same-homes}
use Rattle.cqs_rule.proofs.Spared.{same-spares}
use Rattle.cqs_rule.proofs.queue.Queue.swap_resumes.Goals as goal

pub exchange_at-requires-clause-inside : goal.exchange_at-requires-clause-inside
exchange_at-requires-clause-inside g c =
    let words = c.args.pass.now.slots_are ∙ ap (λ t. t.words) c.requires.belongs.table in
    subst (λ n. 32 < n) words (resumes-inside c.args.pass.now.seat.me.0.slots)

pub exchange_at-requires-clause-allowed : goal.exchange_at-requires-clause-allowed
exchange_at-requires-clause-allowed g c =
    let C = g.C.ClientWords in
    let x = c.args.self.now.table.shared.key.client in
    jumps C.object (C.primitive x) _ _ (g.met.C.ClientWords.keeps x) c.requires.smart C.primitive x refl
    c.args.self.now.table.shared.table_id.slots c.args.pass.now.seat.id c.args.pass.now.seat.me c.args.from
    c.args.to c.args.pass.now.live.0 c.requires.may

pub invariant_of-pass : goal.invariant_of-pass
invariant_of-pass g c =
    let p = c.args.pass.now in
    let e = c.exchange_at.ensures in
    let jumped = e.told.0 in
    let carries = e.told.3 in
    let same = e.told.4 in
    let waits = carries.waits in
    let was = p.waits_are in record {
      live = (same.weight ∙ p.live.0, ap length e.told.1 ∙ p.live.1);
      number_is = same.number ∙ p.number_is;
      held_is = carries.held ∙ p.held_is;
      further_is = carries.further ∙ p.further_is;
      spares_are = same-spares _ _ _ _ p.spares carries.spares same.slots p.spares_are;
      homes_are = same-homes _ _ same p.homes p.homes_are;
      counted = ap (λ f. f.duties) jumped.saw.facts_are ∙ p.counted;
      retired = ap (λ f. f.to_retire) jumped.saw.facts_are ∙ p.retired;
      shut = carries.open_slot ∙ p.shut;
      owes_is = carries.owes ∙ p.owes_is;
      waits_are = omega arith;
      ticket_is = λ k t. p.ticket_is k (carries.ticket k t);
      slots_are = ap words_for same.slots ∙ (p.slots_are ∙ ap (λ t. t.words) (sym e.table));
      inside = e.told.2.inside;
      few_cells = subst (λ n. n < 137438953472) (sym same.cells) p.few_cells;
    }

pub returns-clause-belongs : goal.returns-clause-belongs
returns-clause-belongs g c =
    let b = c.requires.belongs in
    let e = c.exchange_at.ensures in
    let same = e.told.4 in record {
      table = e.table ∙ b.table;
      slots = b.slots;
      passes = same.passes ∙ b.passes;
      limit = same.limit ∙ b.limit;
      cells = same.cells ∙ b.cells;
      mode = b.mode;
      ample = b.ample;
      looks = b.looks;
      live = e.told.2;
      opening = same.opening ∙ b.opening;
      alone = e.alone;
    }

pub returns-clause-jumped : goal.returns-clause-jumped
returns-clause-jumped g c = c.exchange_at.ensures.told.0
