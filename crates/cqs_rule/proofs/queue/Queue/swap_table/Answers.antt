use Rattle.std.proofs.Common.{rules, refl, ◌/◌, ◌<◌, ◌^◌, ap, sym, ◌∙◌, ◌+◌, ◌≡◌, [], ◌∷◌, length, subst, arith}
use Rattle.cqs_rule_laws.proofs.CellSteps.{cross, crossing-low}
use Rattle.cqs_rule_laws.specs.Kinds.{change_of, held_then, further_then, opened, closed}
use Rattle.cqs_core.specs.QueueSteps.{row_of}
use Rattle.cqs_rule_laws.specs.Facts.{is_owing}
use Rattle.cqs_rule_laws.specs.Layout.{words_for}
use Rattle.cqs_rule_laws.specs.Placed.{KnowsPlace, place_at}
use Rattle.cqs_words.specs.Cell.{index_in}
use Rattle.cqs_rule.proofs.Crossed.{same-made, stays-missed, ticketless}
use Rattle.cqs_rule.proofs.Counting.{belongs-counted, counted-none, crossed-none, crossed-one, crossed-retires, keeps-counted}
use Rattle.cqs_rule.proofs.Homes.{same-homes}
use Rattle.cqs_rule.proofs.Spared.{same-spares}
use Rattle.cqs_rule.proofs.queue.Queue.swap_table.Goals as goal

pub exchange_at-found-requires-clause-inside : goal.exchange_at-found-requires-clause-inside
exchange_at-found-requires-clause-inside g c =
    let low = crossing-low _ _ _ _ _ c.args.pass.now.inside c.requires.cell in search rules

pub exchange_at-found-requires-clause-allowed : goal.exchange_at-found-requires-clause-allowed
exchange_at-found-requires-clause-allowed g c =
    let C = g.C.ClientWords in
    let x = c.args.self.now.table.shared.key.client in
    let client = g.met.C.ClientWords.keeps x in
    cross C.object (C.primitive x) _ _ client C.primitive x refl
    c.args.self.now.table.shared.table_id.slots c.args.pass.now.seat.id c.args.pass.now.seat.me
    g.K.Kind.step c.args.word c.args.saw c.args.new c.args.pass.now.live.0 c.requires.suits
    c.requires.cell

pub held_after-pass-requires : goal.held_after-pass-requires
held_after-pass-requires g c =
    let e = c.exchange_at-found.ensures in
    let carries = e.told.3 c.if-found-saw.true in
    let gains = g.C.ClientWords.object.gains.held in
    subst (λ z. held_then gains z c.args.pass.now.held < 2 ^ 32) (sym c.change-change.ensures)
    (subst (λ z. z < 2 ^ 32)
    (carries.held ∙ ap (held_then gains (change_of g.K.Kind.step)) c.args.pass.now.held_is)
    e.told.2.held)

pub invariant_of-pass-else-found-saw : goal.invariant_of-pass-else-found-saw
invariant_of-pass-else-found-saw g c =
    let C = g.C.ClientWords in
    let s = g.K.Kind.step in
    let p = c.args.pass.now in
    let e = c.exchange_at-found.ensures in
    let w = c.exchange_at-found.new.seat.me.0 in
    let stays = stays-missed C.object C.primitive s (row_of s) (index_in c.args.saw) c.args.saw
    p.seat.me.0 c.exchange_at-found.result w e.told.0 c.if-found-saw.false in
    let same = stays.same in record {
      live = (same.weight ∙ p.live.0, ap length e.told.1 ∙ p.live.1);
      number_is = same.number ∙ p.number_is;
      held_is = ap (λ z. z.held) stays.has ∙ p.held_is;
      further_is = ap (λ z. z.further) stays.has ∙ p.further_is;
      spares_are = same-spares _ _ _ _ p.spares stays.spare_slots same.slots p.spares_are;
      homes_are = same-homes _ _ same p.homes p.homes_are;
      counted = stays.duties ∙ p.counted;
      retired = stays.to_retire ∙ p.retired;
      shut = stays.open_slot ∙ p.shut;
      owes_is = ap is_owing stays.doing ∙ p.owes_is;
      waits_are = ap length stays.waits ∙ p.waits_are;
      ticket_is = λ k e. p.ticket_is k (sym stays.doing ∙ e);
      slots_are = ap words_for same.slots ∙ (p.slots_are ∙ ap (λ t. t.words) (sym e.table));
      inside = e.told.2.inside;
      few_cells = subst (λ n. n < 137438953472) (sym same.cells) p.few_cells;
    }

pub returns-else-found-saw-clause-belongs : goal.returns-else-found-saw-clause-belongs
returns-else-found-saw-clause-belongs g c =
    let C = g.C.ClientWords in
    let s = g.K.Kind.step in
    let b = c.requires.belongs in
    let e = c.exchange_at-found.ensures in
    let same = (stays-missed C.object C.primitive s (row_of s) (index_in c.args.saw) c.args.saw
    c.args.pass.now.seat.me.0
    c.exchange_at-found.result c.exchange_at-found.new.seat.me.0 e.told.0 c.if-found-saw.false).same in record {
      table = e.table ∙ b.table;
      slots = b.slots;
      passes = same.passes ∙ b.passes;
      limit = same.limit ∙ b.limit;
      cells = same.cells ∙ b.cells;
      mode = b.mode;
      ample = b.ample;
      looks = b.looks;
      live = e.told.2;
      opening = same.opening ∙ b.opening;
      alone = e.alone;
    }

pub count_cell-requires-clause-place : goal.count_cell-requires-clause-place
count_cell-requires-clause-place g c =
    let C = g.C.ClientWords in
    let s = g.K.Kind.step in
    let p = c.args.pass.now in
    let e = c.exchange_at-found.ensures in
    let w = c.exchange_at-found.new.seat.me.0 in
    let settles = ap (λ z. z.settles) (sym c.change-change.ensures) ∙ c.if-change.true in
    let one = crossed-one C.object C.primitive s (row_of s) (index_in c.args.saw) c.args.word c.args.saw c.args.new
    p.seat.me.0 c.exchange_at-found.result w c.requires.cell e.told.0 c.if-found-saw.true p.counted settles in
    subst (λ k. KnowsPlace w (place_at c.args.word k)) (sym c.index_in.ensures) one.place

pub count_cell-requires-clause-small : goal.count_cell-requires-clause-small
count_cell-requires-clause-small g c =
    let C = g.C.ClientWords in
    let s = g.K.Kind.step in
    let p = c.args.pass.now in
    let e = c.exchange_at-found.ensures in
    let w = c.exchange_at-found.new.seat.me.0 in
    let settles = ap (λ z. z.settles) (sym c.change-change.ensures) ∙ c.if-change.true in
    let one = crossed-one C.object C.primitive s (row_of s) (index_in c.args.saw) c.args.word c.args.saw c.args.new
    p.seat.me.0 c.exchange_at-found.result w c.requires.cell e.told.0 c.if-found-saw.true p.counted settles in
    subst (λ k. k < 1099511627776) (sym c.index_in.ensures) one.small

pub count_cell-requires-clause-one : goal.count_cell-requires-clause-one
count_cell-requires-clause-one g c =
    let C = g.C.ClientWords in
    let s = g.K.Kind.step in
    let p = c.args.pass.now in
    let e = c.exchange_at-found.ensures in
    let w = c.exchange_at-found.new.seat.me.0 in
    let settles = ap (λ z. z.settles) (sym c.change-change.ensures) ∙ c.if-change.true in
    let one = crossed-one C.object C.primitive s (row_of s) (index_in c.args.saw) c.args.word c.args.saw c.args.new
    p.seat.me.0 c.exchange_at-found.result w c.requires.cell e.told.0 c.if-found-saw.true p.counted settles in
    subst (λ k. w.facts.duties ≡ (k / 32) ∷ []) (sym c.index_in.ensures) one.one

pub invariant_of-pass : goal.invariant_of-pass
invariant_of-pass g c =
    let C = g.C.ClientWords in
    let gains = C.object.gains.held in
    let s = g.K.Kind.step in
    let p = c.args.pass.now in
    let e = c.exchange_at-found.ensures in
    let w = c.exchange_at-found.new.seat.me.0 in
    let carries = e.told.3 c.if-found-saw.true in
    let same = same-made C.object C.primitive s (row_of s) (index_in c.args.saw) c.args.saw
    p.seat.me.0 c.exchange_at-found.result w e.told.0 c.if-found-saw.true in
    let is = c.change-change.ensures in
    let waits : length w.facts.waits + closed c.change-change.result.waits
    ≡ length p.seat.me.0.facts.waits + opened c.change-change.result.waits =
    subst (λ z. length w.facts.waits + closed z.waits
    ≡ length p.seat.me.0.facts.waits + opened z.waits) (sym is) carries.waits in
    let was = p.waits_are in
    let becomes = c.waits_after-pass.ensures in
    let done = c.count_cell.ensures in
    let seat = c.count_cell.new.seat in
    keeps-counted w seat.me.0 c.exchange_at-found.new.seat.me.1 seat.me.1 seat.table_id.words _ _ _ _ _ _ p.spares
    p.homes
    (record {
      live = (same.weight ∙ p.live.0, ap length e.told.1 ∙ p.live.1);
      number_is = same.number ∙ p.number_is;
      held_is = carries.held
          ∙ (ap (held_then gains (change_of s)) p.held_is
          ∙ (ap (λ z. held_then gains z p.held) (sym is) ∙ sym c.held_after-pass.ensures));
      further_is = carries.further
          ∙ (ap (further_then (change_of s)) p.further_is
          ∙ (ap (λ z. further_then z p.further) (sym is) ∙ sym c.further_after-pass.ensures));
      spares_are = same-spares _ _ _ _ p.spares carries.spares same.slots p.spares_are;
      homes_are = same-homes _ _ same p.homes p.homes_are;
      retired = crossed-retires C.object C.primitive s (row_of s) (index_in c.args.saw) c.args.saw p.seat.me.0
          c.exchange_at-found.result w e.told.0 c.if-found-saw.true ∙ p.retired;
      shut = carries.open_slot ∙ p.shut;
      owes_is = carries.owes ∙ ap (λ z. z.owes) (sym is);
      waits_are = omega arith;
      ticket_is = λ j e. absurd (ticketless C.object C.primitive s (index_in c.args.saw) c.args.saw p.seat.me.0
          c.exchange_at-found.result w c.exchange_at-found.ensures.told.0 c.if-found-saw.true j e);
      slots_are = ap words_for same.slots ∙ (p.slots_are ∙ ap (λ t. t.words) (sym (done.table ∙ e.table)));
      inside = e.told.2.inside;
      few_cells = subst (λ n. n < 137438953472) (sym same.cells) p.few_cells;
    }) done.counted done.bare

pub invariant_of-pass-else-change : goal.invariant_of-pass-else-change
invariant_of-pass-else-change g c =
    let C = g.C.ClientWords in
    let gains = C.object.gains.held in
    let s = g.K.Kind.step in
    let p = c.args.pass.now in
    let e = c.exchange_at-found.ensures in
    let w = c.exchange_at-found.new.seat.me.0 in
    let carries = e.told.3 c.if-found-saw.true in
    let same = same-made C.object C.primitive s (row_of s) (index_in c.args.saw) c.args.saw
    p.seat.me.0 c.exchange_at-found.result w e.told.0 c.if-found-saw.true in
    let is = c.change-change.ensures in
    let waits : length w.facts.waits + closed c.change-change.result.waits
    ≡ length p.seat.me.0.facts.waits + opened c.change-change.result.waits =
    subst (λ z. length w.facts.waits + closed z.waits
    ≡ length p.seat.me.0.facts.waits + opened z.waits) (sym is) carries.waits in
    let was = p.waits_are in
    let becomes = c.waits_after-pass.ensures in
    let settles = ap (λ z. z.settles) (sym is) ∙ c.if-change.false in
    record {
      live = (same.weight ∙ p.live.0, ap length e.told.1 ∙ p.live.1);
      number_is = same.number ∙ p.number_is;
      held_is = carries.held
          ∙ (ap (held_then gains (change_of s)) p.held_is
          ∙ (ap (λ z. held_then gains z p.held) (sym is) ∙ sym c.held_after-pass.ensures));
      further_is = carries.further
          ∙ (ap (further_then (change_of s)) p.further_is
          ∙ (ap (λ z. further_then z p.further) (sym is) ∙ sym c.further_after-pass.ensures));
      spares_are = same-spares _ _ _ _ p.spares carries.spares same.slots p.spares_are;
      homes_are = same-homes _ _ same p.homes p.homes_are;
      counted = crossed-none C.object C.primitive s (row_of s) (index_in c.args.saw) c.args.saw p.seat.me.0
          c.exchange_at-found.result w e.told.0 c.if-found-saw.true p.counted settles;
      retired = crossed-retires C.object C.primitive s (row_of s) (index_in c.args.saw) c.args.saw p.seat.me.0
          c.exchange_at-found.result w e.told.0 c.if-found-saw.true ∙ p.retired;
      shut = carries.open_slot ∙ p.shut;
      owes_is = carries.owes ∙ ap (λ z. z.owes) (sym is);
      waits_are = omega arith;
      ticket_is = λ j e. absurd (ticketless C.object C.primitive s (index_in c.args.saw) c.args.saw p.seat.me.0
          c.exchange_at-found.result w c.exchange_at-found.ensures.told.0 c.if-found-saw.true j e);
      slots_are = ap words_for same.slots ∙ (p.slots_are ∙ ap (λ t. t.words) (sym (e.table)));
      inside = e.told.2.inside;
      few_cells = subst (λ n. n < 137438953472) (sym same.cells) p.few_cells;
    }

pub returns-then-change-clause-belongs : goal.returns-then-change-clause-belongs
returns-then-change-clause-belongs g c =
    let C = g.C.ClientWords in
    let s = g.K.Kind.step in
    let p = c.args.pass.now in
    let e = c.exchange_at-found.ensures in
    let w = c.exchange_at-found.new.seat.me.0 in
    let done = c.count_cell.ensures in
    belongs-counted c.args.self.now p _ w c.requires.belongs
    (same-made C.object C.primitive s (row_of s) (index_in c.args.saw) c.args.saw p.seat.me.0
    c.exchange_at-found.result w e.told.0 c.if-found-saw.true) e.told.2 e.alone done.counted (done.table ∙ e.table)

pub returns-then-change-clause-crossed : goal.returns-then-change-clause-crossed
returns-then-change-clause-crossed g c =
    (c.exchange_at-found.new.seat.me.0, c.exchange_at-found.ensures.told.0, c.count_cell.ensures.counted)

pub returns-else-change-clause-belongs : goal.returns-else-change-clause-belongs
returns-else-change-clause-belongs g c =
    let C = g.C.ClientWords in
    let s = g.K.Kind.step in
    let p = c.args.pass.now in
    let e = c.exchange_at-found.ensures in
    let w = c.exchange_at-found.new.seat.me.0 in
    let settles = ap (λ z. z.settles) (sym c.change-change.ensures) ∙ c.if-change.false in
    let none = crossed-none C.object C.primitive s (row_of s) (index_in c.args.saw) c.args.saw p.seat.me.0
    c.exchange_at-found.result w e.told.0 c.if-found-saw.true p.counted settles in
    belongs-counted c.args.self.now p _ w c.requires.belongs
    (same-made C.object C.primitive s (row_of s) (index_in c.args.saw) c.args.saw p.seat.me.0
    c.exchange_at-found.result w e.told.0 c.if-found-saw.true) e.told.2 e.alone (counted-none w none) e.table

pub returns-else-change-clause-crossed : goal.returns-else-change-clause-crossed
returns-else-change-clause-crossed g c =
    let C = g.C.ClientWords in
    let s = g.K.Kind.step in
    let p = c.args.pass.now in
    let e = c.exchange_at-found.ensures in
    let w = c.exchange_at-found.new.seat.me.0 in
    let settles = ap (λ z. z.settles) (sym c.change-change.ensures) ∙ c.if-change.false in
    let none = crossed-none C.object C.primitive s (row_of s) (index_in c.args.saw) c.args.saw p.seat.me.0
    c.exchange_at-found.result w e.told.0 c.if-found-saw.true p.counted settles in
    (w, e.told.0, counted-none w none)

pub returns-else-found-saw-clause-crossed : goal.returns-else-found-saw-clause-crossed
returns-else-found-saw-clause-crossed g c =
    let C = g.C.ClientWords in
    let s = g.K.Kind.step in
    let p = c.args.pass.now in
    let e = c.exchange_at-found.ensures in
    let w = c.exchange_at-found.new.seat.me.0 in
    let stays = stays-missed C.object C.primitive s (row_of s) (index_in c.args.saw) c.args.saw p.seat.me.0
    c.exchange_at-found.result w e.told.0 c.if-found-saw.false in
    (w, e.told.0, counted-none w (stays.duties ∙ p.counted))

pub count_cell-requires-clause-none : goal.count_cell-requires-clause-none
count_cell-requires-clause-none g c =
    let C = g.C.ClientWords in
    let s = g.K.Kind.step in
    let p = c.args.pass.now in
    let e = c.exchange_at-found.ensures in
    let w = c.exchange_at-found.new.seat.me.0 in
    crossed-retires C.object C.primitive s (row_of s) (index_in c.args.saw) c.args.saw p.seat.me.0
    c.exchange_at-found.result w e.told.0 c.if-found-saw.true ∙ p.retired
