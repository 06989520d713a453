use Rattle.std.proofs.Common.{rules, ◌≡◌, ◌+◌, ◌<◌, ◌∙◌, [], ◌++◌, ap, sym, arith}
use Rattle.cqs_core.specs.declared.doings.Doing.TheVariants.{Idle}
use Rattle.cqs_rule_laws.proofs.CrewMeets.{joins, meets}
use Rattle.cqs_rule_laws.proofs.Tries.{between-idle, none-of, none-slots, joined-idles}
use Rattle.cqs_rule.proofs.Gathered.{gathers, items-as, keeps-met, held-met}
use Rattle.cqs_rule.proofs.Looked.{crew-inside}
use Rattle.cqs_rule.proofs.Segments.{met-spareless}
use Rattle.cqs_rule.proofs.queue.Queue.meet.Goals as goal

pub join_seat-requires : goal.join_seat-requires
join_seat-requires g c =
    let C = g.C.ClientWords in
    let x = c.args.self.now.table.shared.key.client in
    let p = c.args.pass.now in
    let u = c.give_all_back.new.pass in
    let is = c.give_all_back.ensures.given.1.is in
    let were = between-idle c.args.given.seat.me.0.facts _ c.owes.ensures c.if-owes.false c.requires.between in
    let rests : (u.seat.me.0.facts.doing ≡ Idle) × (u.seat.me.0.facts.has.further ≡ 0) =
    (ap (λ z. z.facts.doing) is ∙ were.0, ap (λ z. z.facts.has.further) is ∙ were.1) in (
      c.requires.belongs.table,
      c.give_all_back.ensures.belongs.table,
      none-slots _ u.live.1,
      crew-inside c.args.self.now p c.requires.belongs.table,
      joins C.object (C.primitive x) _ _ (g.met.C.ClientWords.keeps x) _ _ _ _ p.live.0 u.live.0
          c.requires.idle rests.0 p.shut u.shut,
    )

pub add_at-requires-clause-allowed : goal.add_at-requires-clause-allowed
add_at-requires-clause-allowed g c =
    let C = g.C.ClientWords in
    let x = c.args.self.now.table.shared.key.client in
    let u = c.give_all_back.new.pass in
    let is = c.give_all_back.ensures.given.1.is in
    let were = between-idle c.args.given.seat.me.0.facts _ c.owes.ensures c.if-owes.false c.requires.between in
    let rests : (u.seat.me.0.facts.doing ≡ Idle) × (u.seat.me.0.facts.has.further ≡ 0) =
    (ap (λ z. z.facts.doing) is ∙ were.0, ap (λ z. z.facts.has.further) is ∙ were.1) in
    let waitless : u.seat.me.0.facts.waits ≡ [] =
    ap (λ z. z.facts.waits) is ∙ none-of _ _ c.args.given.waits_are c.if-given-gt0.false in
    let j = joined-idles c.args.pass.now.seat.me.0 u.seat.me.0 _ _ rests.0 rests.1 waitless c.join_seat.ensures.2 in
    meets C.object (C.primitive x) _ _ (g.met.C.ClientWords.keeps x) c.args.self.now.table.shared.table_id.slots _ _
    j.weight j.idle j.empty j.owes_none j.slotless j.waitless

pub add_at-requires-clause-table : goal.add_at-requires-clause-table
add_at-requires-clause-table g c = c.join_seat.ensures.0 ∙ c.requires.belongs.table

pub add_at-requires-clause-inside : goal.add_at-requires-clause-inside
add_at-requires-clause-inside g c = crew-inside c.args.self.now c.args.pass.now c.requires.belongs.table

pub overflow_add-pass : goal.overflow_add-pass
overflow_add-pass g c =
    let p = c.args.pass.now in
    let u = c.give_all_back.new.pass in
    let w = c.add_at.new.seat.me.0 in
    let e = c.add_at.ensures.told in
    let fits : p.held + u.held < 4294967296 =
    held-met p u w (gathers p u c.join_seat.new.seat.me w c.join_seat.ensures.2 e.0 e.4) e.3 in
    omega arith

pub invariant_of-pass : goal.invariant_of-pass
invariant_of-pass g c =
    let p = c.args.pass.now in
    let u = c.give_all_back.new.pass in
    let w = c.add_at.new.seat.me.0 in
    let e = c.add_at.ensures.told in
    let j = c.join_seat.ensures in
    let k = keeps-met p u w (gathers p u c.join_seat.new.seat.me w j.2 e.0 e.4) e.3
    (ap (λ z. z.facts.spare_slots) c.give_all_back.ensures.given.1.is) c.add_at.new.seat.me.1
    c.add_at.new.seat.table_id.words
    (e.2 ∙ items-as p u c.join_seat.new.seat.me j.2)
    (ap (λ t. t.words) (sym (c.add_at.ensures.table ∙ j.0))) in
    let held = k.held_is in record {
      live = k.live;
      number_is = k.number_is;
      held_is = search rules;
      further_is = k.further_is;
      spares_are = k.spares_are;
      homes_are = k.homes_are;
      counted = k.counted;
      retired = k.retired;
      shut = k.shut;
      owes_is = k.owes_is;
      waits_are = k.waits_are;
      ticket_is = k.ticket_is;
      slots_are = k.slots_are;
      inside = k.inside;
      few_cells = k.few_cells;
    }

pub returns-clause-belongs : goal.returns-clause-belongs
returns-clause-belongs g c =
    let b = c.requires.belongs in
    let e = c.add_at.ensures in
    let j = c.join_seat.ensures in
    let p = c.args.pass.now in
    let u = c.give_all_back.new.pass in
    let m = (gathers p u c.join_seat.new.seat.me c.add_at.new.seat.me.0 j.2 e.told.0 e.told.4).met in record {
      table = e.table ∙ (j.0 ∙ b.table);
      slots = b.slots;
      passes = m.passes ∙ b.passes;
      limit = m.limit ∙ b.limit;
      cells = m.cells ∙ b.cells;
      mode = b.mode;
      ample = b.ample;
      looks = b.looks;
      live = e.told.3;
      opening = m.opening ∙ b.opening;
      alone = e.alone;
    }

pub returns-clause-met : goal.returns-clause-met
returns-clause-met g c =
    let e = c.add_at.ensures.told in
    let p = c.args.pass.now in
    let u = c.give_all_back.new.pass in
    let given = c.give_all_back.ensures.given in
    met-spareless g.C.ClientWords.object p.seat.me.0 c.args.given.seat.me.0 u.seat.me.0 c.add_at.new.seat.me.0 given.0
    given.1 (gathers p u c.join_seat.new.seat.me c.add_at.new.seat.me.0 c.join_seat.ensures.2 e.0 e.4).met

pub returns-clause-laid : goal.returns-clause-laid
returns-clause-laid g c =
    let e = c.add_at.ensures.told in
    let p = c.args.pass.now in
    let u = c.give_all_back.new.pass in
    (gathers p u c.join_seat.new.seat.me c.add_at.new.seat.me.0 c.join_seat.ensures.2 e.0 e.4).laid
    ∙ ap (λ z. p.seat.me.0.laid ++ z.laid) c.give_all_back.ensures.given.1.is
