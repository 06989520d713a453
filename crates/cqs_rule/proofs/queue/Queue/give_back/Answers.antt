use Rattle.std.proofs.Common.{[], length, sym, ap, ◌∙◌, arith}
use Rattle.cqs_rule.proofs.Segments.{belongs-left, has-less, keeps-left, many-slots, walks}
use Rattle.cqs_rule.proofs.queue.Queue.give_back.Goals as goal

pub give_back-requires-clause-walker : goal.give_back-requires-clause-walker
give_back-requires-clause-walker g c = walks c.args.self.now c.args.pass.now c.requires.belongs

pub give_back-requires-clause-low : goal.give_back-requires-clause-low
give_back-requires-clause-low g c =
    let p = c.args.pass.now in
    let v = p.seat.me.0 in
    (has-less v.facts.spare_slots v.slots c.in-Some.slot p.spares c.in-Some.others p.spares_are
    c.in-Some.ensures.some).1

pub give_back-requires-clause-last : goal.give_back-requires-clause-last
give_back-requires-clause-last g c =
    let p = c.args.pass.now in
    let v = p.seat.me.0 in
    (has-less v.facts.spare_slots v.slots c.in-Some.slot p.spares c.in-Some.others p.spares_are
    c.in-Some.ensures.some).0

pub invariant_of-pass : goal.invariant_of-pass
invariant_of-pass g c =
    let p = c.args.pass.now in
    let v = p.seat.me.0 in
    let seat = c.give_back.new.seat in
    let given = c.give_back.ensures.given in
    keeps-left p seat.me.0 [] _ c.in-Some.others given
    (has-less v.facts.spare_slots v.slots c.in-Some.slot p.spares c.in-Some.others p.spares_are
    c.in-Some.ensures.some).2
    seat.me.1 seat.table_id c.give_back.ensures.bare c.give_back.ensures.table

pub returns-clause-belongs : goal.returns-clause-belongs
returns-clause-belongs g c =
    let p = c.args.pass.now in
    let given = c.give_back.ensures.given in
    belongs-left c.args.self.now p _ [] _ p.seat.me.0.facts.duties c.requires.belongs given
    c.give_back.ensures.table

pub unreachable-requires : goal.unreachable-requires
unreachable-requires g c =
    let p = c.args.pass.now in
    let some = c.requires.some in
    let none = ap length c.in-None.ensures.none in
    let many = sym (ap length p.spares_are.are) ∙ many-slots _ in omega arith
