use Rattle.cqs_rule.proofs.Retired.{retires-none}
use Rattle.cqs_rule.proofs.Segments.{belongs-left, keeps-left, walks}
use Rattle.cqs_rule.proofs.queue.Queue.retire.Goals as goal

pub retire-requires-clause-walker : goal.retire-requires-clause-walker
retire-requires-clause-walker g c = walks c.args.self.now c.args.pass.now c.requires.belongs

pub invariant_of-pass : goal.invariant_of-pass
invariant_of-pass g c =
    let p = c.args.pass.now in
    let v = p.seat.me.0 in
    let seat = c.retire.new.seat in
    let left = (retires-none c.args.slot c.args.id c.retire.result v seat.me.0 p.retired c.retire.ensures.retires).1 in
    keeps-left p seat.me.0 left.0 v.facts.spare_slots p.spares left.1 p.spares_are
    seat.me.1 seat.table_id c.retire.ensures.bare c.retire.ensures.table

pub returns-clause-belongs : goal.returns-clause-belongs
returns-clause-belongs g c =
    let p = c.args.pass.now in
    let v = p.seat.me.0 in
    let w = c.retire.new.seat.me.0 in
    let left = (retires-none c.args.slot c.args.id c.retire.result v w p.retired c.retire.ensures.retires).1 in
    belongs-left c.args.self.now p _ left.0 v.facts.spare_slots v.facts.duties c.requires.belongs left.1
    c.retire.ensures.table

pub returns-clause-retires : goal.returns-clause-retires
returns-clause-retires g c =
    let p = c.args.pass.now in
    (retires-none c.args.slot c.args.id c.retire.result p.seat.me.0 c.retire.new.seat.me.0 p.retired
    c.retire.ensures.retires).0

pub returns-clause-passed : goal.returns-clause-passed
returns-clause-passed g c =
    let p = c.args.pass.now in
    (retires-none c.args.slot c.args.id c.retire.result p.seat.me.0 c.retire.new.seat.me.0 p.retired
    c.retire.ensures.retires).1
