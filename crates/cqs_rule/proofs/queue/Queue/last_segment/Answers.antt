use Rattle.std.proofs.Common.{[]}
use Rattle.cqs_rule.proofs.Segments.{belongs-left, keeps-left, walks}
use Rattle.cqs_rule.proofs.queue.Queue.last_segment.Goals as goal

pub last-requires-clause-walker : goal.last-requires-clause-walker
last-requires-clause-walker g c = walks c.args.self.now c.args.pass.now c.requires.belongs

pub invariant_of-pass : goal.invariant_of-pass
invariant_of-pass g c =
    let p = c.args.pass.now in
    let v = p.seat.me.0 in
    let seat = c.last.new.seat in
    let left = c.last.ensures.looked in
    keeps-left p seat.me.0 [] v.facts.spare_slots p.spares left p.spares_are
    seat.me.1 seat.table_id c.last.ensures.bare c.last.ensures.table

pub returns-clause-belongs : goal.returns-clause-belongs
returns-clause-belongs g c =
    let p = c.args.pass.now in
    let v = p.seat.me.0 in
    let left = c.last.ensures.looked in
    belongs-left c.args.self.now p _ [] v.facts.spare_slots v.facts.duties c.requires.belongs left
    c.last.ensures.table
