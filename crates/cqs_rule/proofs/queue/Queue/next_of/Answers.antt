use Rattle.std.proofs.Common.{[]}
use Rattle.cqs_rule.proofs.Segments.{belongs-left, keeps-left, walks}
use Rattle.cqs_rule.proofs.queue.Queue.next_of.Goals as goal

pub next_of-requires-clause-walker : goal.next_of-requires-clause-walker
next_of-requires-clause-walker g c = walks c.args.self.now c.args.pass.now c.requires.belongs

pub invariant_of-pass : goal.invariant_of-pass
invariant_of-pass g c =
    let p = c.args.pass.now in
    let v = p.seat.me.0 in
    let seat = c.next_of.new.seat in
    keeps-left p seat.me.0 [] v.facts.spare_slots p.spares c.next_of.ensures.looked p.spares_are
    seat.me.1 seat.table_id c.next_of.ensures.bare c.next_of.ensures.table

pub returns-clause-belongs : goal.returns-clause-belongs
returns-clause-belongs g c =
    let p = c.args.pass.now in
    let v = p.seat.me.0 in
    belongs-left c.args.self.now p _ [] v.facts.spare_slots v.facts.duties c.requires.belongs c.next_of.ensures.looked
    c.next_of.ensures.table
