use Rattle.std.proofs.Common.{[]}
use Rattle.cqs_rule.proofs.Segments.{belongs-left, keeps-left, walks}
use Rattle.cqs_rule.proofs.queue.Queue.pass_by.Goals as goal

pub pass_by-requires-clause-walker : goal.pass_by-requires-clause-walker
pass_by-requires-clause-walker g c = walks c.args.self.now c.args.pass.now c.requires.belongs

pub invariant_of-pass : goal.invariant_of-pass
invariant_of-pass g c =
    let p = c.args.pass.now in
    let v = p.seat.me.0 in
    let seat = c.pass_by.new.seat in
    keeps-left p seat.me.0 [] v.facts.spare_slots p.spares c.pass_by.ensures.raised.went p.spares_are
    seat.me.1 seat.table_id c.pass_by.ensures.bare c.pass_by.ensures.table

pub returns-clause-belongs : goal.returns-clause-belongs
returns-clause-belongs g c =
    let p = c.args.pass.now in
    let v = p.seat.me.0 in
    belongs-left c.args.self.now p _ [] v.facts.spare_slots v.facts.duties c.requires.belongs
    c.pass_by.ensures.raised.went
    c.pass_by.ensures.table
