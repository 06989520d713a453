use Rattle.cqs_rule.proofs.Segments.{belongs-left, keeps-left, walks}
use Rattle.cqs_rule.proofs.queue.Queue.confirm.Goals as goal

pub confirm-requires-clause-walker : goal.confirm-requires-clause-walker
confirm-requires-clause-walker g c = walks c.args.self.now c.args.pass.now c.requires.belongs

pub invariant_of-pass : goal.invariant_of-pass
invariant_of-pass g c =
    let p = c.args.pass.now in
    let v = p.seat.me.0 in
    let seat = c.confirm.new.seat in
    let left = c.confirm.ensures.confirms.loaded.went in
    keeps-left p seat.me.0 _ v.facts.spare_slots p.spares left p.spares_are
    seat.me.1 seat.table_id c.confirm.ensures.bare c.confirm.ensures.table

pub returns-clause-belongs : goal.returns-clause-belongs
returns-clause-belongs g c =
    let p = c.args.pass.now in
    let v = p.seat.me.0 in
    let left = c.confirm.ensures.confirms.loaded.went in
    belongs-left c.args.self.now p _ _ v.facts.spare_slots v.facts.duties c.requires.belongs left
    c.confirm.ensures.table
