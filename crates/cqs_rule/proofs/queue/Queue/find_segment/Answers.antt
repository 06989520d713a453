use Rattle.std.proofs.Common.{rules}
use Rattle.cqs_segment.specs.Walks.{LookedAt}
use Rattle.cqs_rule.proofs.Segments.{all-slots, belongs-left, keeps-left, walks}
use Rattle.cqs_rule.proofs.queue.Queue.find_segment.Goals as goal

pub replace_with-requires : goal.replace_with-requires
replace_with-requires g c =
    let walker = walks c.args.self.now c.args.pass.now c.requires.belongs in
    let all = all-slots c.args.self.now c.args.pass.now c.requires.belongs in
    (c.requires.belongs.table, (walker, (all, (c.kept_segment-near.ensures, c.requires.small))))

pub invariant_of-pass : goal.invariant_of-pass
invariant_of-pass g c =
    let p = c.args.pass.now in
    let v = p.seat.me.0 in
    let seat = c.replace_with.new.dest in
    let left : LookedAt c.args.self.now.segment_slots v seat.me.0 = search rules in
    keeps-left p seat.me.0 left.0 v.facts.spare_slots p.spares left.2 p.spares_are
    seat.me.1 seat.table_id (search rules) (search rules)

pub returns-clause-belongs : goal.returns-clause-belongs
returns-clause-belongs g c =
    let p = c.args.pass.now in
    let v = p.seat.me.0 in
    let left : LookedAt c.args.self.now.segment_slots v c.replace_with.new.dest.me.0 = search rules in
    belongs-left c.args.self.now p _ left.0 v.facts.spare_slots v.facts.duties c.requires.belongs left.2
    (search rules)

pub returns-clause-own : goal.returns-clause-own
returns-clause-own g c = c.replace_with.ensures.1.1.1.0
