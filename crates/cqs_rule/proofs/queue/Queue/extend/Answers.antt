use Rattle.cqs_rule.specs.Passes.{pass_view}
use Rattle.cqs_rule.proofs.Claims.{claims, keeps-claimed}
use Rattle.cqs_rule.proofs.Makes.{extended-left}
use Rattle.cqs_rule.proofs.Segments.{belongs-left}
use Rattle.cqs_rule.proofs.queue.Queue.extend.Goals as goal

pub extend_by-spares-requires-clause-claimer : goal.extend_by-spares-requires-clause-claimer
extend_by-spares-requires-clause-claimer g c = claims c.args.self.now c.args.pass.now c.requires.belongs

pub invariant_of-pass : goal.invariant_of-pass
invariant_of-pass g c =
    let p = c.args.pass.now in
    let seat = c.extend_by-spares.new.seat in
    let made = c.extend_by-spares.ensures in
    let left = extended-left c.args.after c.extend_by-spares.result.1 (pass_view p) seat.me.0 made.extended in
    keeps-claimed c.args.self.now p seat.me.0 c.extend_by-spares.result.0 left made.claimer seat.me.1 seat.table_id
    made.bare made.table

pub returns-clause-belongs : goal.returns-clause-belongs
returns-clause-belongs g c =
    let v = pass_view c.args.pass.now in
    let w = c.extend_by-spares.new.seat.me.0 in
    let made = c.extend_by-spares.ensures in
    let left = extended-left c.args.after c.extend_by-spares.result.1 v w made.extended in
    belongs-left c.args.self.now c.args.pass.now _ left.0 w.facts.spare_slots v.facts.duties c.requires.belongs left.1
    made.table
