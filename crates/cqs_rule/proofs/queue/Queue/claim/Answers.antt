use Rattle.std.proofs.Common.{subst, length, sym, ap, ◌∙◌, arith}
use Rattle.cqs_segment.specs.Slots.{SawAllTaken}
use Rattle.cqs_rule.proofs.Segments.{all-slots, belongs-left, has-more, keeps-left, many-slots, walks}
use Rattle.cqs_rule.proofs.queue.Queue.claim.Goals as goal

pub claim-requires-clause-walker : goal.claim-requires-clause-walker
claim-requires-clause-walker g c = walks c.args.self.now c.args.pass.now c.requires.belongs

pub claim-requires-clause-all : goal.claim-requires-clause-all
claim-requires-clause-all g c = all-slots c.args.self.now c.args.pass.now c.requires.belongs

pub with-pass-requires : goal.with-pass-requires
with-pass-requires g c =
    let p = c.args.pass.now in
    let few = c.requires.few in
    let many = sym (ap length p.spares_are.are) ∙ many-slots _ in record { few = omega arith }

pub invariant_of-pass : goal.invariant_of-pass
invariant_of-pass g c =
    let p = c.args.pass.now in
    let v = p.seat.me.0 in
    let seat = c.claim.new.seat in
    let claimed = c.in-Some.ensures.claimed in
    let low = claimed.0 in
    let all = all-slots c.args.self.now p c.requires.belongs in
    keeps-left p seat.me.0 claimed.1.0 _ c.with-pass.result claimed.1.1
    (has-more v.facts.spare_slots v.slots c.in-Some.slot p.spares c.with-pass.result p.spares_are (omega arith)
    c.with-pass.ensures)
    seat.me.1 seat.table_id c.claim.ensures.bare c.claim.ensures.table

pub invariant_of-pass-in-None : goal.invariant_of-pass-in-None
invariant_of-pass-in-None g c =
    let p = c.args.pass.now in
    let v = p.seat.me.0 in
    let seat = c.claim.new.seat in
    let taken = c.in-None.ensures.crowded in
    keeps-left p seat.me.0 taken.heads v.facts.spare_slots p.spares taken.left p.spares_are
    seat.me.1 seat.table_id c.claim.ensures.bare c.claim.ensures.table

pub returns-in-Some-clause-belongs : goal.returns-in-Some-clause-belongs
returns-in-Some-clause-belongs g c =
    let p = c.args.pass.now in
    let claimed = c.in-Some.ensures.claimed in
    belongs-left c.args.self.now p _ claimed.1.0 _ p.seat.me.0.facts.duties c.requires.belongs claimed.1.1
    c.claim.ensures.table

pub returns-in-None-clause-belongs : goal.returns-in-None-clause-belongs
returns-in-None-clause-belongs g c =
    let p = c.args.pass.now in
    let v = p.seat.me.0 in
    let taken = c.in-None.ensures.crowded in
    belongs-left c.args.self.now p _ taken.heads v.facts.spare_slots v.facts.duties c.requires.belongs taken.left
    c.claim.ensures.table

pub returns-in-None-clause-crowded : goal.returns-in-None-clause-crowded
returns-in-None-clause-crowded g c =
    let p = c.args.pass.now in
    subst (λ n. SawAllTaken n p.seat.me.0 c.claim.new.seat.me.0) (all-slots c.args.self.now p c.requires.belongs)
    c.in-None.ensures.crowded
