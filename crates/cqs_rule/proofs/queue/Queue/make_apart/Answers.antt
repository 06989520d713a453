use Rattle.std.proofs.Common.{◌/◌, []}
use Rattle.cqs_rule.proofs.Claims.{moved-then}
use Rattle.cqs_rule.proofs.Makes.{drawn-left, extended-left, made-after}
use Rattle.cqs_rule.proofs.queue.Queue.make_apart.Goals as goal

pub returns-clause-left : goal.returns-clause-left
returns-clause-left g c =
    let v = c.args.seat.me.0 in
    let u = c.claim_apart-seat.result.0.me.0 in
    let x = c.last-last.new.seat.me.0 in
    let y = c.extend_by-spares.new.seat.me.0 in
    let looked = moved-then v u x v.facts.duties u.facts.spare_slots c.claim_apart-seat.ensures.left
    ([], c.last-last.ensures.looked) in
    let made = c.extend_by-spares.ensures.extended in
    moved-then v x y v.facts.duties y.facts.spare_slots looked
    (extended-left c.last-last.result c.extend_by-spares.result.1 x y made)

pub returns-clause-made : goal.returns-clause-made
returns-clause-made g c =
    let v = c.args.seat.me.0 in
    let u = c.claim_apart-seat.result.0.me.0 in
    let x = c.last-last.new.seat.me.0 in
    let y = c.extend_by-spares.new.seat.me.0 in
    let last = c.last-last.ensures in
    let near = last.near c.args.index
    (drawn-left v u c.args.index _ _ c.claim_apart-seat.ensures.left c.requires.drawn) in
    let made = c.extend_by-spares.ensures.extended in
    made-after (c.args.index / 32) c.last-last.result made.0 c.extend_by-spares.result.1 x y near last.fits last.found
    made.2
