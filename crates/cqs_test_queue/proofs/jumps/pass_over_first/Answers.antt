use Rattle.std.proofs.Common.{◌/◌, arith}
use Rattle.cqs_rule.specs.Passes.{pass_view}
use Rattle.cqs_find.proofs.Numbers.{outs-grow}
use Rattle.cqs_test_queue.proofs.jumps.pass_over_first.Goals as goal

pub returns-clause-out : goal.returns-clause-out
returns-clause-out g c k low below =
    let u = pass_view c.find.new.pass in
    let x = pass_view c.place_after-after.new.pass in
    let w = pass_view c.pass_over.new.pass in
    let taken = rw c.in-Ok-Over.field-0-is at c.in-Ok-Over.ensures.finds in
    let then = c.place_after-after.ensures.stayed.segments in
    let last = c.pass_over.ensures.over.saw.same.segments in
    let next = taken.next_is in
    outs-grow x w (k / 32) last
    (outs-grow u x (k / 32) then
    (taken.out (k / 32) (omega arith) (omega arith)))
