use Rattle.std.proofs.Common.{arith}
use Rattle.cqs_rule.specs.Passes.{pass_view}
use Rattle.cqs_test_queue.proofs.Jumping.{may-again}
use Rattle.cqs_test_queue.proofs.jumps.a_jump_is_made_and_another_comes_too_late.Goals as goal

pub jump-requires-2-clause-may : goal.jump-requires-2-clause-may
jump-requires-2-clause-may g c κs =
    let first = c.pass_over_first-next in
    let after = first.ensures.after in
    may-again _ _ 1 first.result c.jump.result (pass_view first.new.pass) (pass_view c.jump.new.pass)
    (record { owes = first.ensures.owes; order = omega arith; out = first.ensures.out })
    c.jump.ensures.jumped c.jump.ensures.missed
