use Rattle.std.proofs.Common.{◌∙◌, subst}
use Rattle.cqs_test_threads.specs.Goes.{Comes}
use Rattle.cqs_test_threads.proofs.Goes.{leave-withdrawn, leave-late, leave-contended}
use Rattle.cqs_test_threads.proofs.rounds.going.leave_on.Goals as goal

pub returns-in-Withdrawn-clause-comes : goal.returns-in-Withdrawn-clause-comes
returns-in-Withdrawn-clause-comes c =
    subst (λ r. Comes r c.in-Withdrawn.same c.leave_again.new.pass.passes.items) c.loop.invariant.same
    (leave-withdrawn _ _ _ _ _ c.loop.invariant.still c.in-Withdrawn.ensures.left)

pub returns-in-TooLate-clause-comes : goal.returns-in-TooLate-clause-comes
returns-in-TooLate-clause-comes c =
    subst (λ r. Comes r c.in-TooLate.next c.leave_again.new.pass.passes.items) c.loop.invariant.same
    (leave-late _ _ _ _ _ c.loop.invariant.still c.in-TooLate.ensures.left)

pub loop-preserved : goal.loop-preserved
loop-preserved c =
    let still = leave-contended _ _ _ _ _ _ _ c.loop.invariant.still c.in-Contended.ensures.left in
    record { belongs = c.leave_again.ensures.belongs; still = still.0; same = still.1 ∙ c.loop.invariant.same }
