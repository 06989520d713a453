use Rattle.std.proofs.Common.{◌∙◌, subst}
use Rattle.cqs_test_threads.specs.Goes.{Comes}
use Rattle.cqs_test_threads.proofs.Goes.{finish-done, finish-again}
use Rattle.cqs_test_threads.proofs.rounds.going.finish.Goals as goal

pub returns-in-Ok-clause-comes : goal.returns-in-Ok-clause-comes
returns-in-Ok-clause-comes g c =
    subst (λ r. Comes r c.in-Ok.next c.finish.new.pass.passes.items) c.loop.invariant.same
    (finish-done _ _ _ _ c.loop.invariant.still c.in-Ok.ensures.finished)

pub loop-preserved : goal.loop-preserved
loop-preserved g c =
    let still = finish-again _ _ _ _ c.loop.invariant.still c.in-Err.ensures.finished in
    record { belongs = c.finish.ensures.belongs; still = still.0; same = still.1 ∙ c.loop.invariant.same }
