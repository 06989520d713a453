use Rattle.std.proofs.Common.{◌∙◌, subst}
use Rattle.cqs_test_threads.specs.Goes.{Comes}
use Rattle.cqs_test_threads.proofs.Goes.{poll-through, poll-pending}
use Rattle.cqs_test_threads.proofs.rounds.going.look_on.Goals as goal

pub returns-in-Through-clause-comes : goal.returns-in-Through-clause-comes
returns-in-Through-clause-comes c =
    subst (λ r. Comes r c.in-Through.next c.poll.new.pass.passes.items) c.loop.invariant.same
    (poll-through _ _ _ _ c.loop.invariant.still c.in-Through.ensures.polled)

pub loop-preserved : goal.loop-preserved
loop-preserved c =
    let still = poll-pending _ _ _ _ c.loop.invariant.still c.in-Pending.ensures.polled in
    record { belongs = c.poll.ensures.belongs; still = still.0; same = still.1 ∙ c.loop.invariant.same }
