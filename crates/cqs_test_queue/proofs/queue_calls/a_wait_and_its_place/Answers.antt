use Rattle.std.proofs.Common.{subst, sym}
use Rattle.cqs_rule.specs.Passes.{IsOf}
use Rattle.cqs_test_queue.proofs.queue_calls.a_wait_and_its_place.Goals as goal

pub wait_of-again-requires-clause-belongs : goal.wait_of-again-requires-clause-belongs
wait_of-again-requires-clause-belongs g c =
    subst (λ p. IsOf c.in_ok-queue.queue p) (sym c.spend_wait-at.ensures.same) c.wait-wait.ensures.belongs
