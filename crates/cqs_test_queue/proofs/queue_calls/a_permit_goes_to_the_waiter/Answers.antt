use Rattle.std.proofs.Common.{ap, subst, sym}
use Rattle.cqs_rule.specs.Passes.{pass_view, IsOf}
use Rattle.cqs_test_queue.proofs.Waiting.{stands}
use Rattle.cqs_test_queue.proofs.queue_calls.a_permit_goes_to_the_waiter.Goals as goal

pub look-cell-requires-clause-place : goal.look-cell-requires-clause-place
look-cell-requires-clause-place g c =
    stands _ _ c.send-wait.result _ (ap (λ p. pass_view p) c.spend_wait-at.ensures.same) c.spend_wait-at.ensures.place
    c.send-wait.ensures.waits

pub look-cell-requires-clause-belongs : goal.look-cell-requires-clause-belongs
look-cell-requires-clause-belongs g c =
    subst (λ p. IsOf c.in_ok-queue.queue p) (sym c.spend_wait-at.ensures.same) c.send-wait.ensures.belongs
