use Rattle.std.proofs.Common.{ap, subst, sym}
use Rattle.cqs_rule.specs.Passes.{pass_view, IsOf}
use Rattle.cqs_rule_laws.proofs.Places.{goes-saw, known-still}
use Rattle.cqs_semaphore_client.specs.Semaphore.{semaphore_object}
use Rattle.cqs_test_queue.proofs.Waiting.{stands}
use Rattle.cqs_test_queue.proofs.queue_calls.looks_at_a_wait.Goals as goal

pub watch-requires-clause-place : goal.watch-requires-clause-place
watch-requires-clause-place g c =
    stands _ _ c.wait-wait.result _ (ap (λ p. pass_view p) c.spend_wait-at.ensures.same) c.spend_wait-at.ensures.place
    c.wait-wait.ensures.waits

pub watch-requires-clause-belongs : goal.watch-requires-clause-belongs
watch-requires-clause-belongs g c =
    subst (λ p. IsOf c.in_ok-queue.queue p) (sym c.spend_wait-at.ensures.same) c.wait-wait.ensures.belongs

pub watch-requires-clause-number : goal.watch-requires-clause-number
watch-requires-clause-number g c =
    rw (c.spend_wait-at.ensures.same, c.spend_wait-at.ensures.place) c.wait-wait.ensures.below

pub look-requires-clause-place : goal.look-requires-clause-place
look-requires-clause-place g c =
    known-still _ _ c.spend_wait-at.result (goes-saw semaphore_object _ _ _ _ c.watch.ensures.watched.watched.saw)
    (stands _ _ c.wait-wait.result _ (ap (λ p. pass_view p) c.spend_wait-at.ensures.same) c.spend_wait-at.ensures.place
    c.wait-wait.ensures.waits)
