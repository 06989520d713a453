use Rattle.std.proofs.Common.{ap, sym, subst}
use Rattle.cqs_rule.specs.Passes.{pass_view, IsOf}
use Rattle.cqs_rule.specs.Waits.{place_of}
use Rattle.cqs_rule.proofs.Places.{knows-at, knows-saw}
use Rattle.cqs_semaphore_client.specs.Semaphore.{semaphore_object}
use Rattle.cqs_test_queue.proofs.synchronous.begin_to_leave.Goals as goal

-- a token that is spent leaves the pass as it is
pub begin_cancel-requires-clause-belongs : goal.begin_cancel-requires-clause-belongs
begin_cancel-requires-clause-belongs g c =
    subst (λ q. IsOf q c.spend_wait-at.new.pass) (sym c.queue-2.ensures)
    (subst (λ p. IsOf c.args.semaphore.now.queue p) (sym c.spend_wait-at.ensures.same) c.acquire.ensures.belongs)

pub returns-clause-belongs : goal.returns-clause-belongs
returns-clause-belongs g c =
    subst (λ q. IsOf q c.begin_cancel.new.pass) c.queue-2.ensures c.begin_cancel.ensures.belongs

-- and the pass knows the place of its wait from then on
pub returns-clause-place : goal.returns-clause-place
returns-clause-place g c =
    let acquired = rw c.in-Ok-Later.field-0-is at c.in-Ok-Later.ensures.acquired in
    let at = c.spend_wait-at in
    knows-saw semaphore_object (pass_view at.new.pass) (pass_view c.begin_cancel.new.pass) _ _ at.result
    c.in-Ok.ensures.made.saw
    (knows-at (pass_view c.acquire.new.pass) (pass_view at.new.pass) (place_of c.in-Ok-Later.wait) at.result
    (ap pass_view at.ensures.same) at.ensures.place acquired.2.place)
