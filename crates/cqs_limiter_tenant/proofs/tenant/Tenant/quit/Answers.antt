use Rattle.std.proofs.Common.{ap, sym, subst, ◌∙◌}
use Rattle.cqs_rule.specs.Waits.{place_of}
use Rattle.cqs_semaphore.specs.Calls.{IsMine}
use Rattle.cqs_limiter_tenant.specs.declared.tenant.Seat.TheVariants.{Waiting}
use Rattle.cqs_limiter_tenant.proofs.Came.{lates-comes}
use Rattle.cqs_limiter_tenant.proofs.Sends.{left-now}
use Rattle.cqs_limiter_tenant.proofs.Replied.{quit-gone, quit-late}
use Rattle.cqs_limiter_tenant.proofs.tenant.Tenant.quit.Goals as goal

pub wait_of-wait-requires-clause-wait : goal.wait_of-wait-requires-clause-wait
wait_of-wait-requires-clause-wait c = (c.requires.next.fits.kept.waits _ c.args.place c.requires.seat).0

pub wait_of-wait-requires-clause-place : goal.wait_of-wait-requires-clause-place
wait_of-wait-requires-clause-place c = (c.requires.next.fits.kept.waits _ c.args.place c.requires.seat).1

pub cancel-requires-clause-belongs : goal.cancel-requires-clause-belongs
cancel-requires-clause-belongs c = λ κs.
    subst (λ p. IsMine c.args.self.now.semaphore p) (sym c.wait_of-wait.ensures.same) c.requires.next.fits.kept.mine

pub returns-in-Cancelled-None : goal.returns-in-Cancelled-None
returns-in-Cancelled-None c =
    let kept = c.requires.next.fits.kept in
    let gone = rw (c.wait_of-wait.ensures.same, c.in-Cancelled-None.is) at c.cancel.ensures.cancelled in
    let plain = rw (c.wait_of-wait.ensures.same, c.in-Cancelled-None.is) at c.cancel.ensures.alone in
    let there = c.requires.seat ∙ ap (λ a. Waiting a) (sym c.wait_of-wait.ensures.place) in
    let s = c.sit.ensures.seats in
    quit-gone c.args.self.now c.sit.new.self c.args.line kept
    (rw (c.sit.ensures.semaphore, c.sit.ensures.pass) c.cancel.ensures.belongs) (place_of c.wait_of-wait.result) there
    c.requires.ask
    (rw c.sit.ensures.pass (left-now _ _ _ kept.alone kept.still _ c.in-Cancelled-None.field-0-is gone))
    (plain kept.alone) (record { here = s.here; others = s.others; known = s.known })

pub returns-in-TooLate : goal.returns-in-TooLate
returns-in-TooLate c =
    let kept = c.requires.next.fits.kept in
    let late = rw (c.wait_of-wait.ensures.same, c.in-TooLate.is) at c.cancel.ensures.cancelled in
    let plain = rw (c.wait_of-wait.ensures.same, c.in-TooLate.is) at c.cancel.ensures.alone in
    let there = c.requires.seat ∙ ap (λ a. Waiting a) (sym c.wait_of-wait.ensures.place) in
    let s = c.sit-in-TooLate.ensures.seats in
    quit-late c.args.self.now c.sit-in-TooLate.new.self c.args.line kept
    (rw (c.sit-in-TooLate.ensures.semaphore, c.sit-in-TooLate.ensures.pass) c.cancel.ensures.belongs)
    (place_of c.wait_of-wait.result) there c.requires.ask
    (rw c.sit-in-TooLate.ensures.pass (lates-comes _ _ _ c.in-TooLate.field-0 late kept.alone kept.number))
    (plain kept.alone) (record { here = s.here; others = s.others; known = s.known })
