use Rattle.std.proofs.Common.{refl, ap, sym, subst, ◌∙◌}
use Rattle.cqs_rule.specs.Waits.{place_of}
use Rattle.cqs_semaphore.specs.Calls.{IsMine}
use Rattle.cqs_limiter_tenant.specs.declared.tenant.Seat.TheVariants.{Waiting}
use Rattle.cqs_limiter_tenant.proofs.Came.{grants-comes, pends-comes}
use Rattle.cqs_limiter_tenant.proofs.Replied.{look-granted, look-pending}
use Rattle.cqs_limiter_tenant.proofs.tenant.Tenant.look.Goals as goal

pub wait_of-wait-requires-clause-wait : goal.wait_of-wait-requires-clause-wait
wait_of-wait-requires-clause-wait c = (c.requires.next.fits.kept.waits _ c.args.place c.requires.seat).0

pub wait_of-wait-requires-clause-place : goal.wait_of-wait-requires-clause-place
wait_of-wait-requires-clause-place c = (c.requires.next.fits.kept.waits _ c.args.place c.requires.seat).1

pub poll-requires-clause-belongs : goal.poll-requires-clause-belongs
poll-requires-clause-belongs c = λ κs.
    subst (λ p. IsMine c.args.self.now.semaphore p) (sym c.wait_of-wait.ensures.same) c.requires.next.fits.kept.mine

pub returns-in-Pending : goal.returns-in-Pending
returns-in-Pending c =
    let kept = c.requires.next.fits.kept in
    let rule = rw (c.wait_of-wait.ensures.same, c.in-Pending.is) at c.poll.ensures.called in
    let looked = rw (c.wait_of-wait.ensures.same, c.in-Pending.is) at c.poll.ensures.polled in
    let plain = rw (c.wait_of-wait.ensures.same, c.in-Pending.is) at c.poll.ensures.alone in
    let there = c.requires.seat ∙ ap (λ a. Waiting a) (sym c.wait_of-wait.ensures.place) in
    look-pending c.args.self.now _ c.args.line kept c.poll.ensures.belongs (place_of c.wait_of-wait.result) there
    c.requires.ask (pends-comes _ _ c.wait_of-wait.result c.in-Pending.field-0 rule looked kept.alone kept.number)
    (plain kept.alone) (record { here = there; others = λ i far. refl; known = λ i is. is })

pub returns-in-Granted : goal.returns-in-Granted
returns-in-Granted c =
    let kept = c.requires.next.fits.kept in
    let rule = rw (c.wait_of-wait.ensures.same, c.in-Granted.is) at c.poll.ensures.called in
    let looked = rw (c.wait_of-wait.ensures.same, c.in-Granted.is) at c.poll.ensures.polled in
    let plain = rw (c.wait_of-wait.ensures.same, c.in-Granted.is) at c.poll.ensures.alone in
    let there = c.requires.seat ∙ ap (λ a. Waiting a) (sym c.wait_of-wait.ensures.place) in
    let s = c.sit.ensures.seats in
    look-granted c.args.self.now c.sit.new.self c.args.line kept
    (rw (c.sit.ensures.semaphore, c.sit.ensures.pass) c.poll.ensures.belongs) (place_of c.wait_of-wait.result) there
    c.requires.ask
    (rw c.sit.ensures.pass
    (grants-comes _ _ c.wait_of-wait.result c.in-Granted.field-0 rule looked kept.alone kept.number))
    (plain kept.alone) (record { here = s.here; others = s.others; known = s.known })
