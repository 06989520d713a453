use Rattle.std.proofs.Common.{ap, sym, subst, ◌∙◌}
use Rattle.cqs_rule_laws.specs.declared.config.Place.{Place as At}
use Rattle.cqs_rule.specs.Waits.{place_of}
use Rattle.cqs_limiter_requests.specs.declared.asks.Answer.TheVariants as answer
use Rattle.cqs_limiter_workers.specs.Sights.{Answers}
use Rattle.cqs_limiter_tenant.specs.declared.tenant.Seat.TheVariants.{Waiting}
use Rattle.cqs_limiter_tenant.specs.Tenants.{tenant_sight}
use Rattle.cqs_limiter_tenant.proofs.Came.{takes-comes, waits-comes}
use Rattle.cqs_limiter_tenant.proofs.Replied.{enter-now, enter-waits}
use Rattle.cqs_limiter_tenant.proofs.tenant.Tenant.enter.Goals as goal

pub spend_wait-place-requires-clause-belongs : goal.spend_wait-place-requires-clause-belongs
spend_wait-place-requires-clause-belongs c = rw c.queue.ensures c.in-Ok-Later.ensures.belongs

pub returns-in-Ok-Now : goal.returns-in-Ok-Now
returns-in-Ok-Now c =
    let kept = c.requires.next.fits.kept in
    let rule = rw c.in-Ok-Now.field-0-is at c.in-Ok-Now.ensures.called in
    let got = rw c.in-Ok-Now.field-0-is at c.in-Ok-Now.ensures.acquired in
    let plain = rw c.in-Ok-Now.field-0-is at c.in-Ok-Now.ensures.alone in
    let s = c.sit.ensures.seats in
    enter-now c.args.self.now c.sit.new.self c.args.line kept
    (rw (c.sit.ensures.semaphore, c.sit.ensures.pass) c.in-Ok-Now.ensures.belongs) c.requires.ask c.requires.seat
    (rw c.sit.ensures.pass (takes-comes _ _ _ rule got plain kept.alone kept.number)) (plain kept.alone).1
    (record { here = s.here; others = s.others; known = s.known })

pub returns-in-Ok-Later : goal.returns-in-Ok-Later
returns-in-Ok-Later c =
    let kept = c.requires.next.fits.kept in
    let rule = rw c.in-Ok-Later.field-0-is at c.in-Ok-Later.ensures.called in
    let got = rw c.in-Ok-Later.field-0-is at c.in-Ok-Later.ensures.acquired in
    let plain = rw c.in-Ok-Later.field-0-is at c.in-Ok-Later.ensures.alone in
    let s = c.sit-in-Ok-Later.ensures.seats in
    let there = c.spend_wait-place.ensures.place in
    let y = c.sit-in-Ok-Later.new.self in
    subst (λ (a : At). Answers tenant_sight c.args.self.now c.args.line (answer.Waits a.index) y) (sym there)
    (enter-waits c.args.self.now y c.args.line kept
    (rw (c.sit-in-Ok-Later.ensures.semaphore, c.sit-in-Ok-Later.ensures.pass, c.spend_wait-place.ensures.same)
    c.in-Ok-Later.ensures.belongs) c.requires.ask c.requires.seat (place_of c.in-Ok-Later.wait)
    (rw (c.sit-in-Ok-Later.ensures.pass, c.spend_wait-place.ensures.same)
    (waits-comes _ _ _ rule got kept.alone kept.number)) (plain kept.alone)
    (rw (c.sit-in-Ok-Later.ensures.pass, c.spend_wait-place.ensures.same) got.2.place)
    (record { here = s.here ∙ ap (λ a. Waiting a) there; others = s.others; known = s.known }))
