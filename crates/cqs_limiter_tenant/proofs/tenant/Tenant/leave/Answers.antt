use Rattle.cqs_rule.specs.Passes.{pass_view}
use Rattle.cqs_semaphore.specs.Calls.{plain_after}
use Rattle.cqs_limiter_tenant.proofs.Came.{frees-comes, sent-comes, hands-comes, went}
use Rattle.cqs_limiter_tenant.proofs.Replied.{leave-freed, leave-sent, first-told, first-before}
use Rattle.cqs_limiter_tenant.proofs.tenant.Tenant.leave.Goals as goal

pub returns-in-Ok-Freed : goal.returns-in-Ok-Freed
returns-in-Ok-Freed c =
    let kept = c.requires.next.fits.kept in
    let rule = rw c.in-Ok-Freed.field-0-is at c.in-Ok-Freed.ensures.called in
    let gave = rw c.in-Ok-Freed.field-0-is at c.in-Ok-Freed.ensures.released in
    let plain = rw c.in-Ok-Freed.field-0-is at c.in-Ok-Freed.ensures.alone in
    let s = c.sit.ensures.seats in
    leave-freed c.args.self.now c.sit.new.self c.args.line kept
    (rw (c.sit.ensures.semaphore, c.sit.ensures.pass) c.in-Ok-Freed.ensures.belongs) c.requires.ask c.requires.seat
    (record { here = s.here; others = s.others; known = s.known })
    (rw c.sit.ensures.pass (frees-comes _ _ rule gave kept.alone kept.number)) (plain kept.alone)

pub returns-in-Ok-Sent : goal.returns-in-Ok-Sent
returns-in-Ok-Sent c =
    let kept = c.requires.next.fits.kept in
    let rule = rw c.in-Ok-Sent.field-0-is at c.in-Ok-Sent.ensures.called in
    let gave = rw c.in-Ok-Sent.field-0-is at c.in-Ok-Sent.ensures.released in
    let plain = rw c.in-Ok-Sent.field-0-is at c.in-Ok-Sent.ensures.alone in
    let s = c.sit-in-Ok-Sent.ensures.seats in
    leave-sent c.args.self.now c.sit-in-Ok-Sent.new.self c.args.line kept
    (rw (c.sit-in-Ok-Sent.ensures.semaphore, c.sit-in-Ok-Sent.ensures.pass) c.in-Ok-Sent.ensures.belongs)
    c.requires.ask c.requires.seat (record { here = s.here; others = s.others; known = s.known }) c.in-Ok-Sent.number
    (rw c.sit-in-Ok-Sent.ensures.pass (sent-comes _ _ _ rule gave kept.alone kept.number)) (plain kept.alone)

pub returns-in-Ok-Under : goal.returns-in-Ok-Under
returns-in-Ok-Under c =
    let kept = c.requires.next.fits.kept in
    let v = pass_view c.args.self.now.pass in
    let u = pass_view c.release.new.pass in
    let rule = rw c.in-Ok-Under.field-0-is at c.in-Ok-Under.ensures.called in
    let gave = rw c.in-Ok-Under.field-0-is at c.in-Ok-Under.ensures.released in
    let s = c.sit-in-Ok-Under.ensures.seats in
    let k = c.send-number.result in
    leave-sent c.args.self.now c.sit-in-Ok-Under.new.self c.args.line kept
    (rw (c.sit-in-Ok-Under.ensures.semaphore, c.sit-in-Ok-Under.ensures.pass) c.send-number.ensures.mine)
    c.requires.ask c.requires.seat (record { here = s.here; others = s.others; known = s.known }) k
    (rw c.sit-in-Ok-Under.ensures.pass (hands-comes v u _ k c.in-Ok-Under.under rule gave c.send-number.ensures.seen
    c.send-number.ensures.same c.send-number.ensures.rests kept.alone kept.number))
    (first-told (plain_after v) v.number k
    (first-before v u k rule.called.same (went v u _ _ rule kept.alone) c.send-number.ensures.first))
