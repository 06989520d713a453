use Rattle.std.proofs.Common.{◌≡◌, ◌+◌, length, rules}
use Rattle.cqs_rule.specs.Passes.{pass_view}
use Rattle.cqs_floor_alone_kinds.specs.SoleQueue.{semaphore_pass}
use Rattle.cqs_floor_alone_kinds.proofs.OnePasses.{one-sends}
use Rattle.cqs_floor_alone_kinds.proofs.PassCalls.{hands-comes, hands-first}
use Rattle.cqs_floor_alone_kinds.proofs.QueueSole.{queue-frees, queue-sent}
use Rattle.cqs_floor_alone_kinds.proofs.queue_sole.QueueSoleSoleSemaphore.release.Goals as goal

pub returns-in-Ok-Freed : goal.returns-in-Ok-Freed
returns-in-Ok-Freed c =
    let less : length c.pop.new.self.items + 1 ≡ length c.args.self.now.permits.items = search rules in
    queue-frees _ _ c.release.ensures.belongs c.pop.ensures.capacity less
    (rw c.in-Ok-Freed.field-0-is at c.in-Ok-Freed.ensures.called)
    (rw c.in-Ok-Freed.field-0-is at c.in-Ok-Freed.ensures.released)
    (rw c.in-Ok-Freed.field-0-is at c.in-Ok-Freed.ensures.alone)

pub returns-in-Ok-Sent : goal.returns-in-Ok-Sent
returns-in-Ok-Sent c =
    let less : length c.pop.new.self.items + 1 ≡ length c.args.self.now.permits.items = search rules in
    queue-sent _ _ c.release.ensures.belongs c.pop.ensures.capacity less c.in-Ok-Sent.number
    (rw c.in-Ok-Sent.field-0-is at c.in-Ok-Sent.ensures.called)
    (rw c.in-Ok-Sent.field-0-is at c.in-Ok-Sent.ensures.released)
    (rw c.in-Ok-Sent.field-0-is at c.in-Ok-Sent.ensures.alone)

pub returns-in-Ok-Under : goal.returns-in-Ok-Under
returns-in-Ok-Under c =
    let less : length c.pop.new.self.items + 1 ≡ length c.args.self.now.permits.items = search rules in
    one-sends semaphore_pass _ _ c.send.ensures.mine c.pop.ensures.capacity less c.send.result
    (hands-comes _ _ _ c.send.result c.in-Ok-Under.under (rw c.in-Ok-Under.field-0-is at c.in-Ok-Under.ensures.called)
    (rw c.in-Ok-Under.field-0-is at c.in-Ok-Under.ensures.released)
    c.send.ensures.seen c.send.ensures.same c.send.ensures.rests)
    (hands-first _ _ (pass_view c.send.new.pass) c.send.result c.in-Ok-Under.under
    (rw c.in-Ok-Under.field-0-is at c.in-Ok-Under.ensures.called) c.send.ensures.first)
