use Rattle.std.proofs.Common.{◌≡◌, ◌+◌, length, rules}
use Rattle.cqs_rule.proofs.Extends.{is-ample}
use Rattle.cqs_floor_alone_kinds.proofs.MutexSole.{mutex-frees, mutex-hands, mutex-sent}
use Rattle.cqs_floor_alone_kinds.proofs.mutex_sole.MutexSoleSoleSemaphore.release.Goals as goal

pub returns-in-Ok-Freed : goal.returns-in-Ok-Freed
returns-in-Ok-Freed c =
    let less : length c.pop.new.self.items + 1 ≡ length c.args.self.now.guards.items = search rules in
    mutex-frees _ _ c.unlock.ensures.belongs c.pop.ensures.capacity less _
    (is-ample c.args.self.now.mutex.semaphore.queue c.args.self.now.pass c.requires.funded.mine.mine
    c.args.self.now.ample_is)
    (rw c.in-Ok-Freed.field-0-is at c.in-Ok-Freed.ensures.unlocked)

pub returns-in-Ok-Sent : goal.returns-in-Ok-Sent
returns-in-Ok-Sent c =
    let less : length c.pop.new.self.items + 1 ≡ length c.args.self.now.guards.items = search rules in
    mutex-sent _ _ c.unlock.ensures.belongs c.pop.ensures.capacity less _
    (is-ample c.args.self.now.mutex.semaphore.queue c.args.self.now.pass c.requires.funded.mine.mine
    c.args.self.now.ample_is)
    c.in-Ok-Sent.number
    (rw c.in-Ok-Sent.field-0-is at c.in-Ok-Sent.ensures.unlocked)

pub returns-in-Ok-Under : goal.returns-in-Ok-Under
returns-in-Ok-Under c =
    let less : length c.pop.new.self.items + 1 ≡ length c.args.self.now.guards.items = search rules in
    mutex-hands _ _ c.send.ensures.belongs c.pop.ensures.capacity less _
    (is-ample c.args.self.now.mutex.semaphore.queue c.args.self.now.pass c.requires.funded.mine.mine
    c.args.self.now.ample_is)
    c.send.result c.in-Ok-Under.under _
    (rw c.in-Ok-Under.field-0-is at c.in-Ok-Under.ensures.unlocked)
    c.send.ensures.first c.send.ensures.seen c.send.ensures.same c.send.ensures.rests
