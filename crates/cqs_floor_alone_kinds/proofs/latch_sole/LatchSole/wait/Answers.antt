use Rattle.std.proofs.Common.{◌+◌, Some, refl, subst, sym}
use Rattle.cqs_rule.specs.Waits.{place_of}
use Rattle.cqs_floor_alone_kinds.specs.SoleLatch.{store_latch}
use Rattle.cqs_floor_alone_kinds.specs.Stores.{Awaits}
use Rattle.cqs_floor_alone_kinds.proofs.LatchCalls.{later-has, passes-comes, waits-comes}
use Rattle.cqs_floor_alone_kinds.proofs.LatchSole.{latch-joins, latch-passes}
use Rattle.cqs_floor_alone_kinds.proofs.latch_sole.LatchSole.wait.Goals as goal

pub returns-in-Ok-Passed : goal.returns-in-Ok-Passed
returns-in-Ok-Passed c =
    let x = c.args.self.now in
    let f = c.requires.funded in
    let none = (rw c.in-Ok-Passed.field-0-is at c.in-Ok-Passed.ensures.alone) f.rests.alone in
    let waited = rw c.in-Ok-Passed.field-0-is at c.in-Ok-Passed.ensures.waited in
    latch-passes x _ c.wait.ensures.belongs f.mode c.args._job
    (passes-comes _ _ f.rests.alone f.rests.number waited c.wait.ensures.belongs.live.legal (f.rests.whole none)) none
    refl refl

pub returns-in-Ok-Later : goal.returns-in-Ok-Later
returns-in-Ok-Later c =
    let x = c.args.self.now in
    let f = c.requires.funded in
    let wait = c.in-Ok-Later.wait in
    let plain = (rw c.in-Ok-Later.field-0-is at c.in-Ok-Later.ensures.alone) f.rests.alone in
    let waited = rw c.in-Ok-Later.field-0-is at c.in-Ok-Later.ensures.waited in
    let has = later-has _ _ f.rests.alone f.rests.number wait waited in
    subst (λ p. Awaits store_latch c.args._job x (Some c.spend_wait.result)
    (record x { pass = p; line = x.line + 1; ample_is = c.self-in-Ok-Later-1.given.0 }))
    (sym c.spend_wait.ensures.same)
    (subst (λ at. Awaits store_latch c.args._job x (Some at)
    (record x { pass = c.wait.new.pass; line = x.line + 1; ample_is = c.self-in-Ok-Later-1.given.0 }))
    (sym c.spend_wait.ensures.place)
    (latch-joins x _ c.wait.ensures.belongs f.mode c.args._job (place_of wait)
    (waits-comes _ _ f.rests.alone f.rests.number wait waited) plain.0 plain.1
    (record { open_yet = has.open_yet; place = has.place }) refl refl))

pub spend_wait-requires-clause-belongs : goal.spend_wait-requires-clause-belongs
spend_wait-requires-clause-belongs c = rw c.queue.ensures c.wait.ensures.belongs
