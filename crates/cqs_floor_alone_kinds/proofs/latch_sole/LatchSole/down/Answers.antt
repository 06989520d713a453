use Rattle.std.proofs.Common.{refl}
use Rattle.cqs_floor_alone_kinds.proofs.LatchCalls.{already-comes, counts-comes, opens-comes, owing-comes}
use Rattle.cqs_floor_alone_kinds.proofs.LatchSole.{latch-counts, latch-open, latch-opens}
use Rattle.cqs_floor_alone_kinds.proofs.latch_sole.LatchSole.down.Goals as goal

pub returns-in-Ok-Left : goal.returns-in-Ok-Left
returns-in-Ok-Left c =
    let f = c.requires.funded in
    let plain = (rw c.in-Ok-Left.field-0-is at c.in-Ok-Left.ensures.alone) f.rests.alone in
    let counted = rw c.in-Ok-Left.field-0-is at c.in-Ok-Left.ensures.counted in
    latch-counts c.args.self.now _ c.count_down.ensures.belongs f.mode c.in-Ok-Left.left
    (counts-comes _ _ f.rests.alone f.rests.number c.in-Ok-Left.left counted) plain.1 plain.0 refl refl

pub returns-in-Ok-Last : goal.returns-in-Ok-Last
returns-in-Ok-Last c =
    let f = c.requires.funded in
    let plain = (rw c.in-Ok-Last.field-0-is at c.in-Ok-Last.ensures.alone) f.rests.alone in
    let counted = rw c.in-Ok-Last.field-0-is at c.in-Ok-Last.ensures.counted in
    let order = (rw c.in-Ok-Last.field-0-is at c.in-Ok-Last.ensures.alone_in_order) f.rests.alone f.mode in
    let all = (rw c.in-Ok-Last.field-0-is at c.in-Ok-Last.ensures.alone_opens) f.rests.alone in
    latch-opens c.args.self.now _ c.count_down.ensures.belongs f.mode
    (opens-comes _ _ f.rests.alone f.rests.number counted order) all plain refl refl

pub returns-in-Ok-LastOwing : goal.returns-in-Ok-LastOwing
returns-in-Ok-LastOwing c =
    let f = c.requires.funded in
    let plain = (rw c.in-Ok-LastOwing.field-0-is at c.in-Ok-LastOwing.ensures.alone) f.rests.alone in
    let counted = rw c.in-Ok-LastOwing.field-0-is at c.in-Ok-LastOwing.ensures.counted in
    let order = (rw c.in-Ok-LastOwing.field-0-is at c.in-Ok-LastOwing.ensures.alone_in_order) f.rests.alone f.mode in
    latch-opens c.args.self.now _ c.finish.ensures.mine f.mode
    (owing-comes _ _ f.rests.alone f.rests.number c.in-Ok-LastOwing.owed _ counted order c.finish.ensures.served)
    c.finish.ensures.served.all plain refl refl

pub returns-in-Ok-Already : goal.returns-in-Ok-Already
returns-in-Ok-Already c =
    let f = c.requires.funded in
    let plain = (rw c.in-Ok-Already.field-0-is at c.in-Ok-Already.ensures.alone) f.rests.alone in
    let counted = rw c.in-Ok-Already.field-0-is at c.in-Ok-Already.ensures.counted in
    latch-open c.args.self.now _ c.count_down.ensures.belongs f.mode
    (already-comes _ _ f.rests.alone f.rests.number counted) plain refl refl
