use Rattle.std.proofs.Common.{refl}
use Rattle.cqs_rule.specs.Passes.{pass_view}
use Rattle.cqs_floor_shared_kinds.proofs.PermitShares.{gives-freed, gives-left, gives-sent, gives-under, gives-void}
use Rattle.cqs_floor_shared_kinds.proofs.kinds.permits.SharedPermits.give.Goals as goal

pub returns-in-Ok-Freed : goal.returns-in-Ok-Freed
returns-in-Ok-Freed g c =
    gives-freed _ _ refl (rw c.deref-2.ensures at c.in-Ok-Freed.ensures.belongs) c.args.job
    (rw c.in-Ok-Freed.field-0-is at c.in-Ok-Freed.ensures.called)
    (rw c.in-Ok-Freed.field-0-is at c.in-Ok-Freed.ensures.released)

pub returns-in-Ok-Sent : goal.returns-in-Ok-Sent
returns-in-Ok-Sent g c =
    let released = rw c.in-Ok-Sent.field-0-is at c.in-Ok-Sent.ensures.released in
    gives-sent _ _ refl (rw c.deref-2.ensures at c.in-Ok-Sent.ensures.belongs) c.args.job c.in-Ok-Sent.number
    (rw c.in-Ok-Sent.field-0-is at c.in-Ok-Sent.ensures.called) released.1.1

pub returns-in-Ok-Left : goal.returns-in-Ok-Left
returns-in-Ok-Left g c =
    let released = rw c.in-Ok-Left.field-0-is at c.in-Ok-Left.ensures.released in
    gives-left _ _ refl (rw c.deref-2.ensures at c.in-Ok-Left.ensures.belongs) c.args.job c.in-Ok-Left.number
    (rw c.in-Ok-Left.field-0-is at c.in-Ok-Left.ensures.called) released.1

pub returns-in-Ok-Void : goal.returns-in-Ok-Void
returns-in-Ok-Void g c =
    let released = rw c.in-Ok-Void.field-0-is at c.in-Ok-Void.ensures.released in
    gives-void _ _ refl (rw c.deref-2.ensures at c.in-Ok-Void.ensures.belongs) c.args.job c.in-Ok-Void.number
    (rw c.in-Ok-Void.field-0-is at c.in-Ok-Void.ensures.called) released.1

pub returns-in-Ok-Under : goal.returns-in-Ok-Under
returns-in-Ok-Under g c =
    let released = rw c.in-Ok-Under.field-0-is at c.in-Ok-Under.ensures.released in
    gives-under _ _ refl (rw c.deref-in-Ok-Under.ensures at c.finish.ensures.mine) c.args.job c.finish.result
    c.in-Ok-Under.under (pass_view c.release.new.pass)
    (rw c.in-Ok-Under.field-0-is at c.in-Ok-Under.ensures.called) released.1
    c.finish.ensures.went c.finish.ensures.rests c.finish.ensures.tells
