use Rattle.std.proofs.Common.{refl, sym, subst}
use Rattle.std.specs.Arc.{arc_value}
use Rattle.cqs_latch.specs.Calls.{IsMine}
use Rattle.cqs_rule.specs.Passes.{pass_view}
use Rattle.cqs_floor_shared_any.proofs.LatchShares.{leaves-clear, leaves-late, leaves-owing}
use Rattle.cqs_floor_shared_any.proofs.kinds.latch.SharedLatch.leave.Goals as goal

pub cancel-requires-clause-belongs : goal.cancel-requires-clause-belongs
cancel-requires-clause-belongs g c κs =
    rw c.deref-2.ensures (subst (λ p. IsMine (arc_value c.args.self.now.latch) p) (sym c.wait_of-token.ensures.same)
    c.requires.funded.mine)

pub finish-requires-clause-mine : goal.finish-requires-clause-mine
finish-requires-clause-mine g c =
    rw c.deref-in-GoneOwing.ensures (rw c.deref-2.ensures at c.cancel.ensures.belongs)

pub returns-in-Gone : goal.returns-in-Gone
returns-in-Gone g c =
    leaves-clear _ _ refl (rw c.deref-2.ensures at c.cancel.ensures.belongs) _ c.wait_of-token.result _
    c.wait_of-token.ensures.place c.requires.has.0 c.requires.has.1.open_yet refl c.args.job _
    (rw (c.wait_of-token.ensures.same, c.in-Gone.is) at c.cancel.ensures.left)

pub returns-in-GoneOwing : goal.returns-in-GoneOwing
returns-in-GoneOwing g c =
    leaves-owing _ _ refl (rw c.deref-in-GoneOwing.ensures at c.finish.ensures.mine) _ c.wait_of-token.result _
    c.wait_of-token.ensures.place c.requires.has.0 c.requires.has.1.open_yet refl c.args.job _ c.in-GoneOwing.owed
    (pass_view c.cancel.new.pass)
    (rw (c.wait_of-token.ensures.same, c.in-GoneOwing.is) at c.cancel.ensures.left)
    c.finish.ensures.went c.finish.ensures.rests

pub returns-in-TooLate : goal.returns-in-TooLate
returns-in-TooLate g c =
    leaves-late _ _ refl (rw c.deref-2.ensures at c.cancel.ensures.belongs) _ c.wait_of-token.result _
    c.wait_of-token.ensures.place c.requires.has.0 c.requires.has.1.open_yet refl c.args.job
    (rw (c.wait_of-token.ensures.same, c.in-TooLate.is) at c.cancel.ensures.left)
