use Rattle.std.proofs.Common.{refl, subst, sym, ap, Err}
use Rattle.cqs_barrier.specs.Arriving.{Arrives}
use Rattle.cqs_barrier.specs.Calls.{IsMine}
use Rattle.cqs_barrier.specs.declared.answers.Arrived.TheVariants.{Later}
use Rattle.std.specs.Arc.{arc_value}
use Rattle.cqs_rule.specs.Passes.{pass_view}
use Rattle.cqs_floor_shared_any.proofs.RoundsOne.{comes-last, comes-later, comes-owing, comes-worn}
use Rattle.cqs_floor_shared_any.proofs.kinds.round.SharedRound.arrive.Goals as goal

pub returns-in-Ok-Last : goal.returns-in-Ok-Last
returns-in-Ok-Last g c =
    comes-last c.args.self.now _ refl (rw c.deref.ensures at c.in-Ok-Last.ensures.belongs) refl c.requires
    (rw c.in-Ok-Last.field-0-is at c.in-Ok-Last.ensures.arrived)

pub returns-in-Ok-LastOwing : goal.returns-in-Ok-LastOwing
returns-in-Ok-LastOwing g c =
    comes-owing c.args.self.now _ refl (rw c.deref-in-Ok-LastOwing.ensures at c.finish.ensures.mine) refl c.requires
    c.in-Ok-LastOwing.owing (pass_view c.arrive.new.pass)
    (rw c.in-Ok-LastOwing.field-0-is at c.in-Ok-LastOwing.ensures.arrived) c.finish.ensures.went c.finish.ensures.rests

pub returns-in-Ok-Later : goal.returns-in-Ok-Later
returns-in-Ok-Later g c =
    let next = sym c.spend_wait.ensures.same in
    let v = pass_view c.args.self.now.pass in
    let how = rw c.in-Ok-Later.field-0-is at c.in-Ok-Later.ensures.arrived in
    comes-later c.args.self.now _ refl
    (subst (λ p. IsMine (arc_value c.args.self.now.barrier) p) next
    (rw c.deref.ensures at c.in-Ok-Later.ensures.belongs)) refl c.requires c.in-Ok-Later.wait _
    c.spend_wait.ensures.place (subst (λ p. Arrives v (Later c.in-Ok-Later.wait) (pass_view p)) next how)

pub returns-in-Err-Worn : goal.returns-in-Err-Worn
returns-in-Err-Worn g c =
    comes-worn c.args.self.now _ refl (rw c.deref.ensures at c.in-Err-Worn.ensures.belongs) refl c.requires
    (c.in-Err-Worn.ensures.worn (ap Err c.in-Err-Worn.field-0-is))
