use Rattle.std.proofs.Common.{None, Some, refl, sym, subst}
use Rattle.std.specs.Arc.{arc_value}
use Rattle.cqs_rule.specs.Passes.{pass_view}
use Rattle.cqs_rule.specs.Waits.{place_of}
use Rattle.cqs_semaphore.specs.declared.answers.CancelAnswer.TheVariants.{Cancelled, TooLate}
use Rattle.cqs_semaphore.specs.Calls.{IsMine}
use Rattle.cqs_semaphore.specs.Steps.{HasCancelled}
use Rattle.cqs_floor_shared_kinds.proofs.PermitLeaves.{left-owing}
use Rattle.cqs_floor_shared_kinds.proofs.PermitShares.{leaves-clear, leaves-late, leaves-owing}
use Rattle.cqs_floor_shared_kinds.proofs.kinds.permits.SharedPermits.leave.Goals as goal

pub cancel-requires-clause-belongs : goal.cancel-requires-clause-belongs
cancel-requires-clause-belongs g c κs =
    rw c.deref-2.ensures (subst (λ p. IsMine (arc_value c.args.self.now.semaphore) p) (sym c.wait_of-token.ensures.same)
    c.requires.funded.mine)

pub finish-requires-clause-owes : goal.finish-requires-clause-owes
finish-requires-clause-owes g c =
    let k = (place_of c.wait_of-token.result).index in
    let v = pass_view c.args.self.now.pass in
    let u = pass_view c.cancel.new.pass in
    let told : HasCancelled k v (Cancelled (Some c.in-Cancelled-Some.under)) u
    = rw (c.wait_of-token.ensures.same, c.in-Cancelled-Some.is, c.in-Cancelled-Some.field-0-is)
    at c.cancel.ensures.cancelled in
    (left-owing k v u c.in-Cancelled-Some.under told.0 told.2.1).owes

pub finish-requires-clause-further : goal.finish-requires-clause-further
finish-requires-clause-further g c =
    let k = (place_of c.wait_of-token.result).index in
    let v = pass_view c.args.self.now.pass in
    let u = pass_view c.cancel.new.pass in
    let told : HasCancelled k v (Cancelled (Some c.in-Cancelled-Some.under)) u
    = rw (c.wait_of-token.ensures.same, c.in-Cancelled-Some.is, c.in-Cancelled-Some.field-0-is)
    at c.cancel.ensures.cancelled in
    (left-owing k v u c.in-Cancelled-Some.under told.0 told.2.1).further

pub returns-in-Cancelled-None : goal.returns-in-Cancelled-None
returns-in-Cancelled-None g c =
    let k = (place_of c.wait_of-token.result).index in
    let v = pass_view c.args.self.now.pass in
    let w = pass_view c.cancel.new.pass in
    let told : HasCancelled k v (Cancelled None) w
    = rw (c.wait_of-token.ensures.same, c.in-Cancelled-None.is, c.in-Cancelled-None.field-0-is)
    at c.cancel.ensures.cancelled in
    leaves-clear _ _ refl (rw c.deref-2.ensures at c.cancel.ensures.belongs) _ c.wait_of-token.result _
    c.wait_of-token.ensures.place c.requires.has.0 c.requires.has.1.open_yet c.args.job told

pub returns-in-Cancelled-Some : goal.returns-in-Cancelled-Some
returns-in-Cancelled-Some g c =
    let k = (place_of c.wait_of-token.result).index in
    let v = pass_view c.args.self.now.pass in
    let u = pass_view c.cancel.new.pass in
    let told : HasCancelled k v (Cancelled (Some c.in-Cancelled-Some.under)) u
    = rw (c.wait_of-token.ensures.same, c.in-Cancelled-Some.is, c.in-Cancelled-Some.field-0-is)
    at c.cancel.ensures.cancelled in
    leaves-owing _ _ refl (rw c.deref-in-Cancelled-Some.ensures at c.finish.ensures.mine) _ c.wait_of-token.result _
    c.wait_of-token.ensures.place c.requires.has.0 c.requires.has.1.open_yet c.args.job
    c.in-Cancelled-Some.under u told
    c.finish.ensures.went c.finish.ensures.rests

pub returns-in-TooLate : goal.returns-in-TooLate
returns-in-TooLate g c =
    let k = (place_of c.wait_of-token.result).index in
    let v = pass_view c.args.self.now.pass in
    let w = pass_view c.cancel.new.pass in
    let told : HasCancelled k v (TooLate c.in-TooLate.field-0) w
    = rw (c.wait_of-token.ensures.same, c.in-TooLate.is) at c.cancel.ensures.cancelled in
    leaves-late _ _ refl (rw c.deref-2.ensures at c.cancel.ensures.belongs) _ c.wait_of-token.result _
    c.wait_of-token.ensures.place c.requires.has.0 c.requires.has.1.open_yet c.args.job c.in-TooLate.field-0 told

pub finish-requires-clause-mine : goal.finish-requires-clause-mine
finish-requires-clause-mine g c =
    rw c.deref-in-Cancelled-Some.ensures (rw c.deref-2.ensures at c.cancel.ensures.belongs)
