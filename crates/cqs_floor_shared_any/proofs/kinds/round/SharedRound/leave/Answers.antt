use Rattle.std.proofs.Common.{[], refl, subst, sym}
use Rattle.std.specs.Arc.{arc_value}
use Rattle.cqs_barrier.specs.Calls.{IsMine}
use Rattle.cqs_barrier.specs.Waits.{wait_in}
use Rattle.cqs_rule.specs.Passes.{pass_view}
use Rattle.cqs_rule.specs.Waits.{place_of}
use Rattle.cqs_floor_shared_any.proofs.RoundsOne.{leaves-by, leaves-then, left-gone, left-late, numbers-then, round-numbers, silent}
use Rattle.cqs_floor_shared_any.specs.RoundsOne.{LeavesAt}
use Rattle.cqs_plan.specs.declared.floors.answers.FloorLeave.TheVariants.{Gone, Late}
use Rattle.cqs_floor_shared_any.proofs.kinds.round.SharedRound.leave.Goals as goal

pub cancel-requires-clause-belongs : goal.cancel-requires-clause-belongs
cancel-requires-clause-belongs g c κs =
    rw c.deref-2.ensures (subst (λ p. IsMine (arc_value c.args.self.now.barrier) p) (sym c.wait_of-token.ensures.same)
    c.requires.round.mine)

pub leave_on-requires-clause-numbers : goal.leave_on-requires-clause-numbers
leave_on-requires-clause-numbers g c =
    let r = c.requires in
    let v = pass_view c.args.self.now.pass in
    let u = pass_view c.cancel.new.pass in
    let told = rw (c.wait_of-token.ensures.same, c.in-Contended.is) at c.cancel.ensures.left in
    numbers-then v u (silent v u [] told.0).same (round-numbers r.parties r.crew c.args.self.now r.round)

pub returns-in-Withdrawn : goal.returns-in-Withdrawn
returns-in-Withdrawn g c =
    let r = c.requires in
    let token = wait_in c.wait_of-token.result in
    let v = pass_view c.args.self.now.pass in
    let w = pass_view c.cancel.new.pass in
    leaves-by c.args.self.now _ refl (rw c.deref-2.ensures at c.cancel.ensures.belongs) refl token _
    c.wait_of-token.ensures.place r Gone
    (left-gone (place_of token).index v w (round-numbers r.parties r.crew c.args.self.now r.round)
    (rw (c.wait_of-token.ensures.same, c.in-Withdrawn.is) at c.cancel.ensures.left))

pub returns-in-TooLate : goal.returns-in-TooLate
returns-in-TooLate g c =
    let r = c.requires in
    let token = wait_in c.wait_of-token.result in
    let v = pass_view c.args.self.now.pass in
    let w = pass_view c.cancel.new.pass in
    leaves-by c.args.self.now _ refl (rw c.deref-2.ensures at c.cancel.ensures.belongs) refl token _
    c.wait_of-token.ensures.place r (Late 0)
    (left-late (place_of token).index v w (round-numbers r.parties r.crew c.args.self.now r.round)
    (rw (c.wait_of-token.ensures.same, c.in-TooLate.is) at c.cancel.ensures.left))

pub returns-in-Contended : goal.returns-in-Contended
returns-in-Contended g c =
    let r = c.requires in
    let token = wait_in c.wait_of-token.result in
    let k = (place_of token).index in
    let v = pass_view c.args.self.now.pass in
    let u = pass_view c.cancel.new.pass in
    let w = pass_view c.leave_on.new.pass in
    let told = rw (c.wait_of-token.ensures.same, c.in-Contended.is) at c.cancel.ensures.left in
    leaves-by c.args.self.now _ refl (rw c.deref-in-Contended.ensures at c.leave_on.ensures.mine) refl token _
    c.wait_of-token.ensures.place r c.leave_on.result
    (leaves-then k v u w c.leave_on.result (silent v u [] told.0) told.3 told.4
    (subst (λ n. LeavesAt n u c.leave_on.result w) told.2 c.leave_on.ensures.left))
