use Rattle.std.proofs.Common.{subst, sym}
use Rattle.cqs_barrier.specs.Waits.{wait_in}
use Rattle.cqs_rule.specs.Waits.{place_of}
use Rattle.cqs_floor_alone_kinds.specs.declared.round_sole.RoundSole.{RoundSole}
use Rattle.cqs_floor_alone_kinds.specs.declared.sole_resource.Left.TheVariants.{Gone, Through}
use Rattle.cqs_floor_alone_kinds.specs.SoleRound.{HasLeft, IsFundedRound}
use Rattle.cqs_floor_alone_kinds.proofs.RoundCalls.{leaves-gone, leaves-late}
use Rattle.cqs_floor_alone_kinds.proofs.round_sole.RoundSole.leave.Goals as goal

pub cancel-requires-clause-belongs : goal.cancel-requires-clause-belongs
cancel-requires-clause-belongs c = λ κs.
    rw c.wait_of-token.ensures.same c.requires.funded.mine

pub unreachable-requires : goal.unreachable-requires
unreachable-requires c =
    let x = c.args.self.now in
    let f = subst (λ p. IsFundedRound c.requires.parties c.requires.room (record x { pass = p }))
    (sym c.wait_of-token.ensures.same) c.requires.funded in
    (rw c.in-Contended.is at c.cancel.ensures.alone) f.rests.alone

pub returns-in-Withdrawn : goal.returns-in-Withdrawn
returns-in-Withdrawn c =
    let x = c.args.self.now in
    let token = wait_in c.wait_of-token.result in
    let y : RoundSole = record x { pass = c.cancel.new.pass; ample_is = c.self-1.given.0 } in
    let f = subst (λ p. IsFundedRound c.requires.parties c.requires.room (record x { pass = p }))
    (sym c.wait_of-token.ensures.same) c.requires.funded in
    let went = rw c.in-Withdrawn.is at c.cancel.ensures.left in
    subst (λ at. HasLeft at x Gone y) c.wait_of-token.ensures.place
    (subst (λ p. HasLeft (place_of token) (record x { pass = p }) Gone y) c.wait_of-token.ensures.same
    (leaves-gone c.requires.parties c.requires.room (record x { pass = c.wait_of-token.new.pass }) y f
    c.cancel.ensures.belongs token went))

pub returns-in-TooLate : goal.returns-in-TooLate
returns-in-TooLate c =
    let x = c.args.self.now in
    let token = wait_in c.wait_of-token.result in
    let y : RoundSole = record x { pass = c.cancel.new.pass; ample_is = c.self-1.given.0 } in
    let f = subst (λ p. IsFundedRound c.requires.parties c.requires.room (record x { pass = p }))
    (sym c.wait_of-token.ensures.same) c.requires.funded in
    let went = rw c.in-TooLate.is at c.cancel.ensures.left in
    let plain = (rw c.in-TooLate.is at c.cancel.ensures.alone) f.rests.alone in
    subst (λ at. HasLeft at x Through y) c.wait_of-token.ensures.place
    (subst (λ p. HasLeft (place_of token) (record x { pass = p }) Through y) c.wait_of-token.ensures.same
    (leaves-late c.requires.parties c.requires.room (record x { pass = c.wait_of-token.new.pass }) y f
    c.cancel.ensures.belongs token went plain))
