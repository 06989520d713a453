use Rattle.std.proofs.Common.{◌-◌, refl, subst, sym, ◌∙◌, arith}
use Rattle.cqs_latch.specs.declared.answers.LatchLeft.TheVariants as answer
use Rattle.cqs_latch.specs.Alone.{plain_after}
use Rattle.cqs_latch.specs.LeftAnswers.{HasLeft}
use Rattle.cqs_rule.specs.Passes.{pass_view}
use Rattle.cqs_rule.specs.Waits.{place_of}
use Rattle.cqs_floor_alone_kinds.specs.declared.latch_sole.LatchSole.{LatchSole}
use Rattle.cqs_floor_alone_kinds.specs.declared.sole_resource.Left.TheVariants.{Gone, Through}
use Rattle.cqs_floor_alone_kinds.specs.SoleLatch.{IsFunded, store_latch}
use Rattle.cqs_floor_alone_kinds.specs.Stores.{Cancels}
use Rattle.cqs_floor_alone_kinds.proofs.LatchCalls.{late-comes, leave-stands, leaves-comes, owing-never, shut-while, some-waits}
use Rattle.cqs_floor_alone_kinds.proofs.LatchSole.{latch-late, latch-leaves, latch-past}
use Rattle.cqs_floor_alone_kinds.proofs.latch_sole.LatchSole.leave.Goals as goal

pub cancel-requires-clause-belongs : goal.cancel-requires-clause-belongs
cancel-requires-clause-belongs c = λ κs.
    rw c.wait_of-token.ensures.same c.requires.funded.mine

pub overflow_sub-self : goal.overflow_sub-self
overflow_sub-self c =
    let x = c.args.self.now in
    let v = pass_view c.wait_of-token.new.pass in
    let f =
    subst
    (λ p. IsFunded (record x { pass = p }) c.requires.kind c.requires.room c.requires.waiting c.requires.held)
    (sym c.wait_of-token.ensures.same) c.requires.funded in
    let plain = (rw c.in-Gone.is at c.cancel.ensures.alone) f.rests.alone in
    let some = some-waits _ v.number (plain_after v).waiters.line plain in
    let line = f.line in
    omega (arith, some, line)

pub unreachable-requires : goal.unreachable-requires
unreachable-requires c =
    let x = c.args.self.now in
    let k = (place_of c.wait_of-token.result).index in
    let v = pass_view c.wait_of-token.new.pass in
    let w = pass_view c.cancel.new.pass in
    let f =
    subst
    (λ p. IsFunded (record x { pass = p }) c.requires.kind c.requires.room c.requires.waiting c.requires.held)
    (sym c.wait_of-token.ensures.same) c.requires.funded in
    let plain = (rw c.in-GoneOwing.is at c.cancel.ensures.alone) f.rests.alone in
    let went = rw c.in-GoneOwing.is at c.cancel.ensures.left in
    let so = subst (λ m. HasLeft m k v (answer.GoneOwing c.in-GoneOwing.field-0) w) f.mode went in
    owing-never v w f.rests.alone f.rests.number k c.in-GoneOwing.field-0 so
    (shut-while (plain_after v) f.rests.none k v.number plain)
    (c.cancel.ensures.belongs.alone c.cancel.new.pass.live.0 (so.1.called.same.alone ∙ f.rests.alone))

pub returns-in-Gone : goal.returns-in-Gone
returns-in-Gone c =
    let x = c.args.self.now in
    let token = c.wait_of-token.result in
    let k = (place_of token).index in
    let y : LatchSole = record x {
      pass = c.cancel.new.pass;
      line = x.line - 1;
      ample_is = c.self-1.given.0;
    } in
    let v = pass_view c.wait_of-token.new.pass in
    let w = pass_view c.cancel.new.pass in
    let f =
    subst
    (λ p. IsFunded (record x { pass = p }) c.requires.kind c.requires.room c.requires.waiting c.requires.held)
    (sym c.wait_of-token.ensures.same) c.requires.funded in
    let plain = (rw c.in-Gone.is at c.cancel.ensures.alone) f.rests.alone in
    let went = rw c.in-Gone.is at c.cancel.ensures.left in
    let so = subst (λ m. HasLeft m k v answer.Gone w) f.mode went in
    subst (λ at. Cancels store_latch c.args._job x c.args._round at Gone y) c.wait_of-token.ensures.place
    (subst (λ p. Cancels store_latch c.args._job (record x { pass = p }) c.args._round (place_of token) Gone y)
    c.wait_of-token.ensures.same
    (latch-leaves (record x { pass = c.wait_of-token.new.pass }) y c.cancel.ensures.belongs f.mode (place_of token)
    c.args._job c.args._round c.requires.has.0
    (leaves-comes v w f.rests.alone f.rests.number k so c.cancel.ensures.belongs.live.legal
    f.rests.smart (shut-while (plain_after v) f.rests.none k v.number plain))
    (leave-stands v w f.rests.alone f.rests.number k plain) refl refl))

pub returns-in-TooLate : goal.returns-in-TooLate
returns-in-TooLate c =
    let x = c.args.self.now in
    let token = c.wait_of-token.result in
    let k = (place_of token).index in
    let y : LatchSole = record x { pass = c.cancel.new.pass; ample_is = c.self-in-TooLate-1.given.0 } in
    let v = pass_view c.wait_of-token.new.pass in
    let w = pass_view c.cancel.new.pass in
    let f =
    subst
    (λ p. IsFunded (record x { pass = p }) c.requires.kind c.requires.room c.requires.waiting c.requires.held)
    (sym c.wait_of-token.ensures.same) c.requires.funded in
    let plain = (rw c.in-TooLate.is at c.cancel.ensures.alone) f.rests.alone in
    let went = rw c.in-TooLate.is at c.cancel.ensures.left in
    let so = subst (λ m. HasLeft m k v answer.TooLate w) f.mode went in
    subst (λ at. Cancels store_latch c.args._job x c.args._round at Through y) c.wait_of-token.ensures.place
    (subst (λ p. Cancels store_latch c.args._job (record x { pass = p }) c.args._round (place_of token) Through y)
    c.wait_of-token.ensures.same
    (latch-late (record x { pass = c.wait_of-token.new.pass }) y c.cancel.ensures.belongs f.mode (place_of token)
    c.args._job c.args._round c.requires.has.0
    (late-comes v w f.rests.alone f.rests.number k so)
    (latch-past (record x { pass = c.wait_of-token.new.pass }) c.requires.kind c.requires.room c.requires.waiting
    c.requires.held f k v.number plain) refl refl))
