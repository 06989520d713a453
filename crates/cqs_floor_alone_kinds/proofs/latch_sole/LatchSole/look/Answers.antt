use Rattle.std.proofs.Common.{refl, subst, sym}
use Rattle.cqs_rule.specs.Passes.{pass_view}
use Rattle.cqs_rule.specs.Waits.{place_of}
use Rattle.cqs_floor_alone_kinds.specs.declared.latch_sole.LatchSole.{LatchSole}
use Rattle.cqs_floor_alone_kinds.specs.declared.sole_resource.Looked.TheVariants.{Pending, Through}
use Rattle.cqs_floor_alone_kinds.specs.SoleLatch.{IsFunded, store_latch}
use Rattle.cqs_floor_alone_kinds.specs.Stores.{Polls}
use Rattle.cqs_floor_alone_kinds.proofs.LatchCalls.{grants-comes, pend-stands, pends-comes}
use Rattle.cqs_floor_alone_kinds.proofs.LatchSole.{latch-comes-through, latch-past, latch-pends}
use Rattle.cqs_floor_alone_kinds.proofs.latch_sole.LatchSole.look.Goals as goal

pub poll-requires-clause-belongs : goal.poll-requires-clause-belongs
poll-requires-clause-belongs c = λ κs.
    rw c.wait_of-token.ensures.same c.requires.funded.mine

pub returns-in-Pending : goal.returns-in-Pending
returns-in-Pending c =
    let x = c.args.self.now in
    let token = c.wait_of-token.result in
    let y : LatchSole = record x { pass = c.poll.new.pass; ample_is = c.self-1.given.0 } in
    let v = pass_view c.wait_of-token.new.pass in
    let w = pass_view c.poll.new.pass in
    let f =
    subst
    (λ p. IsFunded (record x { pass = p }) c.requires.kind c.requires.room c.requires.waiting c.requires.held)
    (sym c.wait_of-token.ensures.same) c.requires.funded in
    let called = rw c.in-Pending.is at c.poll.ensures.called in
    let polled = rw c.in-Pending.is at c.poll.ensures.polled in
    let plain = (rw c.in-Pending.is at c.poll.ensures.alone) f.rests.alone in
    subst (λ at. Polls store_latch c.args._job x c.args._round at Pending y) c.wait_of-token.ensures.place
    (subst (λ p. Polls store_latch c.args._job (record x { pass = p }) c.args._round (place_of token) Pending y)
    c.wait_of-token.ensures.same
    (latch-pends (record x { pass = c.wait_of-token.new.pass }) y c.poll.ensures.belongs f.mode (place_of token)
    c.args._job c.args._round
    (pends-comes v w f.rests.alone f.rests.number token c.in-Pending.field-0 called polled)
    (pend-stands v w f.rests.alone f.rests.number (place_of token).index c.in-Pending.field-0 plain) refl refl))

pub returns-in-Through : goal.returns-in-Through
returns-in-Through c =
    let x = c.args.self.now in
    let token = c.wait_of-token.result in
    let y : LatchSole = record x { pass = c.poll.new.pass; ample_is = c.self-1.given.0 } in
    let v = pass_view c.wait_of-token.new.pass in
    let w = pass_view c.poll.new.pass in
    let f =
    subst
    (λ p. IsFunded (record x { pass = p }) c.requires.kind c.requires.room c.requires.waiting c.requires.held)
    (sym c.wait_of-token.ensures.same) c.requires.funded in
    let called = rw c.in-Through.is at c.poll.ensures.called in
    let polled = rw c.in-Through.is at c.poll.ensures.polled in
    let plain = (rw c.in-Through.is at c.poll.ensures.alone) f.rests.alone in
    subst (λ at. Polls store_latch c.args._job x c.args._round at Through y) c.wait_of-token.ensures.place
    (subst (λ p. Polls store_latch c.args._job (record x { pass = p }) c.args._round (place_of token) Through y)
    c.wait_of-token.ensures.same
    (latch-comes-through (record x { pass = c.wait_of-token.new.pass }) y c.poll.ensures.belongs f.mode
    (place_of token) c.args._job c.args._round c.requires.has.0
    (grants-comes v w f.rests.alone f.rests.number token called polled)
    (latch-past (record x { pass = c.wait_of-token.new.pass }) c.requires.kind c.requires.room c.requires.waiting
    c.requires.held f (place_of token).index v.number plain) refl refl))
