use Rattle.std.proofs.Common.{subst, sym}
use Rattle.cqs_barrier.specs.Waits.{wait_in}
use Rattle.cqs_rule.specs.Waits.{place_of}
use Rattle.cqs_floor_alone_kinds.specs.declared.round_sole.RoundSole.{RoundSole}
use Rattle.cqs_floor_alone_kinds.specs.declared.sole_resource.Looked.TheVariants.{Pending, Through}
use Rattle.cqs_floor_alone_kinds.specs.SoleRound.{HasLooked, IsFundedRound}
use Rattle.cqs_floor_alone_kinds.proofs.RoundCalls.{looks-pending, looks-through}
use Rattle.cqs_floor_alone_kinds.proofs.round_sole.RoundSole.look.Goals as goal

pub poll-requires-clause-belongs : goal.poll-requires-clause-belongs
poll-requires-clause-belongs c = λ κs.
    rw c.wait_of-token.ensures.same c.requires.funded.mine

pub returns-in-Pending : goal.returns-in-Pending
returns-in-Pending c =
    let x = c.args.self.now in
    let token = wait_in c.wait_of-token.result in
    let y : RoundSole = record x { pass = c.poll.new.pass; ample_is = c.self-1.given.0 } in
    let f = subst (λ p. IsFundedRound c.requires.parties c.requires.room (record x { pass = p }))
    (sym c.wait_of-token.ensures.same) c.requires.funded in
    let called = rw c.in-Pending.is at c.poll.ensures.called in
    let polled = rw c.in-Pending.is at c.poll.ensures.polled in
    subst (λ at. HasLooked at x Pending y) c.wait_of-token.ensures.place
    (subst (λ p. HasLooked (place_of token) (record x { pass = p }) Pending y) c.wait_of-token.ensures.same
    (looks-pending c.requires.parties c.requires.room (record x { pass = c.wait_of-token.new.pass }) y f
    c.poll.ensures.belongs token c.in-Pending.field-0 called polled))

pub returns-in-Through : goal.returns-in-Through
returns-in-Through c =
    let x = c.args.self.now in
    let token = wait_in c.wait_of-token.result in
    let y : RoundSole = record x { pass = c.poll.new.pass; ample_is = c.self-1.given.0 } in
    let f = subst (λ p. IsFundedRound c.requires.parties c.requires.room (record x { pass = p }))
    (sym c.wait_of-token.ensures.same) c.requires.funded in
    let called = rw c.in-Through.is at c.poll.ensures.called in
    let polled = rw c.in-Through.is at c.poll.ensures.polled in
    subst (λ at. HasLooked at x Through y) c.wait_of-token.ensures.place
    (subst (λ p. HasLooked (place_of token) (record x { pass = p }) Through y) c.wait_of-token.ensures.same
    (looks-through c.requires.parties c.requires.room (record x { pass = c.wait_of-token.new.pass }) y f
    c.poll.ensures.belongs token called polled))
