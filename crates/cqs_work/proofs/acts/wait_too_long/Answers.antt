use Rattle.std.proofs.Common.{sym, ap, ◌∙◌}
use Rattle.cqs_turns_report.specs.Roles.{left_with, role, wait_at}
use Rattle.cqs_turns_report.specs.Turns.{places_held}
use Rattle.cqs_turns_report.proofs.Readied.{leave-held}
use Rattle.cqs_work.specs.Hands.{at_hand}
use Rattle.cqs_work.proofs.InTurn.{waiting-can}
use Rattle.cqs_work.proofs.GivingUp.{left-stands, gave-up-turned}
use Rattle.cqs_work.proofs.Acting.{on-ok-both}
use Rattle.cqs_work.proofs.Retrying.{retry-left, again-can, again-held, again-turned}
use Rattle.cqs_work.proofs.acts.wait_too_long.Goals as goal

pub retry-requires-clause-held : goal.retry-requires-clause-held
retry-requires-clause-held g c =
    let f = at_hand g.F.SharedFloor.shared g.G.Gate.begun g.G.Gate.ended c.args.clerk.now in
    let k = at_hand g.F.SharedFloor.shared g.G.Gate.begun g.G.Gate.ended c.leave-answer.new.self in
    c.requires.held
    ∙ sym (again-held c.args.actor.now f k c.args.state.now.progress c.args.next c.args.at c.args.round c.args.number
    c.args.state.now.patience c.leave-answer.result c.requires.waits c.requires.turn c.leave-answer.ensures.leaves
    c.leave-answer.ensures.waits c.leave-answer.ensures.told (sym c.retries.ensures ∙ c.if-retries.true))

pub retry-requires-clause-can : goal.retry-requires-clause-can
retry-requires-clause-can g c =
    let f = at_hand g.F.SharedFloor.shared g.G.Gate.begun g.G.Gate.ended c.args.clerk.now in
    let k = at_hand g.F.SharedFloor.shared g.G.Gate.begun g.G.Gate.ended c.leave-answer.new.self in
    again-can c.args.actor.now f k c.args.state.now.progress c.args.next c.args.at c.args.round c.args.number
    c.args.state.now.patience c.leave-answer.result c.requires.waits c.requires.turn c.leave-answer.ensures.leaves
    c.leave-answer.ensures.waits c.leave-answer.ensures.told (sym c.retries.ensures ∙ c.if-retries.true)

pub give_up-requires-clause-held : goal.give_up-requires-clause-held
give_up-requires-clause-held g c =
    let f = at_hand g.F.SharedFloor.shared g.G.Gate.begun g.G.Gate.ended c.args.clerk.now in
    let wait = wait_at c.args.at c.args.round c.args.number in
    let can = waiting-can c.args.actor.now f c.args.state.now.progress c.args.state.now.patience c.args.next c.args.at
    c.args.round c.args.number c.requires.waits c.requires.turn in
    let left = c.leave-answer.ensures.leaves.at wait can.stands.ready.waits in
    ap (λ b. places_held b c.args.actor.now.place) left.board
    ∙ leave-held f.floor.board c.args.actor.now.resources.now c.args.actor.now.place wait c.leave-answer.result
    can.stands.kinds can.stands.ready.job can.stands.ready.waits
    ∙ ap (λ held. left_with c.args.actor.now.resources.now held c.args.at c.leave-answer.result) (sym c.requires.held)

pub give_up-requires-clause-stands : goal.give_up-requires-clause-stands
give_up-requires-clause-stands g c =
    let f = at_hand g.F.SharedFloor.shared g.G.Gate.begun g.G.Gate.ended c.args.clerk.now in
    let k = at_hand g.F.SharedFloor.shared g.G.Gate.begun g.G.Gate.ended c.leave-answer.new.self in
    left-stands c.args.actor.now f k c.args.state.now.progress c.args.next c.args.at c.args.round c.args.number
    c.leave-answer.result c.args.state.now.patience c.requires.waits c.requires.turn c.leave-answer.ensures.leaves
    c.leave-answer.ensures.waits c.leave-answer.ensures.told

pub retry-requires-clause-some : goal.retry-requires-clause-some
retry-requires-clause-some g c =
    let f = at_hand g.F.SharedFloor.shared g.G.Gate.begun g.G.Gate.ended c.args.clerk.now in
    (waiting-can c.args.actor.now f c.args.state.now.progress c.args.state.now.patience c.args.next c.args.at
    c.args.round c.args.number c.requires.waits c.requires.turn).back.back.some

pub retry-requires-clause-left : goal.retry-requires-clause-left
retry-requires-clause-left g c =
    retry-left (role c.args.actor.now) c.args.state.now.patience c.leave-answer.result
    (sym c.retries.ensures ∙ c.if-retries.true)

pub returns-then-retries-clause-did : goal.returns-then-retries-clause-did
returns-then-retries-clause-did g c =
    let f = at_hand g.F.SharedFloor.shared g.G.Gate.begun g.G.Gate.ended c.args.clerk.now in
    let k = at_hand g.F.SharedFloor.shared g.G.Gate.begun g.G.Gate.ended c.leave-answer.new.self in
    let d = at_hand g.F.SharedFloor.shared g.G.Gate.begun g.G.Gate.ended c.retry.new.clerk in
    on-ok-both c.retry.result
    (λ did patience. again-turned c.args.actor.now f k c.args.state.now.progress c.args.next c.args.at c.args.round
    c.args.number c.args.state.now.patience c.leave-answer.result c.requires.waits c.requires.turn
    c.leave-answer.ensures.leaves c.leave-answer.ensures.waits c.leave-answer.ensures.told
    (sym c.retries.ensures ∙ c.if-retries.true) d _ _ c.requires.long patience did)
    c.retry.ensures.did c.retry.ensures.patience

pub returns-clause-did : goal.returns-clause-did
returns-clause-did g c =
    let f = at_hand g.F.SharedFloor.shared g.G.Gate.begun g.G.Gate.ended c.args.clerk.now in
    let k = at_hand g.F.SharedFloor.shared g.G.Gate.begun g.G.Gate.ended c.leave-answer.new.self in
    let d = at_hand g.F.SharedFloor.shared g.G.Gate.begun g.G.Gate.ended c.give_up.new.clerk in
    gave-up-turned c.args.actor.now f k d c.args.state.now.progress c.args.next c.args.at c.args.round c.args.number
    c.leave-answer.result c.args.state.now.patience c.in_ok-end.end c.requires.waits c.requires.turn
    c.leave-answer.ensures.leaves c.leave-answer.ensures.waits c.leave-answer.ensures.told c.requires.long
    (sym c.retries.ensures ∙ c.if-retries.false) c.in_ok-end.ensures.end c.in_ok-end.ensures.did
