use Rattle.cqs_turns_report.specs.Roles.{wait_at}
use Rattle.cqs_turns_report.specs.declared.states.Progress.TheVariants.{Stepping, Waiting}
use Rattle.cqs_turns_report.proofs.Readied.{look-held}
use Rattle.cqs_work.specs.Hands.{at_hand}
use Rattle.cqs_work.proofs.Acting.{can-then, on-ok-both}
use Rattle.cqs_work.proofs.InTurn.{waiting-can, pending-turned, granted-turned}
use Rattle.cqs_work.proofs.WaitCalls.{granted-did}
use Rattle.cqs_work.proofs.acts.look.Goals as goal

pub move_on-requires-clause-held : goal.move_on-requires-clause-held
move_on-requires-clause-held g c =
    let f = at_hand g.F.SharedFloor.shared g.G.Gate.begun g.G.Gate.ended c.args.clerk.now in
    let wait = wait_at c.args.at c.args.round c.args.number in
    let can = waiting-can c.args.actor.now f c.args.state.now.progress c.args.state.now.patience c.args.next c.args.at
    c.args.round c.args.number c.requires.waits c.requires.turn in
    let looks = c.look.ensures.looks.at wait can.stands.ready.waits in
    rw (
      looks.board,
      c.in-Granted.is,
      look-held _ c.args.actor.now.resources.now _ wait c.in-Granted.field-0
          can.stands.kinds can.stands.ready.job can.stands.ready.waits,
      ← c.requires.held,
    )
    c.in_ok-hold-in-Granted.ensures

pub move_on-requires-clause-can : goal.move_on-requires-clause-can
move_on-requires-clause-can g c =
    let f = at_hand g.F.SharedFloor.shared g.G.Gate.begun g.G.Gate.ended c.args.clerk.now in
    let k = at_hand g.F.SharedFloor.shared g.G.Gate.begun g.G.Gate.ended c.look.new.self in
    let can = waiting-can c.args.actor.now f c.args.state.now.progress c.args.state.now.patience c.args.next c.args.at
    c.args.round c.args.number c.requires.waits c.requires.turn in
    can-then c.args.actor.now f (Waiting c.args.next c.args.at c.args.round c.args.number) _ _ k (Stepping c.args.next)
    can
    (granted-did c.args.actor.now f k c.args.next c.args.at c.args.round c.args.number c.in-Granted.field-0 _
    can c.look.ensures.looks c.look.ensures.waits c.look.ensures.told c.in-Granted.is)

pub returns-in-Pending-clause-did : goal.returns-in-Pending-clause-did
returns-in-Pending-clause-did g c =
    pending-turned c.args.actor.now _ _ c.args.state.now.progress c.args.state.now.patience c.args.next c.args.at
    c.args.round c.args.number _ c.requires.waits c.requires.calm c.requires.turn
    c.look.ensures.looks c.look.ensures.waits c.look.ensures.told c.in-Pending.is

pub returns-in-Pending-clause-held : goal.returns-in-Pending-clause-held
returns-in-Pending-clause-held g c =
    let f = at_hand g.F.SharedFloor.shared g.G.Gate.begun g.G.Gate.ended c.args.clerk.now in
    let can = waiting-can c.args.actor.now f c.args.state.now.progress c.args.state.now.patience c.args.next c.args.at
    c.args.round c.args.number c.requires.waits c.requires.turn in
    let looks = c.look.ensures.looks.at (wait_at c.args.at c.args.round c.args.number) can.stands.ready.waits in
    rw (looks.board, c.in-Pending.is) c.requires.held

pub returns-in_ok-hold-in-Granted-clause-did : goal.returns-in_ok-hold-in-Granted-clause-did
returns-in_ok-hold-in-Granted-clause-did g c =
    let f = at_hand g.F.SharedFloor.shared g.G.Gate.begun g.G.Gate.ended c.args.clerk.now in
    let k = at_hand g.F.SharedFloor.shared g.G.Gate.begun g.G.Gate.ended c.look.new.self in
    on-ok-both c.move_on.result
    (λ did patience. granted-turned c.args.actor.now f k _ c.args.state.now.progress c.args.state.now.patience
    c.args.next c.args.at c.args.round c.args.number c.in-Granted.field-0 _ _ _ c.requires.waits c.requires.calm
    c.requires.turn c.look.ensures.looks c.look.ensures.waits c.look.ensures.told c.in-Granted.is patience did)
    c.move_on.ensures.did c.move_on.ensures.patience
