use Rattle.cqs_turns_report.specs.Coming.{text_in}
use Rattle.cqs_turns_report.specs.Roles.{role, scene}
use Rattle.cqs_turns_report.specs.Turns.{Role, Scene}
use Rattle.cqs_turns_report.proofs.Growth.{comes-off}
use Rattle.cqs_turns.proofs.GivingBack.{holds-next, gives-next, giving-prefix}
use Rattle.cqs_turns.proofs.acts.give_all.Goals as goal

pub give-requires-clause-holds : goal.give-requires-clause-holds
give-requires-clause-holds g c = holds-next _ _ _ _ _ c.loop-at.invariant c.loop-at-test.true

pub returns-in_err-give-clause-comes : goal.returns-in_err-give-clause-comes
returns-in_err-give-clause-comes g c =
    let r : Role = role c.args.actor.now in
    let start : Scene = scene (g.F.Floor.plain c.args.floor.now) c.args.report.now in
    let now : Scene = scene (g.F.Floor.plain c.loop-at.floor) c.loop-at.report in
    comes-off text_in c.from_residual.result _ _ c.from_residual.ensures.0
    (rw (← c.deref-at-items.ensures.value, c.in_err-give.ensures.err)
    (giving-prefix r c.deref-at-items.result.now c.loop-at.at-index start now c.loop-at.invariant))

pub loop-at-preserved : goal.loop-at-preserved
loop-at-preserved g c = gives-next _ _ _ _ _ _ c.loop-at.invariant c.loop-at-test.true c.in_ok-give.ensures.ok
