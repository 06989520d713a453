use Rattle.cqs_turns_report.specs.Roles.{wait_at}
use Rattle.cqs_turns_report.proofs.Readied.{leave-held}
use Rattle.cqs_work.proofs.WaitCalls.{leave-did}
use Rattle.cqs_work.proofs.Acting.{if-ok, on-ok}
use Rattle.cqs_work.proofs.acts.leave.Goals as goal

pub returns-clause-did : goal.returns-clause-did
returns-clause-did g c =
    if-ok c.hold_late.result
    (λ end is. leave-did c.args.actor.now _ _ c.args.at c.args.round c.args.number c.leave-answer.result end
    c.requires.stands c.leave-answer.ensures.leaves c.leave-answer.ensures.waits c.leave-answer.ensures.told is)
    c.hold_late.ensures.end

pub returns-clause-held : goal.returns-clause-held
returns-clause-held g c =
    let wait = wait_at c.args.at c.args.round c.args.number in
    let left = c.leave-answer.ensures.leaves.at wait c.requires.stands.ready.waits in
    on-ok c.hold_late.result
    (λ held. rw (
      left.board,
      leave-held _ c.args.actor.now.resources.now _ wait c.leave-answer.result
          c.requires.stands.kinds c.requires.stands.ready.job c.requires.stands.ready.waits,
      ← c.requires.held,
    ) held)
    c.hold_late.ensures.held
