use Rattle.cqs_turns_report.specs.Roles.{role, scene}
use Rattle.cqs_turns.proofs.GivingBack.{GivingBack}
use Rattle.cqs_turns.proofs.acts.give_all.Given as goal

abbrev pub invariant-loop-at : goal.invariant-loop-at
invariant-loop-at g l =
    GivingBack (role l.actor) l.at-items l.at-index (scene (g.F.Floor.plain l.initial.floor) l.initial.report)
    (scene (g.F.Floor.plain l.floor) l.report)
