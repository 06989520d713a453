use Rattle.std.proofs.Common.{◌≡◌}
use Rattle.cqs_turns_report.specs.Roles.{role, scene}
use Rattle.cqs_turns_report.specs.Turns.{places_held}
use Rattle.cqs_turns_report.proofs.Stepping.{SteppingOn}
use Rattle.cqs_turns.proofs.acts.make_steps.Given as goal

abbrev pub invariant-loop-next : goal.invariant-loop-next
invariant-loop-next g l = record {
  on : SteppingOn (role l.actor) l.first l.next (scene (g.F.Floor.plain l.initial.floor) l.initial.report)
      (scene (g.F.Floor.plain l.floor) l.report);
  held : l.held.items ≡ places_held (g.F.Floor.plain l.floor) l.actor.place;
}
