use Rattle.std.proofs.Common.{◌≡◌}
use Rattle.cqs_turns_report.specs.Turns.{places_held}
use Rattle.cqs_work.specs.Hands.{at_hand}
use Rattle.cqs_work.proofs.Acting.{SteppingOn}
use Rattle.cqs_work.proofs.acts.make_steps.Given as goal

abbrev pub invariant-loop-next : goal.invariant-loop-next
invariant-loop-next g l = record {
  on : SteppingOn l.actor (at_hand g.F.SharedFloor.shared g.G.Gate.begun g.G.Gate.ended l.initial.clerk) l.first
      l.next
      (at_hand g.F.SharedFloor.shared g.G.Gate.begun g.G.Gate.ended l.clerk);
  held : l.held.items ≡ places_held (g.F.SharedFloor.shared l.clerk.floor).board l.actor.place;
}
