use Rattle.std.proofs.Common.{◌≡◌, ◌<◌}
use Rattle.cqs_plan.specs.LegalFloor.{IsLegalFloor}
use Rattle.cqs_turns.proofs.Ends.{EndingOn}
use Rattle.cqs_turns.proofs.runs.tell_ends.Given as goal

abbrev pub invariant-loop-at : goal.invariant-loop-at
invariant-loop-at g l = record {
  on : EndingOn l.resource-items l.at (g.F.Floor.plain l.initial.floor) l.initial.report l.report;
  floor : g.F.Floor.plain l.floor ≡ g.F.Floor.plain l.initial.floor;
  legal : 0 < l.at → IsLegalFloor (g.F.Floor.plain l.floor);
}
