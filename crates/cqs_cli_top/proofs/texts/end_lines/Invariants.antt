use Rattle.std.proofs.Common.{◌≡◌, ◌++◌, drop}
use Rattle.cqs_cli_top.specs.WorkText.{ends_text}
use Rattle.cqs_cli_top.proofs.texts.end_lines.Given as goal

abbrev pub invariant-loop-at : goal.invariant-loop-at
invariant-loop-at g l = record {
  whole : l.report ++ ends_text (drop l.at l.resource-items) l.at (g.F.SharedFloor.shared l.initial.floor)
      ≡ ends_text l.resource-items 0 (g.F.SharedFloor.shared l.initial.floor);
  floor : g.F.SharedFloor.shared l.floor ≡ g.F.SharedFloor.shared l.initial.floor;
}
