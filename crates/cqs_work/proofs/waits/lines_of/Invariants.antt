use Rattle.std.proofs.Common.{flat_map}
use Rattle.cqs_plan.specs.Runnable.{kinds_of}
use Rattle.cqs_work.specs.Rows.{AreLines}
use Rattle.cqs_work.proofs.waits.lines_of.Given as goal

abbrev pub invariant-loop-at : goal.invariant-loop-at
invariant-loop-at l = AreLines (kinds_of l.resources) (flat_map (λ own. own.items) l.waits) l.at l.lines.items
