use Rattle.std.proofs.Common.{take}
use Rattle.cqs_work.specs.Rows.{IsRowAfter}
use Rattle.cqs_work.proofs.waits.add_waits.Given as goal

abbrev pub invariant-loop-wait : goal.invariant-loop-wait
invariant-loop-wait l = IsRowAfter l.at (take l.wait-index l.waits) l.initial.row.items l.row.items
