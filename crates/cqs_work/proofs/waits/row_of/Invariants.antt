use Rattle.std.proofs.Common.{take, flat_map}
use Rattle.cqs_work.specs.Rows.{IsRow}
use Rattle.cqs_work.proofs.waits.row_of.Given as goal

abbrev pub invariant-loop-own : goal.invariant-loop-own
invariant-loop-own l = IsRow l.at (flat_map (λ own. own.items) (take l.own-index l.waits)) l.row.items
