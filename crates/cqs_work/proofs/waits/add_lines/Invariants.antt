use Rattle.std.proofs.Common.{◌≡◌, ◌++◌, take}
use Rattle.cqs_work.specs.Rows.{lines_from}
use Rattle.cqs_work.proofs.waits.add_lines.Given as goal

abbrev pub invariant-loop-number : goal.invariant-loop-number
invariant-loop-number l = l.lines.items ≡ l.initial.lines.items ++ lines_from l.at 0 (take l.number l.row)
