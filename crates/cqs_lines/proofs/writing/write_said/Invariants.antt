use Rattle.std.proofs.Common.{◌≡◌, ◌++◌, drop}
use Rattle.cqs_lines.specs.Said.{tail_text}
use Rattle.cqs_lines.proofs.writing.write_said.Given as goal

abbrev pub invariant-loop-number : goal.invariant-loop-number
invariant-loop-number l =
    l.text.items ++ tail_text (drop l.number-index l.numbers)
    ≡ l.initial.text.items ++ tail_text l.numbers
