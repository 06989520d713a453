use Rattle.std.proofs.Common.{◌≡◌, ◌++◌, [], drop}
use Rattle.cqs_lines.specs.Forms.{lines_text}
use Rattle.cqs_replay.specs.EntryLines.{entry_says}
use Rattle.cqs_replay.proofs.entries.write_entries.Given as goal

abbrev pub invariant-loop-entry : goal.invariant-loop-entry
invariant-loop-entry l =
    l.text.items ++ lines_text entry_says (drop l.entry-index l.entries) []
    ≡ l.initial.text.items ++ lines_text entry_says l.entries []
