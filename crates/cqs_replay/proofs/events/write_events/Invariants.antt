use Rattle.std.proofs.Common.{◌≡◌, ◌++◌, [], drop}
use Rattle.cqs_lines.specs.Forms.{lines_text}
use Rattle.cqs_replay.specs.EventLines.{event_says}
use Rattle.cqs_replay.proofs.events.write_events.Given as goal

abbrev pub invariant-loop-event : goal.invariant-loop-event
invariant-loop-event l =
    l.text.items ++ lines_text event_says (drop l.event-index l.events) []
    ≡ l.initial.text.items ++ lines_text event_says l.events []
