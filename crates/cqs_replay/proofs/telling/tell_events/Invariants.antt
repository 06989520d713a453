use Rattle.std.proofs.Common.{◌≡◌, ◌++◌, ◌+◌, drop}
use Rattle.cqs_replay.specs.Runs.{after_events, told_lines}
use Rattle.cqs_replay.proofs.telling.tell_events.Given as goal

abbrev pub invariant-loop-event : goal.invariant-loop-event
invariant-loop-event l = record {
  told : l.text.items ++ told_lines l.core.shape (drop l.event-index l.events) l.line
      ≡ l.initial.text.items ++ told_lines l.initial.core.shape l.events 2;
  after : after_events l.core.shape (drop l.event-index l.events)
      ≡ after_events l.initial.core.shape l.events;
  line : l.line ≡ l.event-index + 2;
}
