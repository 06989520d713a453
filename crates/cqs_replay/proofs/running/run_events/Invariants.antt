use Rattle.std.proofs.Common.{◌≡◌, drop}
use Rattle.cqs_replay.specs.Runs.{after_events}
use Rattle.cqs_replay.proofs.running.run_events.Given as goal

abbrev pub invariant-loop-event : goal.invariant-loop-event
invariant-loop-event l =
    after_events l.core.shape (drop l.event-index l.events)
    ≡ after_events l.initial.core.shape l.events
