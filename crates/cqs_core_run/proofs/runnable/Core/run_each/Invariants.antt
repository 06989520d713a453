use Rattle.std.proofs.Common.{◌≡◌, ◌+◌, ◌≤◌, Some, take}
use Rattle.cqs_core_run.specs.EventRuns.{run_all, run_at}
use Rattle.cqs_core_run.proofs.runnable.Core.run_each.Given as goal

abbrev pub invariant-loop-place : goal.invariant-loop-place
invariant-loop-place l = record {
  run : run_all (run_at l.initial.self.shape l.initial.outcomes.items) (take l.place l.events)
      ≡ Some (run_at l.self.shape l.outcomes.items);
  spare : l.initial.self.spare ≤ l.self.spare + l.place;
  room : l.initial.outcomes.spare ≤ l.outcomes.spare + l.place;
}
