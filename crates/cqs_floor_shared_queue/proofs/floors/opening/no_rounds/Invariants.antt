use Rattle.std.proofs.Common.{◌≡◌, map, replicate}
use Rattle.cqs_floor_shared_queue.proofs.floors.opening.no_rounds.Given as goal

abbrev pub invariant-loop-job : goal.invariant-loop-job
invariant-loop-job l = record {
  none : map (λ own. own.items) l.rounds.items ≡ replicate l._job (replicate l.resources 0);
}
