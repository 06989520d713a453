use Rattle.cqs_rule.specs.Passes.{pass_view}
use Rattle.cqs_semaphore_crew.specs.Sums.{CountsRounds}
use Rattle.cqs_semaphore_crew.specs.Tallies.{Adds}
use Rattle.cqs_semaphore.specs.Callers.{held_by, IsAtRest}
use Rattle.cqs_semaphore_crew.proofs.worker.work.Given as goal

-- between two rounds the pass is at rest, holds what it held at first, and the counts are those of what it made
abbrev pub invariant-loop-round : goal.invariant-loop-round
invariant-loop-round g l = record {
  rest : IsAtRest l.semaphore (held_by l.fn.pass) l.pass;
  adds : Adds 0 0 (pass_view l.fn.pass) l.initial.counts (pass_view l.pass) l.counts;
  calls : CountsRounds l.round l.counts;
}
