use Rattle.cqs_rule.specs.Passes.{pass_view}
use Rattle.cqs_semaphore_crew.specs.Sums.{KeepsCalls}
use Rattle.cqs_semaphore_crew.specs.Tallies.{Adds}
use Rattle.cqs_semaphore.specs.Callers.{held_by, IsAtRest}
use Rattle.cqs_semaphore_crew.proofs.giving.give_back.Given as goal

-- between two tries the pass holds what it held, with the permit
abbrev pub invariant-loop : goal.invariant-loop
invariant-loop g l = record {
  rest : IsAtRest l.semaphore (held_by l.fn.pass) l.pass;
  adds : Adds 0 0 (pass_view l.fn.pass) l.fn.counts (pass_view l.pass) l.counts;
  keeps : KeepsCalls l.fn.counts l.counts;
}
