use Rattle.std.proofs.Common.{[]}
use Rattle.cqs_rule.specs.Passes.{pass_view}
use Rattle.cqs_semaphore.specs.Calls.{Course}
use Rattle.cqs_semaphore_crew.specs.Sums.{KeepsCalls}
use Rattle.cqs_semaphore_crew.specs.Tallies.{Adds}
use Rattle.cqs_semaphore.specs.Callers.{held_by, IsOwing}
use Rattle.cqs_semaphore_crew.proofs.giving.finish_all.Given as goal

-- between two calls the permit is still on its way
abbrev pub invariant-loop : goal.invariant-loop
invariant-loop g l = record {
  owing : IsOwing l.semaphore (held_by l.fn.pass) l.under l.pass;
  adds : Adds 1 1 (pass_view l.fn.pass) l.fn.counts (pass_view l.pass) l.counts;
  keeps : KeepsCalls l.fn.counts l.counts;
  silent : Course (pass_view l.fn.pass) [] (pass_view l.pass);
}
