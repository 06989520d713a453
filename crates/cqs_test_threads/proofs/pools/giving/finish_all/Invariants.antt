use Rattle.cqs_test_threads.specs.Workers.{IsOwing}
use Rattle.cqs_test_threads.proofs.pools.giving.finish_all.Given as goal

-- between two calls the element is still on its way
abbrev pub invariant-loop : goal.invariant-loop
invariant-loop g l = record { owing : IsOwing l.pool l.under l.pass }
