use Rattle.cqs_test_threads.specs.Workers.{IsAtRest}
use Rattle.cqs_test_threads.proofs.pools.worker.seek.Given as goal

-- between two tries the pass is at rest
abbrev pub invariant-loop : goal.invariant-loop
invariant-loop g l = record { rest : IsAtRest l.pool l.pass }
