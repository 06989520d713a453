use Rattle.cqs_test_threads.specs.Rest.{IsAtRest}
use Rattle.cqs_test_threads.proofs.latches.worker.count.Given as goal

-- between two tries the pass is at rest
abbrev pub invariant-loop : goal.invariant-loop
invariant-loop g l = record { rest : IsAtRest l.latch l.pass }
