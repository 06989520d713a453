use Rattle.cqs_sync_semaphore.specs.Callers.{IsAtRest}
use Rattle.cqs_test_sync.proofs.working.work.Given as goal

-- between two rounds the pass is at rest
abbrev pub invariant-loop : goal.invariant-loop
invariant-loop g l = record { rest : IsAtRest l.semaphore 0 l.pass }
