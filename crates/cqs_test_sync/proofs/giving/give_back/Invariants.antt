use Rattle.cqs_sync_semaphore.specs.Callers.{IsAtRest}
use Rattle.cqs_test_sync.specs.Callers.{held_by}
use Rattle.cqs_test_sync.proofs.giving.give_back.Given as goal

-- between two tries the pass holds the permit
abbrev pub invariant-loop : goal.invariant-loop
invariant-loop g l = record { rest : IsAtRest l.semaphore (held_by l.fn.pass) l.pass }
