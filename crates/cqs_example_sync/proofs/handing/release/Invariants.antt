use Rattle.cqs_sync_semaphore.specs.Callers.{IsAtRest}
use Rattle.cqs_example_sync.proofs.handing.release.Given as goal

-- between two tries the giver holds the permit
abbrev pub invariant-loop : goal.invariant-loop
invariant-loop g l = record { rest : IsAtRest l.semaphore 1 l.giver }
