use Rattle.cqs_sync_semaphore.specs.Callers.{IsAtRest}
use Rattle.cqs_example_sync.proofs.handing.await_taker.Given as goal

-- between two looks the giver holds the permit
abbrev pub invariant-loop : goal.invariant-loop
invariant-loop g l = record { rest : IsAtRest l.semaphore 1 l.giver }
