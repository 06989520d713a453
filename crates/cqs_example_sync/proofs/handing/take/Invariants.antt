use Rattle.cqs_sync_semaphore.specs.Callers.{IsAtRest}
use Rattle.cqs_example_sync.proofs.handing.take.Given as goal

-- between two tries the taker holds nothing, and has no wait
abbrev pub invariant-loop : goal.invariant-loop
invariant-loop g l = record { rest : IsAtRest l.semaphore 0 l.taker }
