use Rattle.cqs_sync_semaphore.specs.Callers.{IsWaiting}
use Rattle.cqs_example_sync.proofs.handing.look_for.Given as goal

-- between two looks the wait goes on
abbrev pub invariant-loop : goal.invariant-loop
invariant-loop g l = record { waits : IsWaiting l.semaphore 0 l.wait l.taker }
