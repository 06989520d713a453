use Rattle.cqs_sync_semaphore.specs.Callers.{IsWaiting}
use Rattle.cqs_test_sync.specs.Callers.{held_by}
use Rattle.cqs_test_sync.proofs.working.wait_for.Given as goal

-- between two looks the wait goes on
abbrev pub invariant-loop : goal.invariant-loop
invariant-loop l = record { waits : IsWaiting l.semaphore (held_by l.fn.pass) l.wait l.pass }
