use Rattle.cqs_semaphore.specs.Callers.{held_by, IsWaiting}
use Rattle.cqs_example_semaphore.proofs.wait_for.Given as goal

-- between two looks the wait goes on
abbrev pub invariant-loop : goal.invariant-loop
invariant-loop l = IsWaiting l.semaphore (held_by l.fn.pass) l.wait l.pass
