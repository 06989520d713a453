use Rattle.cqs_semaphore.specs.Callers.{IsIdle}
use Rattle.cqs_test_sleep.proofs.crew.give_all.Given as goal

-- between two gifts the pass is idle
abbrev pub invariant-loop-permit : goal.invariant-loop-permit
invariant-loop-permit g l = IsIdle l.semaphore l.pass

-- and while others may run
abbrev pub invariant-loop : goal.invariant-loop
invariant-loop g l = IsIdle l.semaphore l.pass
