use Rattle.cqs_semaphore.specs.Callers.{IsIdle}
use Rattle.cqs_test_sleep.proofs.sleeper.come.Given as goal

-- between two tries the pass is idle
abbrev pub invariant-loop : goal.invariant-loop
invariant-loop g l = IsIdle l.semaphore l.pass
