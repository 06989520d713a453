use Rattle.cqs_semaphore.specs.Callers.{IsHolder}
use Rattle.cqs_test_sleep.proofs.sleeper.give_back.Given as goal

-- between two tries the pass holds the permit
abbrev pub invariant-loop : goal.invariant-loop
invariant-loop g l = IsHolder l.semaphore l.pass
