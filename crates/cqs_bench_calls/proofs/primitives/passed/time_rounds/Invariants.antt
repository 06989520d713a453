use Rattle.cqs_semaphore.specs.Callers.{IsIdle}
use Rattle.cqs_bench_calls.proofs.primitives.passed.time_rounds.Given as goal

-- between two rounds the pass owes nothing and waits for nothing
abbrev pub invariant-loop : goal.invariant-loop
invariant-loop g l = IsIdle l.semaphore l.pass
