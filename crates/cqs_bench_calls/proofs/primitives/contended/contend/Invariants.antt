use Rattle.cqs_semaphore.specs.Callers.{IsIdle}
use Rattle.cqs_bench_calls.proofs.primitives.contended.contend.Given as goal

-- between two rounds the pass is idle
abbrev pub invariant-loop : goal.invariant-loop
invariant-loop g l = IsIdle l.semaphore l.pass
