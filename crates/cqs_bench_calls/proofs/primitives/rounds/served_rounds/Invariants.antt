use Rattle.cqs_semaphore.specs.Callers.{IsHolder}
use Rattle.cqs_bench_calls.proofs.primitives.rounds.served_rounds.Given as goal

-- between two rounds the pass is idle, and has the permit
abbrev pub invariant-loop : goal.invariant-loop
invariant-loop g l = IsHolder l.semaphore l.pass
