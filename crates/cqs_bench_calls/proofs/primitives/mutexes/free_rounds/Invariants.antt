use Rattle.cqs_bench_calls.specs.Idle.{IsIdleAtMutex}
use Rattle.cqs_bench_calls.proofs.primitives.mutexes.free_rounds.Given as goal

-- between two rounds the pass is idle
abbrev pub invariant-loop : goal.invariant-loop
invariant-loop l = IsIdleAtMutex l.mutex l.pass
