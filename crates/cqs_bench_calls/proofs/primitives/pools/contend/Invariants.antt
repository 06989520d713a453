use Rattle.cqs_bench_calls.specs.Idle.{IsIdleAtPool}
use Rattle.cqs_bench_calls.proofs.primitives.pools.contend.Given as goal

-- between two rounds the pass is idle
abbrev pub invariant-loop : goal.invariant-loop
invariant-loop g l = IsIdleAtPool l.pool l.pass
