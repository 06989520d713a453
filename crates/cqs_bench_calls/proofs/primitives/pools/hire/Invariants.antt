use Rattle.std.proofs.Common.{All}
use Rattle.cqs_bench_calls.specs.Idle.{IsIdleAtPool}
use Rattle.cqs_bench_calls.proofs.primitives.pools.hire.Given as goal

-- the passes that were made so far are idle
abbrev pub invariant-loop : goal.invariant-loop
invariant-loop l = IsIdleAtPool l.pool l.pass × All (IsIdleAtPool l.pool) l.passes.items
