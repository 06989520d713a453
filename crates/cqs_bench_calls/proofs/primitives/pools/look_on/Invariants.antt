use Rattle.cqs_rule.specs.Passes.{pass_view}
use Rattle.cqs_rule.specs.Waits.{HasWait}
use Rattle.cqs_bench_calls.specs.Idle.{IsIdleAtPool}
use Rattle.cqs_bench_calls.proofs.primitives.pools.look_on.Given as goal

-- between two looks the wait goes on
abbrev pub invariant-loop : goal.invariant-loop
invariant-loop l = IsIdleAtPool l.pool l.pass × HasWait (pass_view l.pass) l.wait
