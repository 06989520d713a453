use Rattle.cqs_rule.specs.Passes.{pass_view}
use Rattle.cqs_rule_laws.specs.CallRule.{IsReady}
use Rattle.cqs_pool_values.specs.Pools.{Belongs}
use Rattle.cqs_test_threads.proofs.pools.take_all.Given as goal

-- between two takes the pass is ready
abbrev pub invariant-loop-taken : goal.invariant-loop-taken
invariant-loop-taken l = record { belongs : Belongs l.pool l.pass; ready : IsReady (pass_view l.pass).facts }
