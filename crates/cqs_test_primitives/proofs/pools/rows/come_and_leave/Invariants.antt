use Rattle.std.proofs.Common.{◌≡◌}
use Rattle.cqs_rule.specs.Passes.{pass_view}
use Rattle.cqs_rule_laws.specs.CallRule.{IsReady}
use Rattle.cqs_pool.specs.Calls.{IsMine}
use Rattle.cqs_test_primitives.proofs.pools.rows.come_and_leave.Given as goal

-- between two of them the pass is one of the pool, and ready, and has what it had
abbrev pub invariant-loop-number : goal.invariant-loop-number
invariant-loop-number g l = record {
  belongs : IsMine l.pool l.pass;
  ready : IsReady (pass_view l.pass).facts;
  elements : (pass_view l.pass).facts.has.slots ≡ (pass_view l.fn.pass).facts.has.slots;
}
