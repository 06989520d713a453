use Rattle.std.proofs.Common.{◌<◌}
use Rattle.cqs_rule.specs.Passes.{pass_view}
use Rattle.cqs_rule_laws.specs.CallRule.{IsReady}
use Rattle.cqs_barrier.specs.Calls.{IsMine}
use Rattle.cqs_test_primitives.proofs.barriers.passing.the_last_passes_over_65_who_left.Given as goal

-- each time the party has come and gone
abbrev pub invariant-loop-time : goal.invariant-loop-time
invariant-loop-time g l = record {
  belongs : IsMine l.barrier l.second;
  ready : IsReady (pass_view l.second).facts;
  holds : 0 < (pass_view l.second).facts.has.held;
}
