use Rattle.std.proofs.Common.{◌<◌}
use Rattle.cqs_rule.specs.Passes.{pass_view}
use Rattle.cqs_rule_laws.specs.CallRule.{IsReady}
use Rattle.cqs_mutex.specs.Mutexes.{Belongs}
use Rattle.cqs_test_threads.proofs.mutexes.leave.Given as goal

-- between two tries the pass holds the mutex
abbrev pub invariant-loop : goal.invariant-loop
invariant-loop g l = record {
  belongs : Belongs l.mutex l.pass;
  ready : IsReady (pass_view l.pass).facts;
  holds : 0 < (pass_view l.pass).facts.has.held;
}
