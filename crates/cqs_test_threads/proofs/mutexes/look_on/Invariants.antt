use Rattle.cqs_rule.specs.Passes.{pass_view}
use Rattle.cqs_rule.specs.Waits.{HasWait}
use Rattle.cqs_rule_laws.specs.CallRule.{IsReady}
use Rattle.cqs_mutex.specs.Guards.{wait_in}
use Rattle.cqs_mutex.specs.Mutexes.{Belongs}
use Rattle.cqs_test_threads.proofs.mutexes.look_on.Given as goal

-- between two looks the wait goes on
abbrev pub invariant-loop : goal.invariant-loop
invariant-loop l = record {
  belongs : Belongs l.mutex l.pass;
  ready : IsReady (pass_view l.pass).facts;
  has : HasWait (pass_view l.pass) (wait_in l.wait);
}
