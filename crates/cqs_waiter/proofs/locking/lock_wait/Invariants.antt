use Rattle.cqs_rule.specs.Passes.{pass_view}
use Rattle.cqs_rule.specs.Waits.{HasWait}
use Rattle.cqs_rule_laws.specs.CallRule.{IsReady}
use Rattle.cqs_mutex.specs.Guards.{wait_in}
use Rattle.cqs_mutex.specs.Mutexes.{Belongs}
use Rattle.cqs_waiter.specs.Arrivals.{StillLooks}
use Rattle.cqs_waiter.specs.Locks.{lock_calls}
use Rattle.cqs_waiter.proofs.locking.lock_wait.Given as goal

abbrev pub invariant-loop : goal.invariant-loop
invariant-loop g l = record {
  belongs : Belongs l.mutex l.pass;
  ready : IsReady (pass_view l.pass).facts;
  has : HasWait (pass_view l.pass) (wait_in l.wait);
  looks : StillLooks lock_calls (pass_view l.fn.pass) l.wait (pass_view l.pass);
}
