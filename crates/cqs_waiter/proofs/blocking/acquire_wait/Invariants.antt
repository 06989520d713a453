use Rattle.cqs_rule.specs.Passes.{pass_view}
use Rattle.cqs_rule.specs.Waits.{HasWait}
use Rattle.cqs_rule_laws.specs.CallRule.{IsReady}
use Rattle.cqs_semaphore.specs.Calls.{IsMine}
use Rattle.cqs_waiter.specs.Arrivals.{StillLooks}
use Rattle.cqs_waiter.specs.Permits.{permit_calls}
use Rattle.cqs_waiter.proofs.blocking.acquire_wait.Given as goal

abbrev pub invariant-loop : goal.invariant-loop
invariant-loop g l = record {
  belongs : IsMine l.semaphore l.pass;
  ready : IsReady (pass_view l.pass).facts;
  has : HasWait (pass_view l.pass) l.wait;
  looks : StillLooks permit_calls (pass_view l.fn.pass) l.wait (pass_view l.pass);
}
