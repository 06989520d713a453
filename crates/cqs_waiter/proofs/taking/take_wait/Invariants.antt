use Rattle.cqs_rule.specs.Passes.{pass_view}
use Rattle.cqs_rule.specs.Waits.{HasWait}
use Rattle.cqs_rule_laws.specs.CallRule.{IsReady}
use Rattle.cqs_pool_values.specs.Pools.{Belongs}
use Rattle.cqs_waiter.specs.Arrivals.{StillLooks}
use Rattle.cqs_waiter.specs.Takes.{take_calls}
use Rattle.cqs_waiter.proofs.taking.take_wait.Given as goal

abbrev pub invariant-loop : goal.invariant-loop
invariant-loop g l = record {
  belongs : Belongs l.pool l.pass;
  ready : IsReady (pass_view l.pass).facts;
  has : HasWait (pass_view l.pass) l.wait;
  looks : StillLooks take_calls (pass_view l.fn.pass) l.wait (pass_view l.pass);
}
