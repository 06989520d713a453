use Rattle.cqs_rule.specs.Passes.{pass_view}
use Rattle.cqs_rule.specs.Waits.{HasWait}
use Rattle.cqs_rule_laws.specs.CallRule.{IsReady}
use Rattle.cqs_latch.specs.Calls.{IsMine}
use Rattle.cqs_waiter.specs.Arrivals.{StillLooks}
use Rattle.cqs_waiter.specs.Passages.{latch_calls}
use Rattle.cqs_waiter.proofs.latches.wait_open.Given as goal

abbrev pub invariant-loop : goal.invariant-loop
invariant-loop g l = record {
  belongs : IsMine l.latch l.pass;
  ready : IsReady (pass_view l.pass).facts;
  has : HasWait (pass_view l.pass) l.wait;
  looks : StillLooks latch_calls (pass_view l.fn.pass) l.wait (pass_view l.pass);
}
