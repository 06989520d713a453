use Rattle.cqs_rule.specs.Passes.{pass_view}
use Rattle.cqs_rule.specs.Waits.{HasWait}
use Rattle.cqs_rule_laws.specs.CallRule.{IsReady}
use Rattle.cqs_barrier.specs.Calls.{IsMine}
use Rattle.cqs_barrier.specs.Waits.{wait_in}
use Rattle.cqs_waiter.specs.Arrivals.{StillLooks}
use Rattle.cqs_waiter.specs.Meetings.{party_calls}
use Rattle.cqs_waiter.proofs.barriers.arrive_wait.Given as goal

abbrev pub invariant-loop : goal.invariant-loop
invariant-loop g l = record {
  belongs : IsMine l.barrier l.pass;
  ready : IsReady (pass_view l.pass).facts;
  has : HasWait (pass_view l.pass) (wait_in l.wait);
  looks : StillLooks party_calls (pass_view l.fn.pass) l.wait (pass_view l.pass);
}
