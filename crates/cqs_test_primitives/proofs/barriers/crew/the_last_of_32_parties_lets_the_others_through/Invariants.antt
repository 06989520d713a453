use Rattle.std.proofs.Common.{◌≡◌, ◌+◌}
use Rattle.cqs_rule.specs.Passes.{pass_view}
use Rattle.cqs_rule_laws.specs.CallRule.{IsReady}
use Rattle.cqs_barrier.specs.Calls.{IsMine}
use Rattle.cqs_test_primitives.proofs.barriers.crew.the_last_of_32_parties_lets_the_others_through.Given as goal

-- one party has arrived each time
abbrev pub invariant-loop-number : goal.invariant-loop-number
invariant-loop-number g l = record {
  belongs : IsMine l.barrier l.pass;
  ready : IsReady (pass_view l.pass).facts;
  held : l.number-counter + (pass_view l.pass).facts.has.held ≡ 32;
}
