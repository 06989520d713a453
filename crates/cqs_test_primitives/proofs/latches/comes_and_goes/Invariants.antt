use Rattle.cqs_rule.specs.Passes.{pass_view}
use Rattle.cqs_rule_laws.specs.CallRule.{IsReady}
use Rattle.cqs_latch.specs.Calls.{IsMine}
use Rattle.cqs_test_primitives.proofs.latches.comes_and_goes.Given as goal

-- between two rounds the pass is ready
abbrev pub invariant-loop : goal.invariant-loop
invariant-loop l = record { belongs : IsMine l.latch l.pass; ready : IsReady (pass_view l.pass).facts }
