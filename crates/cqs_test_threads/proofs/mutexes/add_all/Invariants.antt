use Rattle.cqs_rule.specs.Passes.{pass_view}
use Rattle.cqs_rule_laws.specs.CallRule.{IsReady}
use Rattle.cqs_mutex.specs.Mutexes.{Belongs}
use Rattle.cqs_test_threads.proofs.mutexes.add_all.Given as goal

-- between two rounds the pass is ready
abbrev pub invariant-loop-round : goal.invariant-loop-round
invariant-loop-round g l = record { belongs : Belongs l.mutex l.pass; ready : IsReady (pass_view l.pass).facts }
