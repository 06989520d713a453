use Rattle.cqs_rule.specs.Passes.{pass_view}
use Rattle.cqs_rule_laws.specs.CallRule.{IsReady}
use Rattle.cqs_mutex.specs.Mutexes.{Belongs}
use Rattle.cqs_test_threads.proofs.mutexes.lock.Given as goal

-- between two tries the pass is ready
abbrev pub invariant-loop : goal.invariant-loop
invariant-loop g l = record { belongs : Belongs l.mutex l.pass; ready : IsReady (pass_view l.pass).facts }
