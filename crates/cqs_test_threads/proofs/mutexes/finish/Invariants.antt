use Rattle.cqs_rule.specs.Passes.{pass_view}
use Rattle.cqs_mutex.specs.Calls.{Owes}
use Rattle.cqs_mutex.specs.Mutexes.{Belongs}
use Rattle.cqs_test_threads.proofs.mutexes.finish.Given as goal

-- between two calls the mutex is still on its way
abbrev pub invariant-loop : goal.invariant-loop
invariant-loop g l = record { belongs : Belongs l.mutex l.pass; owes : Owes l.under (pass_view l.pass) }
