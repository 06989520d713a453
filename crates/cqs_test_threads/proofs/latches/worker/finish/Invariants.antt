use Rattle.cqs_rule.specs.Passes.{pass_view}
use Rattle.cqs_latch.specs.Calls.{IsMine}
use Rattle.cqs_latch.specs.Owed.{HasOwed}
use Rattle.cqs_test_threads.proofs.latches.worker.finish.Given as goal

-- between two calls some resumptions are still owed
abbrev pub invariant-loop : goal.invariant-loop
invariant-loop g l = record { belongs : IsMine l.latch l.pass; owes : HasOwed (pass_view l.pass).facts l.owed }
