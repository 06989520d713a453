use Rattle.std.proofs.Common.{◌≡◌}
use Rattle.cqs_rule.specs.Owed.{HasUnder}
use Rattle.cqs_rule.specs.Passes.{pass_view}
use Rattle.cqs_semaphore.specs.Calls.{IsMine}
use Rattle.cqs_test_sleep.proofs.sleeper.finish.Given as goal

-- between two calls the permit is still on its way
abbrev pub invariant-loop : goal.invariant-loop
invariant-loop g l = record {
  belongs : IsMine l.semaphore l.pass;
  owes : HasUnder (pass_view l.pass).facts l.under;
  further : (pass_view l.pass).facts.has.further ≡ 0;
}
