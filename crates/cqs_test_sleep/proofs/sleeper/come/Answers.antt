use Rattle.std.proofs.Common.{None}
use Rattle.cqs_rule.specs.Passes.{pass_view}
use Rattle.cqs_test_sleep.proofs.Holding.{arrived-holds}
use Rattle.cqs_test_sleep.proofs.sleeper.come.Goals as goal

-- the permit came
pub returns-in-Ok-clause-holder : goal.returns-in-Ok-clause-holder
returns-in-Ok-clause-holder g c =
    let arrives = rw c.in-Ok.is at c.acquire_wait.ensures.arrives in
    record {
      idle = record { belongs = c.acquire_wait.ensures.belongs; ready = c.acquire_wait.ensures.ready };
      holds = arrived-holds (pass_view c.loop.pass) (pass_view c.acquire_wait.new.pass) c.in-Ok.permit arrives;
    }
