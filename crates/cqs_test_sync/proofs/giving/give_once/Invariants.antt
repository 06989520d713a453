use Rattle.std.proofs.Common.{◌-◌}
use Rattle.cqs_sync_semaphore.specs.Callers.{HasGiven}
use Rattle.cqs_test_sync.specs.Callers.{held_by}
use Rattle.cqs_test_sync.proofs.giving.give_once.Given as goal

-- between two calls the permit is on its way, or has arrived
abbrev pub invariant-loop : goal.invariant-loop
invariant-loop g l = record { given : HasGiven l.semaphore (held_by l.fn.pass - 1) l.given l.pass }
