use Rattle.cqs_sync_semaphore.specs.Callers.{HasGiven}
use Rattle.cqs_example_sync.proofs.handing.give.Given as goal

-- between two calls the permit is gone, or back, or still to be passed on
abbrev pub invariant-loop : goal.invariant-loop
invariant-loop g l = record { given : HasGiven l.semaphore 0 l.given l.giver }
