use Rattle.std.proofs.Common.{◌-◌, ◌^◌}
use Rattle.cqs_rule.specs.Owed.{under_reached}
use Rattle.cqs_semaphore.specs.Callers.{held_by, IsOwing}
use Rattle.cqs_example_semaphore.proofs.finish.Given as goal

-- between two calls the permit is still on its way
abbrev pub invariant-arrive : goal.invariant-arrive
invariant-arrive l = IsOwing l.semaphore (held_by l.fn.pass) l.under l.pass

-- each call draws further numbers
abbrev pub decreases-arrive : goal.decreases-arrive
decreases-arrive l = 2 ^ 64 - under_reached l.under
