use Rattle.cqs_check.proofs.Changing.{IsRaising}
use Rattle.cqs_check.proofs.counts.Counts.raise.Given as goal

abbrev pub invariant-parents : goal.invariant-parents
invariant-parents l = IsRaising l.fn.self l.fn.number l.self l.node

abbrev pub decreases-parents : goal.decreases-parents
decreases-parents l = l.node
