use Rattle.cqs_check.proofs.Changing.{IsLowering}
use Rattle.cqs_check.proofs.counts.Counts.lower.Given as goal

abbrev pub invariant-parents : goal.invariant-parents
invariant-parents l = IsLowering l.fn.self l.fn.number l.self l.node

abbrev pub decreases-parents : goal.decreases-parents
decreases-parents l = l.node
