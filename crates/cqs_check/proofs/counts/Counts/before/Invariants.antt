use Rattle.cqs_check.proofs.Going.{IsGoing}
use Rattle.cqs_check.proofs.counts.Counts.before.Given as goal

abbrev pub invariant-levels : goal.invariant-levels
invariant-levels l = IsGoing l.self.nodes.items l.self.size l.number l.base l.place l.total

abbrev pub decreases-levels : goal.decreases-levels
decreases-levels l = l.base
