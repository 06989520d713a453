use Rattle.std.proofs.Common.{map}
use Rattle.cqs_work.specs.Worked.{AreEnds}
use Rattle.cqs_work.proofs.plans.ends_of.Given as goal

abbrev pub invariant-loop-place : goal.invariant-loop-place
invariant-loop-place l = AreEnds l.place (map (λ own. own.items) l.states) l.ends.items
