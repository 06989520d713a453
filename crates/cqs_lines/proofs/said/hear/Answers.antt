use Rattle.std.proofs.Common.{rules, ◌≡◌}
use Rattle.cqs_lines.proofs.Texts.{spaceless, unheard, heard}
use Rattle.cqs_lines.proofs.said.hear.Goals as goal

pub returns-in_default : goal.returns-in_default
returns-in_default c = λ s. spaceless _ s c.in_default.ensures

pub returns-in-None : goal.returns-in-None
returns-in-None c = unheard _ _ _ c.in-Some.ensures (rw c.in-None.is at c.in_ok-numbers.ensures)
