use Rattle.std.proofs.Common.{sym, ◌∙◌}
use Rattle.cqs_latch.proofs.Kept.{keeps-looked}
use Rattle.cqs_latch.proofs.latch.Latch.sole.Goals as goal

pub returns-clause-others : goal.returns-clause-others
returns-clause-others g c = λ alone.
    c.sole.ensures.belongs.alone c.sole.new.pass.live.0 (sym c.sole.ensures.alone ∙ alone)

pub returns-clause-keeps : goal.returns-clause-keeps
returns-clause-keeps g c = keeps-looked _ _ c.sole.ensures.looked
