use Rattle.cqs_latch.proofs.Kept.{keeps-looked}
use Rattle.cqs_latch.proofs.latch.Latch.catch_up.Goals as goal

pub returns-clause-keeps : goal.returns-clause-keeps
returns-clause-keeps g c = keeps-looked _ _ c.catch_up.ensures.looked
