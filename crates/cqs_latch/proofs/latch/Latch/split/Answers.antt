use Rattle.std.proofs.Common.{refl}
use Rattle.cqs_latch.proofs.Kept.{keeps-looked}
use Rattle.cqs_latch.proofs.latch.Latch.split.Goals as goal

pub returns-clause-keeps : goal.returns-clause-keeps
returns-clause-keeps g c = keeps-looked _ _ (c.split.ensures.looked refl)
