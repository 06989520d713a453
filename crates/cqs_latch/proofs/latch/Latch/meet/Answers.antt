use Rattle.std.proofs.Common.{refl, ap}
use Rattle.cqs_rule.specs.Passes.{pass_view}
use Rattle.cqs_latch.proofs.Kept.{keeps-met}
use Rattle.cqs_latch.proofs.latch.Latch.meet.Goals as goal

pub returns-clause-keeps : goal.returns-clause-keeps
returns-clause-keeps g c =
    keeps-met c.meet.result _ _ _ _ _ _ (λ same. ap pass_view same) c.meet.ensures.unchanged c.meet.ensures.met refl
